-- What is asked of a number, and the number with the other sign (docs/reference/texts.md, "Numbers").
use Rattle.std.specs.Prelude.{ℕ, Bool, true, false, not, ◌&&◌, ◌==◌}
use Rattle.promql_text.specs.Numbers.{IsExact, seconds_of}
use Rattle.promql_text.specs.declared.number.Number.{Number}
use Rattle.promql_text.specs.declared.number.Number.TheVariants.{Finite, Inf, NegInf, NaN}

-- the seconds of so many nanoseconds (private: for proofs alone)
abbrev pub from_nanos : ℕ → Number
from_nanos n = Finite (seconds_of n)

-- the number with the other sign; zero stays zero
abbrev pub neg : Number → Number
neg (Finite d) = Finite (record d { is_negative = not d.is_negative && not (d.digits == 0) })
neg Inf = NegInf
neg NegInf = Inf
neg NaN = NaN

abbrev pub is_nan : Number → Bool
is_nan NaN = true
is_nan _ = false

abbrev pub is_infinite : Number → Bool
is_infinite Inf = true
is_infinite NegInf = true
is_infinite _ = false

abbrev pub is_below_zero : Number → Bool
is_below_zero (Finite d) = d.is_negative
is_below_zero NegInf = true
is_below_zero _ = false

abbrev pub is_zero : Number → Bool
is_zero (Finite d) = d.digits == 0
is_zero _ = false

-- a number in its one form, as all that the program makes are
abbrev pub IsNumber : Number → Type 0
IsNumber (Finite d) = IsExact d
IsNumber _ = Unit {0}
