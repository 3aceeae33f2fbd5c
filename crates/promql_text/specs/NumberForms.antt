-- Which texts are numbers, and which numbers: a relation (docs/reference/texts.md, "The number of a text").
-- White space is left out of these texts.
use Rattle.std.specs.Prelude.{◌≡◌, ◌⊎◌, ℕ, ◌+◌, ◌*◌, ◌^◌, ◌<◌, ◌≤◌, ◌==◌, ◌||◌, Bool, true, false, if◌then◌else◌, [], ◌∷◌, ◌++◌, length, Result, Ok, Err}
use Rattle.std.specs.List.{list_any}
use Rattle.std.specs.Str.Parse.{AllDigits, digits_value}
use Rattle.promql_text.specs.Texts.{Text}
use Rattle.promql_text.specs.DecimalForm.{Reading, NotANumber, Infinite, Signed, digits_number}
use Rattle.promql_text.specs.DecimalForm as form
use Rattle.promql_text.specs.DurationForms.{up, down}
use Rattle.promql_text.specs.Numbers.{Exact, IsExact}
use Rattle.promql_text.specs.NumeralSpelling.{IsSign, IsDecimalForm}
use Rattle.promql_text.specs.declared.number.Number.{Number}
use Rattle.promql_text.specs.declared.number.Number.TheVariants as number
use Rattle.promql_text.specs.declared.number.NumberFault.{NumberFault}
use Rattle.promql_text.specs.declared.number.NumberFault.TheVariants as fault

-- ---- texts

-- a sign or none, `0`, this prefix, and one or more digits in this radix, of the number n
abbrev pub IsInRadix : ℕ → Text → Text → Bool → ℕ → Type 0
IsInRadix radix prefix t is_negative n =
    (sign : Text) × (digits : Text) × (t ≡ sign ++ (48 ∷ (prefix ++ digits))) × IsSign is_negative sign
    × (0 < length digits) × AllDigits radix digits × (n ≡ digits_value radix digits)

-- a sign or none, `0`, and more, in which there is no point, no `8` and no `9`: no decimal text is so
abbrev pub BeginsOctal : Text → Type 0
BeginsOctal t =
    (b : Bool) × (sign : Text) × (rest : Text) × (t ≡ sign ++ (48 ∷ rest)) × IsSign b sign × (0 < length rest)
    × (list_any (λ c. c == 46 || (c == 56 || c == 57)) rest ≡ false)

-- what a text means: a whole number with a sign, or what the decimal form says
pub data Meaning : Type 0 where
  Whole : Bool → ℕ → Meaning
  Decimal : Signed → Meaning

-- hexadecimal digits come after an `x` in either case
abbrev pub Means : Text → Meaning → Type 0
Means t (Whole b n) = ((x : ℕ) × ((x == 120 || x == 88) ≡ true) × IsInRadix 16 (x ∷ []) t b n) ⊎ IsInRadix 8 [] t b n
Means t (Decimal f) = IsDecimalForm f t × (BeginsOctal t → ⊥)

-- ---- numbers

-- d is m times 10 to `up`, divided by 10 to `down`, with this sign, in the one form of numbers
abbrev pub HasValue : Bool → ℕ → ℕ → ℕ → Exact → Type 0
HasValue b m up down d = IsExact d × (0 < m → d.is_negative ≡ b) × (d.digits * 10 ^ (d.zeros + down) ≡ m * 10 ^ (up + d.places))

-- whatever zeros are taken off its end, more than 38 digits are left
abbrev pub IsTooLong : ℕ → Type 0
IsTooLong m = (c z : ℕ) → c * 10 ^ z ≡ m → 10 ^ 38 ≤ c

abbrev pub GivesReading : Bool → Reading → Result Number NumberFault → Type 0
GivesReading b NotANumber r = r ≡ Ok number.NaN
GivesReading b Infinite r = r ≡ Ok (if b then number.NegInf else number.Inf)
GivesReading b (form.Finite n) (Ok (number.Finite d)) = HasValue b (digits_number n) (up n) (down n) d
GivesReading b (form.Finite n) (Err fault.TooManyDigits) = IsTooLong (digits_number n)
GivesReading b (form.Finite n) (Err fault.OutOfRange) = (IsTooLong (digits_number n) → ⊥) × ((d : Exact) → HasValue b (digits_number n) (up n) (down n) d → ⊥)
GivesReading b (form.Finite n) r = ⊥

abbrev pub Gives : Meaning → Result Number NumberFault → Type 0
Gives (Whole b n) (Ok (number.Finite d)) = (n < 2 ^ 63) × HasValue b n 0 0 d
Gives (Whole b n) (Err fault.OutOfRange) = 2 ^ 63 ≤ n
Gives (Whole b n) r = ⊥
Gives (Decimal f) r = GivesReading f.is_negative f.reading r

-- the text gives this number, or has this fault
abbrev pub IsNumberText : Text → Result Number NumberFault → Type 0
IsNumberText t r = ((m : Meaning) × Means t m × Gives m r) ⊎ (((m : Meaning) → Means t m → ⊥) × (r ≡ Err fault.NotANumber))
