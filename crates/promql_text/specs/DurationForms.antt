-- Which texts are durations, and of how many nanoseconds: a relation (docs/reference/texts.md,
-- "The duration of a text").
use Rattle.std.specs.Prelude.{◌≡◌, ◌≢◌, ◌⊎◌, ℕ, ◌+◌, ◌*◌, ◌%◌, ◌^◌, ◌<◌, ◌≤◌, ⊤, true, false, if◌then◌else◌, List, [], ◌∷◌, ◌++◌, length, Result, Ok, Err}
use Rattle.std.specs.List.{flat_map, sum_by}
use Rattle.std.specs.Str.Parse.{AllDigits, digits_value}
use Rattle.promql_text.specs.Texts.{Text}
use Rattle.promql_text.specs.DecimalForm.{Numeral, Reading, NotANumber, digits_number}
use Rattle.promql_text.specs.DecimalForm as form
use Rattle.promql_text.specs.NumeralSpelling.{IsDecimalForm}
use Rattle.promql_text.specs.Durations.{nanos_of, word_of, units}
use Rattle.promql_text.specs.declared.duration.Unit.{Unit}
use Rattle.promql_text.specs.declared.duration.DurationFault.{DurationFault}
use Rattle.promql_text.specs.declared.duration.DurationFault.TheVariants as fault

-- ---- parts

-- parts, each a count and its unit: each has digits, and one of these units, in this order and each at most once
abbrev pub AreParts : List Unit → List (Text × Unit) → Type 0
AreParts us [] = ⊤
AreParts [] (p ∷ ps) = ⊥
AreParts (u ∷ us) (p ∷ ps) = ((p.1 ≡ u) × ((0 < length p.0) × AllDigits 10 p.0) × AreParts us ps) ⊎ AreParts us (p ∷ ps)

-- the text is one or more parts, of n nanoseconds together
abbrev pub IsParts : Text → ℕ → Type 0
IsParts s n =
    (parts : List (Text × Unit)) × (0 < length parts) × AreParts units parts × (s ≡ flat_map (λ p. p.0 ++ word_of p.1) parts)
    × (n ≡ sum_by (λ p. digits_value 10 p.0 * nanos_of p.1) parts)

-- ---- seconds

-- q is nearest to a / b among whole numbers; of two that are equally near it is the even one
pub record IsNearest (a b q : ℕ) : Type 0 where
  pub below : 2 * (q * b) ≤ 2 * a + b
  pub above : 2 * a ≤ 2 * (q * b) + b
  pub even : (2 * (q * b) ≡ 2 * a + b) ⊎ (2 * a ≡ 2 * (q * b) + b) → q % 2 ≡ 0

-- a numeral's value is its digits times 10 to `up`, divided by 10 to `down`
abbrev pub up : Numeral → ℕ
up n = if n.is_down then 0 else digits_value 10 n.exponent

abbrev pub down : Numeral → ℕ
down n = if n.is_down then length n.fraction + digits_value 10 n.exponent else length n.fraction

-- the text is a numeral of seconds, which are n nanoseconds when rounded
abbrev pub IsSeconds : Text → ℕ → Type 0
IsSeconds s n =
    (m : Numeral) × IsDecimalForm (record { is_negative = false; reading = form.Finite m }) s
    × IsNearest (digits_number m * 10 ^ (9 + up m)) (10 ^ down m) n

-- ---- durations

-- what a text means: nanoseconds, a number with a minus sign, or infinity
pub data Meaning : Type 0 where
  Nanos : ℕ → Meaning
  Negative Infinite : Meaning

abbrev pub Means : Text → Meaning → Type 0
Means s (Nanos n) = IsParts s n ⊎ IsSeconds s n
Means s Negative = (r : Reading) × (r ≢ NotANumber) × IsDecimalForm (record { is_negative = true; reading = r }) s
Means s Infinite = IsDecimalForm (record { is_negative = false; reading = form.Infinite }) s

-- the text is a duration of so many nanoseconds, or has this fault
abbrev pub IsDuration : Text → Result ℕ DurationFault → Type 0
IsDuration s (Ok n) = Means s (Nanos n) × (0 < n) × (n < 2 ^ 64 * 1_000_000_000)
IsDuration s (Err fault.Empty) = s ≡ []
IsDuration s (Err fault.NotPositive) = Means s (Nanos 0) ⊎ Means s Negative
IsDuration s (Err fault.Overflow) = Means s Infinite ⊎ ((n : ℕ) × Means s (Nanos n) × (2 ^ 64 * 1_000_000_000 ≤ n))
IsDuration s (Err fault.Invalid) = (s ≢ []) × ((m : Meaning) → Means s m → ⊥)
