-- What the parts that the code finds are for: each text goes on after its digits
-- (private: nothing rests on believing it).
use Rattle.std.specs.Prelude.{◌≡◌, ◌⊎◌, ℕ, List, [], ◌∷◌}
use Rattle.promql_text.specs.Texts.{Text}
use Rattle.promql_text.specs.DecimalForm as spec
use Rattle.promql_text.specs.declared.decimal_form.Numeral.{Numeral}
use Rattle.promql_text.specs.declared.decimal_form.Reading.{Reading}
use Rattle.promql_text.specs.declared.decimal_form.Reading.TheVariants.{NaN, Inf, Finite}
use Rattle.promql_text.specs.declared.decimal_form.DecimalForm.{DecimalForm}

-- a point, or none where no digits follow it
abbrev pub IsPoint : Text → Text → Type 0
IsPoint point fraction = (point ≡ 46 ∷ []) ⊎ ((point ≡ []) × (fraction ≡ []))

abbrev pub numeral_of : {S : Type 0} → (S → List ℕ) → Numeral S → spec.Numeral
numeral_of left n = record { whole = spec.digit_run (left n.whole); fraction = spec.digit_run (left n.fraction); is_down = n.exponent_is_negative; exponent = spec.digit_run (left n.exponent) }

abbrev pub reading_of : {S : Type 0} → (S → List ℕ) → Reading S → spec.Reading
reading_of left NaN = spec.NotANumber
reading_of left Inf = spec.Infinite
reading_of left (Finite n) = spec.Finite (numeral_of left n)

abbrev pub form_of : {S : Type 0} → (S → List ℕ) → DecimalForm S → spec.Signed
form_of left f = record { is_negative = f.is_negative; reading = reading_of left f.reading }
