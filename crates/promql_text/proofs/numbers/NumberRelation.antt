-- The number of a text is what the text means.
use Rattle.std.proofs.Common.{◌≡◌, ⊎_elim, inl, inr, Bool, Result, Err, refl, sym, ◌∙◌, subst}
use Rattle.std.specs.Prelude.{◌↔◌}
use Rattle.promql_text.specs.Texts.{Text}
use Rattle.promql_text.specs.DecimalForm.{Reading, NotANumber, Infinite}
use Rattle.promql_text.specs.DecimalForm as form
use Rattle.promql_text.specs.NumberForms.{Meaning, Whole, Decimal, Means, GivesReading, Gives, IsNumberText}
use Rattle.promql_text.specs.NumberText.{without_whitespace, read_number, number_of, apply_sign}
use Rattle.promql_text.specs.NumeralSpelling.{IsReading}
use Rattle.promql_text.specs.declared.number.Number.{Number}
use Rattle.promql_text.specs.declared.number.NumberFault.{NumberFault}
use Rattle.promql_text.specs.declared.number.NumberFault.TheVariants as fault
use Rattle.promql_text.proofs.numbers.NumberTexts.{result_of, means_said, text_found}
use Rattle.promql_text.proofs.numbers.NumberValues.{whole_gives, whole_is, numeral_gives, numeral_is}

reading_gives : (b : Bool) (r : Reading) (t : Text) → IsReading r t → GivesReading b r (apply_sign b r)
reading_gives b NotANumber t is = refl
reading_gives b Infinite t is = refl
reading_gives b (form.Finite n) t is = numeral_gives b n is.3 is.4

reading_is : (b : Bool) (r : Reading) (t : Text) (q : Result Number NumberFault) → IsReading r t → GivesReading b r q → apply_sign b r ≡ q
reading_is b NotANumber t q is h = sym h
reading_is b Infinite t q is h = sym h
reading_is b (form.Finite n) t q is h = numeral_is b n q is.3 is.4 h

meaning_gives : (t : Text) (m : Meaning) → Means t m → Gives m (result_of m)
meaning_gives t (Whole b n) is = whole_gives b n
meaning_gives t (Decimal f) is = reading_gives f.is_negative f.reading is.0.1 is.0.4

meaning_is : (t : Text) (m : Meaning) (r : Result Number NumberFault) → Means t m → Gives m r → result_of m ≡ r
meaning_is t (Whole b n) r is h = whole_is b n r h
meaning_is t (Decimal f) r is h = reading_is f.is_negative f.reading is.0.1 r is.0.4 h

-- no meaning gives that there is none
reading_some : (b : Bool) (r : Reading) → GivesReading b r (Err fault.NotANumber) → ⊥
reading_some b NotANumber h = cc
reading_some b Infinite h = cc
reading_some b (form.Finite n) h = h

meaning_some : (m : Meaning) → Gives m (Err fault.NotANumber) → ⊥
meaning_some (Whole b n) h = h
meaning_some (Decimal f) h = reading_some f.is_negative f.reading h

number_told : (t : Text) → IsNumberText t (number_of t)
number_told t =
    let P : Result Number NumberFault → Type 0 = λ r. IsNumberText t r in
    ⊎_elim
    (λ meant. subst P (sym (means_said t meant.0 meant.1)) (inl (meant.0, meant.1, meaning_gives t meant.0 meant.1)))
    (λ none. subst P (sym none) (inr ((λ m is. let Q : Result Number NumberFault → Type 0 = λ r. Gives m r in meaning_some m (subst Q (sym (means_said t m is) ∙ none) (meaning_gives t m is))), refl)))
    (text_found t)

number_is : (t : Text) (r : Result Number NumberFault) → IsNumberText t r → number_of t ≡ r
number_is t r h =
    ⊎_elim
    (λ meant. means_said t meant.0 meant.1 ∙ meaning_is t meant.0 r meant.1 meant.2)
    (λ none. ⊎_elim (λ meant. absurd (none.0 meant.0 meant.1)) (λ is. is ∙ sym none.1) (text_found t))
    h

pub numbers_told : (s : Text) (r : Result Number NumberFault) → (read_number s ≡ r) ↔ IsNumberText (without_whitespace s) r
numbers_told s r = ((λ is. let P : Result Number NumberFault → Type 0 = λ q. IsNumberText (without_whitespace s) q in subst P is (number_told (without_whitespace s))), (λ h. number_is (without_whitespace s) r h))
