-- What is of the decimal form is spelled so: words in any case, numerals, and a sign.
use Rattle.std.proofs.Common.{◌≡◌, ◌⊎◌, ⊎_elim, inl, inr, ℕ, ◌<◌, Bool, true, false, cond, ◌&&◌, ◌||◌, [], ◌∷◌, ◌++◌, drop, arith, ap, ◌∙◌, sym, refl, subst, Option, Some, None}
use Rattle.std.specs.Prelude.{codes, option_map, ◌==◌, ◌↔◌}
use Rattle.std.specs.Char.{is_ascii_digit, to_ascii_lowercase}
use Rattle.std.specs.Str.{bytes_eq, str_to_ascii_lowercase}
use Rattle.std.proofs.lemmas.Bool.{cond_both}
use Rattle.std.proofs.lemmas.Bool.Decides.{nat_tests}
use Rattle.std.proofs.lemmas.Slice.Eq.{bytes_eq-Decides}
use Rattle.promql_text.specs.Texts.{Text}
use Rattle.promql_text.specs.DecimalForm.{front, past_run, past_point, without_sign, is_minus, is_word, ends_well, Numeral, numeral, Reading, NotANumber, Infinite, Finite, reading, Signed, decimal_form}
use Rattle.promql_text.specs.NumeralSpelling.{IsSign, IsReading, IsDecimalForm}
use Rattle.promql_text.proofs.numerals.Runs.{past_stops}
use Rattle.promql_text.proofs.numerals.SpelledNumerals.{Signs, signs_at, SignCut, sign_at, both, either, some_numeral_is, numeral_is, spelled_reads, reads_spelled}
use Rattle.promql_text.proofs.numerals.TextForms.{signed_of, form_at}

-- ---- what a numeral begins with

abbrev opens : ℕ → Bool
opens c = is_ascii_digit c || c == 46

opens_at : (t : Text) (digit point : Bool) → is_ascii_digit (front t) ≡ digit → (front t == 46) ≡ point → (is_ascii_digit (front t) || is_ascii_digit (front (past_point (past_run t)))) ≡ true → opens (front t) ≡ true
opens_at t true point d p some = ap (λ b. b || front t == 46) d
opens_at t false true d p some = ap (λ b. b || front t == 46) d ∙ p
opens_at t false false d p some =
    let same : past_point (past_run t) ≡ t = ap past_point (past_stops t d) ∙ ap (λ b. cond b (drop 1 t) t) p in
    absurd (never (sym some ∙ ap (λ b. b || is_ascii_digit (front (past_point (past_run t)))) d ∙ ap (λ s. is_ascii_digit (front s)) same ∙ d))
  where
    never : true ≡ false → ⊥
    never e = cc

numeral_opens : (t : Text) (n : Numeral) → numeral t ≡ Some n → opens (front t) ≡ true
numeral_opens t n is =
    let b : Text = past_point (past_run t) in
    let some : Bool = is_ascii_digit (front t) || is_ascii_digit (front b) in
    let g = some_numeral_is (some && ends_well (past_run b)) _ n (sym (numeral_is t) ∙ is) in
    opens_at t (is_ascii_digit (front t)) (front t == 46) refl refl (both some (ends_well (past_run b)) g.0).0

lower_opens : (c : ℕ) → opens c ≡ true → to_ascii_lowercase c ≡ c
lower_opens c is = grind (arith, nat_tests)

opens_no_letter : (c b : ℕ) → opens c ≡ true → 96 < b → (c == b) ≡ false
opens_no_letter c b is letter = grind (arith, nat_tests)

opens_no_sign : (c : ℕ) → opens c ≡ true → (c == 43 || c == 45) ≡ false
opens_no_sign c is = grind (arith, nat_tests)

no_word : (s word : Text) (b : ℕ) → opens (front s) ≡ true → 96 < b → is_word s (b ∷ word) ≡ false
no_word [] word b is letter = refl
no_word (c ∷ cs) word b is letter =
    ap (λ n. (n == b) && bytes_eq (str_to_ascii_lowercase cs) word) (lower_opens c is)
    ∙ ap (λ t. t && bytes_eq (str_to_ascii_lowercase cs) word) (opens_no_letter c b is letter)

-- ---- words and numerals

abbrev reading_by : Text → Text → Option Reading
reading_by lower s =
    cond (bytes_eq lower (codes "inf") || bytes_eq lower (codes "infinity")) (Some Infinite) (cond (bytes_eq lower (codes "nan")) (Some NotANumber) (option_map Finite (numeral s)))

reading_is : (s : Text) → reading s ≡ reading_by (str_to_ascii_lowercase s) s
unfolding reading
reading_is s = refl

spelled_reading : (r : Reading) (s : Text) → IsReading r s → reading s ≡ Some r
spelled_reading NotANumber s is = reading_is s ∙ ap (λ l. reading_by l s) is
spelled_reading Infinite s is = ⊎_elim (λ e. reading_is s ∙ ap (λ l. reading_by l s) e) (λ e. reading_is s ∙ ap (λ l. reading_by l s) e) is
spelled_reading (Finite n) s is =
    let e : numeral s ≡ Some n = spelled_reads s n is in
    let first = numeral_opens s n e in
    reading_is s
    ∙ ap (λ b. cond (b || is_word s (codes "infinity")) (Some Infinite) (cond (is_word s (codes "nan")) (Some NotANumber) (option_map Finite (numeral s)))) (no_word s (drop 1 (codes "inf")) 105 first (omega arith))
    ∙ ap (λ b. cond b (Some Infinite) (cond (is_word s (codes "nan")) (Some NotANumber) (option_map Finite (numeral s)))) (no_word s (drop 1 (codes "infinity")) 105 first (omega arith))
    ∙ ap (λ b. cond b (Some NotANumber) (option_map Finite (numeral s))) (no_word s (drop 1 (codes "nan")) 110 first (omega arith))
    ∙ ap (option_map Finite) e

same_reading : (q r : Reading) → ◌≡◌ {A = Option Reading} (Some q) (Some r) → q ≡ r
same_reading q r e = cc

finite_spelled : (s : Text) (o : Option Numeral) (r : Reading) → numeral s ≡ o → option_map Finite o ≡ Some r → IsReading r s
finite_spelled s None r is e = absurd (never e)
  where
    never : ◌≡◌ {A = Option Reading} None (Some r) → ⊥
    never e = cc
finite_spelled s (Some n) r is e = let P : Reading → Type 0 = λ q. IsReading q s in subst P (same_reading (Finite n) r e) (reads_spelled s n is)

reading_spelled : (r : Reading) (s : Text) → reading s ≡ Some r → IsReading r s
reading_spelled r s is =
    let P : Reading → Type 0 = λ q. IsReading q s in
    let Q : Option Reading → Type 0 = λ o. o ≡ Some r → IsReading r s in
    cond_both (is_word s (codes "inf") || is_word s (codes "infinity")) (Some Infinite) (cond (is_word s (codes "nan")) (Some NotANumber) (option_map Finite (numeral s))) Q
    (λ yes e. subst P (same_reading Infinite r e) (infinite (either (is_word s (codes "inf")) (is_word s (codes "infinity")) yes)))
    (λ _. cond_both (is_word s (codes "nan")) (Some NotANumber) (option_map Finite (numeral s)) Q
    (λ yes e. subst P (same_reading NotANumber r e) ((bytes_eq-Decides (str_to_ascii_lowercase s) (codes "nan")).0 yes))
    (λ _ e. finite_spelled s (numeral s) r refl e))
    (sym (reading_is s) ∙ is)
  where
    infinite : (is_word s (codes "inf") ≡ true) ⊎ (is_word s (codes "infinity") ≡ true) → IsReading Infinite s
    infinite found = ⊎_elim (λ h. inl ((bytes_eq-Decides (str_to_ascii_lowercase s) (codes "inf")).0 h)) (λ h. inr ((bytes_eq-Decides (str_to_ascii_lowercase s) (codes "infinity")).0 h)) found

-- ---- and a sign

abbrev Plain : Text → Type 0
Plain s = (front s == 43 || front s == 45) ≡ false

lower_letter : (c b : ℕ) → to_ascii_lowercase c ≡ b → 96 < b → b < 123 → (c == 43 || c == 45) ≡ false
lower_letter c b is low high = grind (arith, nat_tests)

word_plain : (s word : Text) (b : ℕ) → str_to_ascii_lowercase s ≡ b ∷ word → 96 < b → b < 123 → Plain s
word_plain [] word b is low high = refl
word_plain (c ∷ s) word b is low high = lower_letter c b (ap front is) low high

reading_plain : (r : Reading) (s : Text) → IsReading r s → Plain s
reading_plain NotANumber s is = word_plain s (drop 1 (codes "nan")) 110 is (omega arith) (omega arith)
reading_plain Infinite s is =
    ⊎_elim (λ e. word_plain s (drop 1 (codes "inf")) 105 e (omega arith) (omega arith)) (λ e. word_plain s (drop 1 (codes "infinity")) 105 e (omega arith) (omega arith)) is
reading_plain (Finite n) s is = opens_no_sign (front s) (numeral_opens s n (spelled_reads s n is))

no_sign : (x : Text) → Plain x → Signs false x x
no_sign x plain = record { rest = ap (λ b. cond b (drop 1 x) x) plain; minus = no_minus (front x) plain }
  where
    no_minus : (c : ℕ) → (c == 43 || c == 45) ≡ false → (c == 45) ≡ false
    no_minus c is = grind (arith, nat_tests)

pub signs_plain : (b : Bool) (s x : Text) → IsSign b s → Plain x → Signs b (s ++ x) x
signs_plain true s x is plain = signs_at true s (45 ∷ []) x is (record { rest = refl; minus = refl })
signs_plain false s x is plain =
    ⊎_elim (λ e. signs_at false s [] x e (no_sign x plain)) (λ e. signs_at false s (43 ∷ []) x e (record { rest = refl; minus = refl })) is

pub spelled_form : (t : Text) (f : Signed) → IsDecimalForm f t → decimal_form t ≡ Some f
spelled_form t f h =
    let g : Signs f.is_negative (h.0 ++ h.1) h.1 = signs_plain f.is_negative h.0 h.1 h.3 (reading_plain f.reading h.1 h.4) in
    ap decimal_form h.2 ∙ form_at (h.0 ++ h.1) h.1 f.is_negative f.reading g.minus g.rest (spelled_reading f.reading h.1 h.4)

pub sign_found : (t : Text) → SignCut t
sign_found [] = record { sign = []; is = refl; has = inl refl }
sign_found (c ∷ t) = sign_at c t (c == 43) (c == 45) refl refl

pub form_spelled : (t : Text) (f : Signed) → decimal_form t ≡ Some f → IsDecimalForm f t
unfolding decimal_form
form_spelled t f is = of_reading (reading (without_sign t)) refl is
  where
    same : (g : Signed) → ◌≡◌ {A = Option Signed} (Some g) (Some f) → g ≡ f
    same g e = cc

    of_reading : (o : Option Reading) → reading (without_sign t) ≡ o → option_map (signed_of (is_minus t)) o ≡ Some f → IsDecimalForm f t
    of_reading None is e = absurd (never e)
      where
        never : ◌≡◌ {A = Option Signed} None (Some f) → ⊥
        never e = cc
    of_reading (Some r) is e =
        let c : SignCut t = sign_found t in
        let P : Signed → Type 0 = λ g. IsDecimalForm g t in
        subst P (same (signed_of (is_minus t) r) e) (c.sign, without_sign t, c.is, c.has, reading_spelled r (without_sign t) is)

pub forms_spelled : (t : Text) (f : Signed) → (decimal_form t ≡ Some f) ↔ IsDecimalForm f t
forms_spelled t f = (form_spelled t f, spelled_form t f)
