-- Texts that begin with a digit, and their decimal form.
use Rattle.std.proofs.Common.{◌≡◌, ℕ, ◌<◌, Bool, true, false, cond, ◌&&◌, ◌||◌, [], ◌∷◌, ◌++◌, length, drop, Some, None, refl, ap, ◌∙◌, append-nil, arith}
use Rattle.std.specs.Prelude.{codes, option_map, ◌==◌}
use Rattle.std.specs.Char.{is_ascii_digit, to_ascii_lowercase}
use Rattle.std.specs.Str.{bytes_eq, str_to_ascii_lowercase}
use Rattle.std.specs.Str.Parse.{AllDigits}
use Rattle.std.proofs.lemmas.Bool.Decides.{nat_tests}
use Rattle.promql_text.specs.Texts.{Text}
use Rattle.promql_text.specs.DecimalForm.{front, digit_run, past_run, past_point, without_sign, is_minus, is_word, ends_well, Numeral, numeral, Reading, reading, NotANumber, Infinite, Finite, Signed, decimal_form}
use Rattle.promql_text.proofs.numerals.Runs.{run_append, past_append, run_all, past_all, past_stops, front_digit}

-- ---- a sign in front

abbrev pub with_sign : Bool → Text → Text
with_sign b t = cond b (45 ∷ []) [] ++ t

pub digit_no_sign : (s : Text) → is_ascii_digit (front s) ≡ true → (front s == 43 || front s == 45) ≡ false
digit_no_sign s digit = grind (arith, nat_tests)

pub unsigned_is : (b : Bool) (t : Text) → is_ascii_digit (front t) ≡ true → without_sign (with_sign b t) ≡ t
unsigned_is true t digit = refl
unsigned_is false t digit = ap (λ b. cond b (drop 1 t) t) (digit_no_sign t digit)

pub digit_no_minus : (s : Text) → is_ascii_digit (front s) ≡ true → is_minus s ≡ false
digit_no_minus s digit = grind (arith, nat_tests)

pub minus_is : (b : Bool) (t : Text) → is_ascii_digit (front t) ≡ true → is_minus (with_sign b t) ≡ b
minus_is true t digit = refl
minus_is false t digit = digit_no_minus t digit

-- ---- no word begins with a digit

lower_digit : (c : ℕ) → is_ascii_digit c ≡ true → to_ascii_lowercase c ≡ c
lower_digit c digit = grind (arith, nat_tests)

digit_no_letter : (c b : ℕ) → is_ascii_digit c ≡ true → 96 < b → (c == b) ≡ false
digit_no_letter c b digit letter = grind (arith, nat_tests)

pub no_word : (s word : Text) (b : ℕ) → is_ascii_digit (front s) ≡ true → 96 < b → is_word s (b ∷ word) ≡ false
no_word [] word b digit letter = refl
no_word (c ∷ cs) word b digit letter =
    ap (λ n. (n == b) && bytes_eq (str_to_ascii_lowercase cs) word) (lower_digit c digit)
    ∙ ap (λ t. t && bytes_eq (str_to_ascii_lowercase cs) word) (digit_no_letter c b digit letter)

-- ---- the form of a text with a sign

abbrev pub signed_of : Bool → Reading → Signed
signed_of b r = record { is_negative = b; reading = r }

pub form_at : (t body : Text) (b : Bool) (r : Reading) → is_minus t ≡ b → without_sign t ≡ body → reading body ≡ Some r → decimal_form t ≡ Some (signed_of b r)
unfolding decimal_form
form_at t body b r minus rest is =
    ap (λ m. option_map (signed_of m) (reading (without_sign t))) minus ∙ ap (λ u. option_map (signed_of b) (reading u)) rest ∙ ap (option_map (signed_of b)) is

form_none : (t : Text) → without_sign t ≡ t → reading t ≡ None → decimal_form t ≡ None
unfolding decimal_form
form_none t rest is = ap (λ u. option_map (signed_of (is_minus t)) (reading u)) rest ∙ ap (option_map (signed_of (is_minus t))) is

-- what begins with a digit reads as its numeral
reading_is : (s : Text) → is_ascii_digit (front s) ≡ true → reading s ≡ option_map Finite (numeral s)
unfolding reading
reading_is s digit =
    ap (λ b. cond (b || is_word s (codes "infinity")) (Some Infinite) (cond (is_word s (codes "nan")) (Some NotANumber) (option_map Finite (numeral s)))) (no_word s (drop 1 (codes "inf")) 105 digit (omega arith))
    ∙ ap (λ b. cond b (Some Infinite) (cond (is_word s (codes "nan")) (Some NotANumber) (option_map Finite (numeral s)))) (no_word s (drop 1 (codes "infinity")) 105 digit (omega arith))
    ∙ ap (λ b. cond b (Some NotANumber) (option_map Finite (numeral s))) (no_word s (drop 1 (codes "nan")) 110 digit (omega arith))

-- ---- digits, with a point or none among them

abbrev pub plain_numeral : Text → Text → Numeral
plain_numeral w f = record { whole = w; fraction = f; is_down = false; exponent = [] }

numeral_ended : (s after_point : Text) → past_point (past_run s) ≡ after_point → past_run after_point ≡ [] → is_ascii_digit (front s) ≡ true → numeral s ≡ Some (plain_numeral (digit_run s) (digit_run after_point))
unfolding numeral
numeral_ended s after_point is end digit = rw (is, end) (ap (λ b. cond ((b || is_ascii_digit (front after_point)) && true) (Some (plain_numeral (digit_run s) (digit_run after_point))) None) digit)

pub reading_digits : (ds : Text) → 0 < length ds → AllDigits 10 ds → reading ds ≡ Some (Finite (plain_numeral ds []))
reading_digits ds some digits =
    let first : is_ascii_digit (front ds) ≡ true = (let h = front_digit ds [] some digits in rw append-nil at h) in
    reading_is ds first
    ∙ ap (option_map Finite) (numeral_ended ds [] (ap past_point (past_all ds digits)) refl first ∙ ap (λ w. Some (plain_numeral w [])) (run_all ds digits))

pub reading_point : (ds fs : Text) → 0 < length ds → AllDigits 10 ds → AllDigits 10 fs → reading (ds ++ (46 ∷ fs)) ≡ Some (Finite (plain_numeral ds fs))
reading_point ds fs some digits more =
    let first = front_digit ds (46 ∷ fs) some digits in
    reading_is (ds ++ (46 ∷ fs)) first
    ∙ ap (option_map Finite) (numeral_ended (ds ++ (46 ∷ fs)) fs (ap past_point (past_append ds (46 ∷ fs) digits refl)) (past_all fs more) first
    ∙ ap (λ w. Some (plain_numeral w (digit_run fs))) (run_append ds (46 ∷ fs) digits refl)
    ∙ ap (λ f. Some (plain_numeral ds f)) (run_all fs more))

pub point_form : (ds fs : Text) → 0 < length ds → AllDigits 10 ds → AllDigits 10 fs → decimal_form (ds ++ (46 ∷ fs)) ≡ Some (signed_of false (Finite (plain_numeral ds fs)))
point_form ds fs some digits more =
    let t : Text = ds ++ (46 ∷ fs) in
    let first = front_digit ds (46 ∷ fs) some digits in
    form_at t t false (Finite (plain_numeral ds fs)) (minus_is false t first) (unsigned_is false t first) (reading_point ds fs some digits more)

-- ---- digits, and a letter that is no `e`

numeral_word : (s word : Text) → past_run s ≡ word → past_point word ≡ word → past_run word ≡ word → ends_well word ≡ false → numeral s ≡ None
unfolding numeral
numeral_word s word is point run bad = rw (is, point, run) (rw bad (no_end (is_ascii_digit (front s) || is_ascii_digit (front word)) _))
  where
    no_end : (b : Bool) (n : Numeral) → cond (b && false) (Some n) None ≡ None
    no_end true n = refl
    no_end false n = refl

pub word_form : (ds word : Text) → 0 < length ds → AllDigits 10 ds → is_ascii_digit (front word) ≡ false → past_point word ≡ word → ends_well word ≡ false → decimal_form (ds ++ word) ≡ None
word_form ds word some digits letter point bad =
    let t : Text = ds ++ word in
    let first = front_digit ds word some digits in
    form_none t (unsigned_is false t first)
    (reading_is t first ∙ ap (option_map Finite) (numeral_word t word (past_append ds word digits letter) point (past_stops word letter) bad))
