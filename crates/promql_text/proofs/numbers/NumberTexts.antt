-- Which texts are read as numbers, and as what.
use Rattle.std.proofs.Common.{◌≡◌, ◌⊎◌, ⊎_elim, inl, inr, ℕ, ◌^◌, ◌<◌, Bool, true, false, not, cond, ◌&&◌, ◌||◌, [], ◌∷◌, ◌++◌, length, drop, Option, Some, None, Result, Ok, Err, refl, sym, ap, ◌∙◌, arith}
use Rattle.std.specs.Prelude.{codes, nat_lt, ◌==◌}
use Rattle.std.specs.Char.{digit_value, to_ascii_lowercase}
use Rattle.std.specs.List.{list_all, list_any}
use Rattle.std.specs.Str.{str_to_ascii_lowercase}
use Rattle.std.specs.Str.Parse.{AllDigits, digits_value}
use Rattle.std.proofs.lemmas.Bool.{cases_Bool, eqb-true, ne_eqb, lt-ltb}
use Rattle.std.proofs.lemmas.Bool.Decides.{nat_tests}
use Rattle.std.proofs.lemmas.List.Folds.{list_any-append}
use Rattle.std.proofs.lemmas.Str.Parse.{digit_from_value}
use Rattle.promql_text.specs.Texts.{Text}
use Rattle.promql_text.specs.DecimalForm.{front, is_minus, without_sign, Numeral, Reading, NotANumber, Infinite, Signed, decimal_form}
use Rattle.promql_text.specs.DecimalForm as form
use Rattle.promql_text.specs.NumberText.{hexadecimal, is_digit_below, is_octal, is_past_octal, is_x, number_of, of_form, radix_number, apply_sign}
use Rattle.promql_text.specs.NumberForms.{IsInRadix, BeginsOctal, Meaning, Whole, Decimal, Means}
use Rattle.promql_text.specs.Numbers.{whole}
use Rattle.promql_text.specs.DecimalParts.{IsPoint}
use Rattle.promql_text.specs.NumeralSpelling.{IsSign, IsExponent, IsReading, IsDecimalForm}
use Rattle.promql_text.specs.declared.number.Number.{Number}
use Rattle.promql_text.specs.declared.number.Number.TheVariants as number
use Rattle.promql_text.specs.declared.number.NumberFault.{NumberFault}
use Rattle.promql_text.specs.declared.number.NumberFault.TheVariants as fault
use Rattle.promql_text.proofs.numerals.SpelledNumerals.{Signs, SignCut, both}
use Rattle.promql_text.proofs.numerals.SpelledForms.{form_spelled, spelled_form, sign_found, signs_plain}

-- what the definition gives for a meaning
abbrev pub result_of : Meaning → Result Number NumberFault
result_of (Whole b n) = cond (nat_lt n (2 ^ 63)) (Ok (number.Finite (whole b n))) (Err fault.OutOfRange)
result_of (Decimal f) = apply_sign f.is_negative f.reading

-- ---- characters that a text has not

sign_none : (p : ℕ → Bool) (b : Bool) (s x : Text) → p 43 ≡ false → p 45 ≡ false → IsSign b s → list_any p (s ++ x) ≡ list_any p x
sign_none p true s x plus minus is = ap (λ t. list_any p (t ++ x)) is ∙ ap (λ c. c || list_any p x) minus
sign_none p false s x plus minus is = ⊎_elim (λ e. ap (λ t. list_any p (t ++ x)) e) (λ e. ap (λ t. list_any p (t ++ x)) e ∙ ap (λ c. c || list_any p x) plus) is

digits_none : (p : ℕ → Bool) (radix : ℕ) (ds : Text) → ((c : ℕ) → digit_value c < radix → p c ≡ false) → AllDigits radix ds → list_any p ds ≡ false
digits_none p radix [] other all = refl
digits_none p radix (c ∷ ds) other all = ap (λ b. b || list_any p ds) (other c all.0) ∙ digits_none p radix ds other all.1

both_none : (p : ℕ → Bool) (xs ys : Text) → list_any p xs ≡ false → list_any p ys ≡ false → list_any p (xs ++ ys) ≡ false
both_none p xs ys left right = list_any-append p xs ys ∙ ap (λ b. b || list_any p ys) left ∙ right

digit_no_x : (c : ℕ) → digit_value c < 10 → is_x c ≡ false
digit_no_x c below = let h = digit_from_value c below in grind (arith, nat_tests)

octal_no_x : (c : ℕ) → digit_value c < 8 → is_x c ≡ false
octal_no_x c below = digit_no_x c (omega arith)

octal_not_past : (c : ℕ) → digit_value c < 8 → is_past_octal c ≡ false
octal_not_past c below = let h = digit_from_value c (omega arith) in grind (arith, nat_tests)

-- ---- digits in a radix

digits_pass : (radix : ℕ) (ds : Text) → AllDigits radix ds → list_all (is_digit_below radix) ds ≡ true
digits_pass radix [] all = refl
digits_pass radix (c ∷ ds) all = ap (λ b. b && list_all (is_digit_below radix) ds) (lt-ltb (digit_value c) radix all.0) ∙ digits_pass radix ds all.1

pub below : (a b : ℕ) → nat_lt a b ≡ true → a < b
below a b is = grind (arith, nat_tests)

pass_digits : (radix : ℕ) (ds : Text) → list_all (is_digit_below radix) ds ≡ true → AllDigits radix ds
pass_digits radix [] pass = tt
pass_digits radix (c ∷ ds) pass =
    let h = both (is_digit_below radix c) (list_all (is_digit_below radix) ds) pass in
    (below (digit_value c) radix h.0, pass_digits radix ds h.1)

abbrev are_digits : ℕ → Text → Bool
are_digits radix ds = not (length ds == 0) && list_all (is_digit_below radix) ds

radix_is : (radix : ℕ) (b : Bool) (ds : Text) → radix_number radix b ds ≡ cond (are_digits radix ds) (result_of (Whole b (digits_value radix ds))) (Err fault.NotANumber)
unfolding radix_number
radix_is radix b ds = refl

radix_said : (radix : ℕ) (b : Bool) (ds : Text) → 0 < length ds → AllDigits radix ds → radix_number radix b ds ≡ result_of (Whole b (digits_value radix ds))
radix_said radix b ds some all =
    radix_is radix b ds
    ∙ ap (λ e. cond (not e && list_all (is_digit_below radix) ds) (result_of (Whole b (digits_value radix ds))) (Err fault.NotANumber)) (ne_eqb (length ds) 0 (λ e. absurd (omega arith)))
    ∙ ap (λ e. cond e (result_of (Whole b (digits_value radix ds))) (Err fault.NotANumber)) (digits_pass radix ds all)

radix_none : (radix : ℕ) (b : Bool) (ds : Text) → are_digits radix ds ≡ false → radix_number radix b ds ≡ Err fault.NotANumber
radix_none radix b ds none = radix_is radix b ds ∙ ap (λ e. cond e (result_of (Whole b (digits_value radix ds))) (Err fault.NotANumber)) none

record Digits (radix : ℕ) (ds : Text) : Type 0 where
  some : 0 < length ds
  all : AllDigits radix ds

digits_are : (radix : ℕ) (ds : Text) → are_digits radix ds ≡ true → Digits radix ds
digits_are radix [] is = absurd (cc)
digits_are radix (c ∷ ds) is = record { some = omega arith; all = pass_digits radix (c ∷ ds) (both (not (length (c ∷ ds) == 0)) (list_all (is_digit_below radix) (c ∷ ds)) is).1 }

-- ---- the three kinds of texts

abbrev by_kind : Bool → Bool → Text → Result Number NumberFault
by_kind x octal t = cond x (hexadecimal t) (cond octal (radix_number 8 (is_minus t) (drop 1 (without_sign t))) (of_form (decimal_form t)))

number_is : (t : Text) → number_of t ≡ by_kind (list_any is_x t) (is_octal t) t
unfolding number_of
number_is t = refl

number_by : (t : Text) (x octal : Bool) → list_any is_x t ≡ x → is_octal t ≡ octal → number_of t ≡ by_kind x octal t
number_by t x octal has is = number_is t ∙ ap (λ b. by_kind b (is_octal t) t) has ∙ ap (λ b. by_kind x b t) is

number_hexadecimal : (t : Text) → list_any is_x t ≡ true → number_of t ≡ hexadecimal t
number_hexadecimal t has = number_by t true (is_octal t) has refl

number_octal : (t : Text) → list_any is_x t ≡ false → is_octal t ≡ true → number_of t ≡ radix_number 8 (is_minus t) (drop 1 (without_sign t))
number_octal t none is = number_by t false true none is

number_decimal : (t : Text) → list_any is_x t ≡ false → is_octal t ≡ false → number_of t ≡ of_form (decimal_form t)
number_decimal t none other = number_by t false false none other

-- ---- hexadecimal texts

abbrev begins_x : Text → Bool
begins_x body = front body == 48 && is_x (front (drop 1 body))

abbrev of_body : Bool → Text → Result Number NumberFault
of_body b body = cond (begins_x body) (radix_number 16 b (drop 2 body)) (Err fault.NotANumber)

hexadecimal_is : (t : Text) → hexadecimal t ≡ of_body (is_minus t) (without_sign t)
unfolding hexadecimal
hexadecimal_is t = refl

hexadecimal_said : (t : Text) (b : Bool) (n x : ℕ) → is_x x ≡ true → IsInRadix 16 (x ∷ []) t b n → number_of t ≡ result_of (Whole b n)
hexadecimal_said t b n x is h =
    let sign : Text = h.0 in
    let digits : Text = h.1 in
    let u : Text = 48 ∷ x ∷ digits in
    let s : Text = sign ++ u in
    let g : Signs b s u = signs_plain b sign u h.3 refl in
    let has : list_any is_x s ≡ true = sign_none is_x b sign u refl refl h.3 ∙ ap (λ e. e || list_any is_x digits) is in
    ap number_of h.2 ∙ number_hexadecimal s has ∙ hexadecimal_is s
    ∙ ap (λ m. of_body m (without_sign s)) g.minus ∙ ap (of_body b) g.rest
    ∙ ap (λ e. cond e (radix_number 16 b digits) (Err fault.NotANumber)) is
    ∙ radix_said 16 b digits h.4 h.5 ∙ ap (λ k. result_of (Whole b k)) (sym h.6)

x_cut : (body : Text) → begins_x body ≡ true → (x : ℕ) × (body ≡ 48 ∷ x ∷ drop 2 body) × (is_x x ≡ true)
x_cut [] is = absurd (cc)
x_cut (c ∷ []) is = absurd (let h = (both (c == 48) false is).1 in cc)
x_cut (c ∷ x ∷ ds) is = let h = both (c == 48) (is_x x) is in (x, ap (λ k. k ∷ x ∷ ds) (eqb-true c 48 h.0), h.1)

abbrev pub Found : Text → Type 0
Found t = ((m : Meaning) × Means t m) ⊎ (number_of t ≡ Err fault.NotANumber)

pub by_bool : {A : Type 0} (b : Bool) → (b ≡ true → A) → (b ≡ false → A) → A
by_bool b one other = ⊎_elim one other (cases_Bool b)

hexadecimal_found : (t : Text) → list_any is_x t ≡ true → Found t
hexadecimal_found t has =
    let body : Text = without_sign t in
    let b : Bool = is_minus t in
    let ds : Text = drop 2 body in
    let is : number_of t ≡ of_body b body = number_hexadecimal t has ∙ hexadecimal_is t in
    by_bool (begins_x body)
    (λ begins.
    let to_digits : number_of t ≡ radix_number 16 b ds = is ∙ ap (λ e. cond e (radix_number 16 b ds) (Err fault.NotANumber)) begins in
    by_bool (are_digits 16 ds)
    (λ digits.
    let s : SignCut t = sign_found t in
    let x = x_cut body begins in
    let d = digits_are 16 ds digits in
    inl (Whole b (digits_value 16 ds), inl (x.0, x.2, (s.sign, ds, s.is ∙ ap (λ r. s.sign ++ r) x.1, s.has, d.some, d.all, refl))))
    (λ none. inr (to_digits ∙ radix_none 16 b ds none)))
    (λ other. inr (is ∙ ap (λ e. cond e (radix_number 16 b ds) (Err fault.NotANumber)) other))

-- ---- octal texts

abbrev octal_body : Text → Bool → Bool
octal_body body past = front body == 48 && (not (length (drop 1 body) == 0) && not past)

begins_octal : (t : Text) → BeginsOctal t → is_octal t ≡ true
begins_octal t h =
    let rest : Text = h.2 in
    let u : Text = 48 ∷ rest in
    let s : Text = h.1 ++ u in
    let g : Signs h.0 s u = signs_plain h.0 h.1 u h.4 refl in
    let past : list_any is_past_octal s ≡ false = sign_none is_past_octal h.0 h.1 u refl refl h.4 ∙ h.6 in
    let some : 0 < length rest = h.5 in
    ap is_octal h.3 ∙ ap (λ body. octal_body body (list_any is_past_octal s)) g.rest
    ∙ ap (octal_body u) past ∙ ap (λ e. not e && true) (ne_eqb (length rest) 0 (λ e. absurd (omega arith)))

zero_cut : (body : Text) → (front body == 48) ≡ true → body ≡ 48 ∷ drop 1 body
zero_cut [] is = absurd (cc)
zero_cut (c ∷ ds) is = ap (λ k. k ∷ ds) (eqb-true c 48 is)

not_true : (b : Bool) → not b ≡ true → b ≡ false
not_true true is = absurd (cc)
not_true false is = refl

some_length : (ds : Text) → (length ds == 0) ≡ false → 0 < length ds
some_length ds some = grind (arith, nat_tests)

octal_begins : (t : Text) → is_octal t ≡ true → BeginsOctal t
octal_begins t is =
    let body : Text = without_sign t in
    let rest : Text = drop 1 body in
    let s : SignCut t = sign_found t in
    let h = both (front body == 48) (not (length rest == 0) && not (list_any is_past_octal t)) is in
    let k = both (not (length rest == 0)) (not (list_any is_past_octal t)) h.1 in
    let cut : body ≡ 48 ∷ rest = zero_cut body h.0 in
    let text : t ≡ s.sign ++ (48 ∷ rest) = s.is ∙ ap (λ r. s.sign ++ r) cut in (
      is_minus t,
      s.sign,
      rest,
      text,
      s.has,
      some_length rest (not_true (length rest == 0) k.0),
      sym (ap (list_any is_past_octal) text ∙ sign_none is_past_octal (is_minus t) s.sign (48 ∷ rest) refl refl s.has) ∙ not_true (list_any is_past_octal t) k.1,
    )

octal_said : (t : Text) (b : Bool) (n : ℕ) → IsInRadix 8 [] t b n → number_of t ≡ result_of (Whole b n)
octal_said t b n h =
    let sign : Text = h.0 in
    let digits : Text = h.1 in
    let u : Text = 48 ∷ digits in
    let s : Text = sign ++ u in
    let g : Signs b s u = signs_plain b sign u h.3 refl in
    let none : list_any is_x s ≡ false = sign_none is_x b sign u refl refl h.3 ∙ digits_none is_x 8 digits octal_no_x h.5 in
    let begins : is_octal s ≡ true = begins_octal s (b, sign, digits, refl, h.3, h.4, digits_none is_past_octal 8 digits octal_not_past h.5) in
    ap number_of h.2 ∙ number_octal s none begins
    ∙ ap (λ m. radix_number 8 m (drop 1 (without_sign s))) g.minus ∙ ap (λ body. radix_number 8 b (drop 1 body)) g.rest
    ∙ radix_said 8 b digits h.4 h.5 ∙ ap (λ k. result_of (Whole b k)) (sym h.6)

octal_found : (t : Text) → list_any is_x t ≡ false → is_octal t ≡ true → Found t
octal_found t none is =
    let b : Bool = is_minus t in
    let ds : Text = drop 1 (without_sign t) in
    let to_digits : number_of t ≡ radix_number 8 b ds = number_octal t none is in
    by_bool (are_digits 8 ds)
    (λ digits.
    let s : SignCut t = sign_found t in
    let d = digits_are 8 ds digits in
    let h = both (front (without_sign t) == 48) (not (length ds == 0) && not (list_any is_past_octal t)) is in
    inl (Whole b (digits_value 8 ds), inr (s.sign, ds, s.is ∙ ap (λ r. s.sign ++ r) (zero_cut (without_sign t) h.0), s.has, d.some, d.all, refl)))
    (λ other. inr (to_digits ∙ radix_none 8 b ds other))

-- ---- decimal texts

lower_x : (c : ℕ) → is_x c ≡ (to_ascii_lowercase c == 120)
lower_x c = grind (arith, nat_tests)

lower_any : (s : Text) → list_any is_x s ≡ list_any (λ c. c == 120) (str_to_ascii_lowercase s)
lower_any [] = refl
lower_any (c ∷ s) = ap (λ b. b || list_any is_x s) (lower_x c) ∙ ap (λ b. (to_ascii_lowercase c == 120) || b) (lower_any s)

word_no_x : (s word : Text) → str_to_ascii_lowercase s ≡ word → list_any (λ c. c == 120) word ≡ false → list_any is_x s ≡ false
word_no_x s word is none = lower_any s ∙ ap (list_any (λ c. c == 120)) is ∙ none

point_no_x : (point fraction : Text) → IsPoint point fraction → list_any is_x point ≡ false
point_no_x point fraction is = ⊎_elim (λ e. ap (list_any is_x) e) (λ e. ap (list_any is_x) e.0) is

letter_no_x : (c : ℕ) → (c ≡ 101) ⊎ (c ≡ 69) → is_x c ≡ false
letter_no_x c is = ⊎_elim (λ e. ap is_x e) (λ e. ap is_x e) is

end_no_x : (n : Numeral) (t : Text) → IsExponent n t → list_any is_x t ≡ false
end_no_x n t h =
    ⊎_elim
    (λ none. ap (list_any is_x) none.0)
    (λ some.
    ap (list_any is_x) some.2 ∙ ap (λ b. b || list_any is_x (some.1 ++ n.exponent)) (letter_no_x some.0 some.3)
    ∙ sign_none is_x n.is_down some.1 n.exponent refl refl some.4 ∙ digits_none is_x 10 n.exponent digit_no_x some.6)
    h

reading_no_x : (r : Reading) (s : Text) → IsReading r s → list_any is_x s ≡ false
reading_no_x NotANumber s is = word_no_x s (codes "nan") is refl
reading_no_x Infinite s is = ⊎_elim (λ e. word_no_x s (codes "inf") e refl) (λ e. word_no_x s (codes "infinity") e refl) is
reading_no_x (form.Finite n) s is =
    ap (list_any is_x) is.2
    ∙ both_none is_x n.whole (is.0 ++ (n.fraction ++ is.1)) (digits_none is_x 10 n.whole digit_no_x is.3)
    (both_none is_x is.0 (n.fraction ++ is.1) (point_no_x is.0 n.fraction is.6)
    (both_none is_x n.fraction is.1 (digits_none is_x 10 n.fraction digit_no_x is.4) (end_no_x n is.1 is.7)))

decimal_no_x : (f : Signed) (t : Text) → IsDecimalForm f t → list_any is_x t ≡ false
decimal_no_x f t h = ap (list_any is_x) h.2 ∙ sign_none is_x f.is_negative h.0 h.1 refl refl h.3 ∙ reading_no_x f.reading h.1 h.4

decimal_said : (t : Text) (f : Signed) → IsDecimalForm f t → (BeginsOctal t → ⊥) → number_of t ≡ result_of (Decimal f)
decimal_said t f h other =
    number_decimal t (decimal_no_x f t h) (by_bool (is_octal t) (λ is. absurd (other (octal_begins t is))) (λ is. is))
    ∙ ap of_form (spelled_form t f h)

decimal_found : (t : Text) (o : Option Signed) → list_any is_x t ≡ false → is_octal t ≡ false → decimal_form t ≡ o → Found t
decimal_found t None none other is = inr (number_decimal t none other ∙ ap of_form is)
decimal_found t (Some f) none other is = inl (Decimal f, (form_spelled t f is, λ h. apart (sym (begins_octal t h) ∙ other)))
  where
    apart : true ≡ false → ⊥
    apart e = cc

-- ---- any text

pub means_said : (t : Text) (m : Meaning) → Means t m → number_of t ≡ result_of m
means_said t (Whole b n) h = ⊎_elim (λ x. hexadecimal_said t b n x.0 x.1 x.2) (octal_said t b n) h
means_said t (Decimal f) h = decimal_said t f h.0 h.1

pub text_found : (t : Text) → Found t
text_found t =
    by_bool (list_any is_x t)
    (λ has. hexadecimal_found t has)
    (λ none. by_bool (is_octal t) (λ is. octal_found t none is) (λ other. decimal_found t (decimal_form t) none other refl))
