-- Printed times after `@` read back: the text of so many milliseconds is the number of these.
use Rattle.std.proofs.Common.{◌≡◌, ℕ, zero, suc, ℤ, ◌+◌, ◌-◌, ◌*◌, ◌/◌, ◌%◌, ◌^◌, ◌<◌, ◌≤◌, refl, sym, ◌∙◌, ap, subst, arith, Bool, true, false, cond, not, ◌&&◌, Some, None, [], ◌∷◌, ◌++◌, length, length-append, codes}
use Rattle.std.specs.Prelude.{Ok, ◌==◌, drop, nat_le, nat_lt, option_map, pos, negsuc, neg_ℤ, unsigned_abs, FitsSigned}
use Rattle.std.specs.Fmt.{decimal}
use Rattle.std.specs.Int.{is_negative, w64}
use Rattle.std.specs.Option.{ok_or}
use Rattle.std.specs.Str.Parse.{AllDigits, digits_value, digits_value_after}
use Rattle.std.proofs.lemmas.Bool.{le-leb, leb-true, ne_eqb}
use Rattle.std.proofs.lemmas.Bool.Decides.{nat_tests}
use Rattle.std.proofs.lemmas.Fmt.{decimal_digit, decimal_is_IsNumeral_wide}
use Rattle.promql_text.specs.DecimalForm.{front, without_sign}
use Rattle.promql_text.specs.Millis.{millis, to_millis, within_i64}
use Rattle.promql_text.specs.NumberText.{finite, is_octal, read_number}
use Rattle.promql_text.specs.Numbers.{Exact, digit_count, exact_zero, is_in_range, negate, from_digits, exact_quotient}
use Rattle.promql_text.specs.Texts.{Text}
use Rattle.promql_text.specs.Values.{neg}
use Rattle.promql_text.specs.declared.number.Number.{Number}
use Rattle.promql_text.specs.declared.number.Number.TheVariants.{Finite, Inf, NegInf, NaN}
use Rattle.promql_text.specs.declared.number.NumberFault.TheVariants as fault
use Rattle.promql_text.proofs.numerals.DigitCounts.{count_within}
use Rattle.promql_text.proofs.numbers.Finites.{all_digits_append, finite_short}
use Rattle.promql_text.proofs.numerals.Plain.{plain_append, plain_digits, point_signed}
use Rattle.promql_text.proofs.numerals.Radix.{value_append}
use Rattle.promql_text.proofs.numbers.ReadsBack.{number_signed, value_split}
use Rattle.promql_text.proofs.numerals.Runs.{front_digit}
use Rattle.promql_text.proofs.numerals.ShortNumbers.{zeroless}
use Rattle.promql_text.proofs.numbers.Tens.{below_product, zeros_below}
use Rattle.promql_text.proofs.numerals.TextForms.{plain_numeral, reading_point, with_sign}
use Rattle.promql_ast.specs.AtTimes.{at_of_millis, at_of_number}
use Rattle.promql_ast.specs.Shifts.{sign_text, time_text}
use Rattle.promql_ast.specs.declared.at_modifier.AtModifier.TheVariants.{At}

-- ---- the digits of so many milliseconds

digit_length : (a : ℕ) → a < 10 → length (decimal a) ≡ 1
digit_length a low = ap length (decimal_digit a (omega arith))

digit_after : (v a : ℕ) → a < 10 → digits_value_after 10 v (decimal a) ≡ v * 10 + a
digit_after v a low =
    let is = (decimal_is_IsNumeral_wide a (omega arith)).1 in
    value_split (decimal a) v ∙ ap (λ n. v * 10 ^ n + digits_value 10 (decimal a)) (digit_length a low) ∙ (let e : digits_value 10 (decimal a) ≡ a = is in let f : v * 10 ^ 1 ≡ v * 10 = omega arith in omega (arith, e, f))

abbrev fraction : ℕ → Text
fraction k = decimal (k / 100 % 10) ++ (decimal (k / 10 % 10) ++ decimal (k % 10))

fraction_length : (k : ℕ) → length (fraction k) ≡ 3
fraction_length k =
    omega (
      arith,
      length-append (decimal (k / 100 % 10)) (decimal (k / 10 % 10) ++ decimal (k % 10)),
      length-append (decimal (k / 10 % 10)) (decimal (k % 10)),
      digit_length (k / 100 % 10) (omega arith),
      digit_length (k / 10 % 10) (omega arith),
      digit_length (k % 10) (omega arith),
    )

fraction_digits : (k : ℕ) → AllDigits 10 (fraction k)
fraction_digits k =
    let digit = λ (a : ℕ) (low : a < 10). (decimal_is_IsNumeral_wide a (omega arith)).0.1 in
    all_digits_append (decimal (k / 100 % 10)) (decimal (k / 10 % 10) ++ decimal (k % 10)) (digit (k / 100 % 10) (omega arith))
    (all_digits_append (decimal (k / 10 % 10)) (decimal (k % 10)) (digit (k / 10 % 10) (omega arith)) (digit (k % 10) (omega arith)))

fraction_value : (v k : ℕ) → digits_value_after 10 v (fraction k) ≡ v * 1000 + k % 1000
fraction_value v k =
    value_append 10 v (decimal (k / 100 % 10)) (decimal (k / 10 % 10) ++ decimal (k % 10))
    ∙ ap (λ w. digits_value_after 10 w (decimal (k / 10 % 10) ++ decimal (k % 10))) (digit_after v (k / 100 % 10) (omega arith))
    ∙ value_append 10 (v * 10 + k / 100 % 10) (decimal (k / 10 % 10)) (decimal (k % 10))
    ∙ ap (λ w. digits_value_after 10 w (decimal (k % 10))) (digit_after (v * 10 + k / 100 % 10) (k / 10 % 10) (omega arith))
    ∙ digit_after ((v * 10 + k / 100 % 10) * 10 + k / 10 % 10) (k % 10) (omega arith)
    ∙ (let e : ((v * 10 + k / 100 % 10) * 10 + k / 10 % 10) * 10 + k % 10 ≡ v * 1000 + k % 1000 = omega arith in e)

all_value : (k : ℕ) → k < 2 ^ 64 → digits_value 10 (decimal (k / 1000) ++ fraction k) ≡ k
all_value k low =
    value_append 10 0 (decimal (k / 1000)) (fraction k)
    ∙ ap (λ v. digits_value_after 10 v (fraction k)) (decimal_is_IsNumeral_wide (k / 1000) (omega arith)).1
    ∙ fraction_value (k / 1000) k ∙ (let e : k / 1000 * 1000 + k % 1000 ≡ k = omega arith in e)

-- ---- the number of so many milliseconds

-- the number that a sign and the seconds of k milliseconds, with three digits after the point, are read as
record Reads (b : Bool) (k : ℕ) : Type 0 where
  pub number : Exact
  pub is : finite b (plain_numeral (decimal (k / 1000)) (fraction k)) ≡ Ok (Finite number)
  pub sign : (b ≡ true → 0 < k) → number.is_negative ≡ b
  pub millis : millis number ≡ k
  pub some : 0 < k → (number.digits == 0) ≡ false

finite_three : (b : Bool) (k c z : ℕ) → k < 2 ^ 64 → c * 10 ^ z ≡ k → c < 10 ^ 38 → (c % 10 ≡ 0 → c ≡ 0)
    → finite b (plain_numeral (decimal (k / 1000)) (fraction k)) ≡ ok_or (option_map Finite (from_digits b c (z + 0) 3)) fault.OutOfRange
finite_three b k c z low is short ends =
    finite_short b (plain_numeral (decimal (k / 1000)) (fraction k)) c z (decimal_is_IsNumeral_wide (k / 1000) (omega arith)).0.1 (fraction_digits k) (is ∙ sym (all_value k low)) short ends
    ∙ ap (λ n. ok_or (option_map Finite (from_digits b c (z + 0) n)) fault.OutOfRange) (fraction_length k)

in_range_of_bounds : (c up down : ℕ) → digit_count c + up ≤ 309 + down → down ≤ digit_count c + up + 323 → is_in_range c up down ≡ true
in_range_of_bounds c up down below above = grind (arith, nat_tests)

scaled_millis : (b : Bool) (c z k : ℕ) → c * 10 ^ z ≡ k → millis (exact_quotient b c (z + 0) 3) ≡ k
scaled_millis b c zero k is = omega (arith, is)
scaled_millis b c (suc zero) k is = omega (arith, is)
scaled_millis b c (suc (suc zero)) k is = omega (arith, is)
scaled_millis b c (suc (suc (suc z))) k is =
    let n : ℕ = suc (suc (suc z)) in
    let up : n + 0 - 3 + 3 ≡ n = omega arith in
    let down : 3 - (n + 0) ≡ 0 = omega arith in
    ap (λ i. (2 * (c * 10 ^ i) + 10 ^ (3 - (n + 0))) / (2 * 10 ^ (3 - (n + 0)))) up
    ∙ ap (λ i. (2 * (c * 10 ^ n) + 10 ^ i) / (2 * 10 ^ i)) down
    ∙ ap (λ i. (2 * i + 1) / 2) is ∙ (let e : (2 * k + 1) / 2 ≡ k = omega arith in e)

reads : (b : Bool) (k : ℕ) → k < 2 ^ 64 → Reads b k
reads b zero low = record {
  number = exact_zero;
  is = finite_three b 0 0 0 low refl (omega arith) (λ e. refl);
  sign = no_minus b;
  millis = refl;
  some = λ e. absurd (omega arith);
}
  where
    no_minus : (b : Bool) → (b ≡ true → 0 < 0) → false ≡ b
    no_minus true some = absurd (let h = some refl in omega (arith, h))
    no_minus false some = refl
reads b (suc j) low =
    let k : ℕ = suc j in
    let parts = zeroless 29 k (omega arith) (omega arith) in
    let c = parts.digits in
    let z = parts.zeros in
    let above : 0 < c = (let ends = parts.ends in omega (arith, ends)) in
    let under : c ≤ k = (let h = below_product c z in omega (arith, h, parts.is)) in
    let few : z < 29 = zeros_below c z k 29 parts.is above (omega arith) in
    let count : digit_count c ≤ 29 = count_within 29 c (omega arith) (omega arith) (omega arith) in
    let none : (c == 0) ≡ false = ne_eqb c 0 (omega arith) in
    let range : is_in_range c (z + 0) 3 ≡ true = in_range_of_bounds c (z + 0) 3 (omega arith) (omega arith) in
    let place : from_digits b c (z + 0) 3 ≡ Some (exact_quotient b c (z + 0) 3) =
    ap (λ x. cond x (Some exact_zero) (cond (is_in_range c (z + 0) 3) (Some (exact_quotient b c (z + 0) 3)) None)) none
    ∙ ap (λ x. cond x (Some (exact_quotient b c (z + 0) 3)) None) range in
    record {
      number = exact_quotient b c (z + 0) 3;
      is = finite_three b k c z low parts.is (omega arith) (λ e. absurd (parts.ends e)) ∙ ap (λ o. ok_or (option_map Finite o) fault.OutOfRange) place;
      sign = λ _. refl;
      millis = scaled_millis b c z k parts.is;
      some = λ _. none;
    }

abbrev seconds : ℕ → Text
seconds k = decimal (k / 1000) ++ (46 ∷ fraction k)

not_octal_point : (b : Bool) (xs ys : Text) → is_octal (with_sign b (xs ++ (46 ∷ ys))) ≡ false
not_octal_point b xs ys =
    let s : Text = with_sign b (xs ++ (46 ∷ ys)) in
    ap (λ x. (front (without_sign s) == 48) && (not (length (drop 1 (without_sign s)) == 0) && not x)) (point_signed b xs ys) ∙ false_both _ _
  where
    false_both : (x y : Bool) → (x && (y && false)) ≡ false
    false_both true true = refl
    false_both true false = refl
    false_both false y = refl

text_reads : (b : Bool) (k : ℕ) → k < 2 ^ 64 → (r : Reads b k) → read_number (with_sign b (seconds k)) ≡ Ok (Finite r.number)
text_reads b k low r =
    let own = (decimal_is_IsNumeral_wide (k / 1000) (omega arith)).0 in
    let w = decimal (k / 1000) in
    number_signed b (w ++ (46 ∷ fraction k)) (plain_numeral w (fraction k)) (front_digit w (46 ∷ fraction k) own.0 own.1)
    (plain_append w (46 ∷ fraction k) (plain_digits w own.1) (refl, plain_digits (fraction k) (fraction_digits k)))
    (not_octal_point b w (fraction k)) (reading_point w (fraction k) own.0 own.1 (fraction_digits k)) ∙ r.is

-- ---- times after `@`

at_within : (n : Number) (b : Bool) (k : ℕ) → nat_le k (cond b (2 ^ 63) (2 ^ 63 - 1)) ≡ true → at_of_millis n (within_i64 b k) ≡ Ok (At (cond b (neg_ℤ (pos k)) (pos k)))
at_within n b k fits = ap (λ x. at_of_millis n (cond x (Some (cond b (neg_ℤ (pos k)) (pos k))) None)) fits

at_reads : (b : Bool) (k : ℕ) (r : Reads b k) → (b ≡ true → 0 < k) → nat_le k (cond b (2 ^ 63) (2 ^ 63 - 1)) ≡ true → at_of_number (Finite r.number) ≡ Ok (At (cond b (neg_ℤ (pos k)) (pos k)))
at_reads b k r some fits = (λ i. at_of_millis (Finite r.number) (within_i64 (r.sign some i) (r.millis i))) ∙ at_within (Finite r.number) b k fits

-- the number of the text without its sign, negated
negated_reads : (k : ℕ) (r : Reads false k) → 0 < k → nat_le k (2 ^ 63) ≡ true → at_of_number (neg (Finite r.number)) ≡ Ok (At (neg_ℤ (pos k)))
negated_reads k r some fits =
    let minus : (negate r.number).is_negative ≡ true = (λ i. not (r.sign (λ e. some) i) && not (r.some some i)) in
    (λ i. at_of_millis (Finite (negate r.number)) (within_i64 (minus i) (r.millis i))) ∙ at_within (Finite (negate r.number)) true k fits

not_negative : (n : ℕ) → is_negative (pos n) ≡ false
not_negative n = none_below n
  where
    none_below : (m : ℕ) → nat_lt m 0 ≡ false
    none_below m = grind (arith, nat_tests)

fits_above : (k : ℕ) → k < 2 ^ 63 → nat_le k (2 ^ 63 - 1) ≡ true
fits_above k low = le-leb k (2 ^ 63 - 1) (omega arith)

fits_below : (k : ℕ) → k ≤ 2 ^ 63 → nat_le k (2 ^ 63) ≡ true
fits_below k low = le-leb k (2 ^ 63) low

-- a size prints without a sign
pub size_text : (k : ℕ) → time_text (pos k) ≡ seconds k
unfolding time_text
size_text k = ap (λ b. cond b (codes "-") [] ++ seconds k) (not_negative k)

-- the whole text, which may begin with a minus
pub time_reads : (t : ℤ) → FitsSigned w64 t → (n : Number) × (read_number (time_text t) ≡ Ok n) × (at_of_number n ≡ Ok (At t))
unfolding time_text
time_reads (pos k) fits =
    let low : k < 2 ^ 63 = fits.sfits in
    let r = reads false k (omega arith) in
    (Finite r.number, ap read_number (size_text k) ∙ text_reads false k (omega arith) r, at_reads false k r (λ e. cc) (fits_above k low))
time_reads (negsuc j) fits =
    let low : j < 2 ^ 63 = fits.sfits in
    let k : ℕ = suc j in
    let r = reads true k (omega arith) in
    (Finite r.number, text_reads true k (omega arith) r, at_reads true k r (λ e. omega arith) (fits_below k (omega arith)))

-- the sign, and the text without it
pub time_text_split : (t : ℤ) → time_text t ≡ sign_text t ++ time_text (pos (unsigned_abs t))
unfolding time_text
time_text_split t = ap (λ s. sign_text t ++ s) (sym (size_text (unsigned_abs t)))

pub size_reads : (t : ℤ) → FitsSigned w64 t
    → (n : Number) × (read_number (time_text (pos (unsigned_abs t))) ≡ Ok n) × (at_of_number (cond (is_negative t) (neg n) n) ≡ Ok (At t))
size_reads (pos k) fits =
    let low : k < 2 ^ 63 = fits.sfits in
    let r = reads false k (omega arith) in (
      Finite r.number,
      ap read_number (size_text k) ∙ text_reads false k (omega arith) r,
      ap (λ b. at_of_number (cond b (neg (Finite r.number)) (Finite r.number))) (not_negative k) ∙ at_reads false k r (λ e. cc) (fits_above k low),
    )
size_reads (negsuc j) fits =
    let low : j < 2 ^ 63 = fits.sfits in
    let k : ℕ = suc j in
    let r = reads false k (omega arith) in
    (Finite r.number, ap read_number (size_text k) ∙ text_reads false k (omega arith) r, negated_reads k r (omega arith) (fits_below k (omega arith)))

-- ---- the times that `@` can have

within_fits : (b : Bool) (k : ℕ) (t : ℤ) → within_i64 b k ≡ Some t → FitsSigned w64 t
within_fits true k t e = go k (nat_le k (2 ^ 63)) refl e
  where
    go : (k : ℕ) (x : Bool) → nat_le k (2 ^ 63) ≡ x → cond x (Some (neg_ℤ (pos k))) None ≡ Some t → FitsSigned w64 t
    go zero true is e = let same : pos 0 ≡ t = cc in subst (FitsSigned w64) same (record { sfits = omega arith })
    go (suc j) true is e =
        let low : suc j ≤ 2 ^ 63 = leb-true (suc j) (2 ^ 63) is in
        let fits : j < 2 ^ 63 = omega arith in
        let same : negsuc j ≡ t = cc in
        subst (FitsSigned w64) same (record { sfits = fits })
    go k false is e = cc
within_fits false k t e = go (nat_le k (2 ^ 63 - 1)) refl e
  where
    go : (x : Bool) → nat_le k (2 ^ 63 - 1) ≡ x → cond x (Some (pos k)) None ≡ Some t → FitsSigned w64 t
    go true is e =
        let low : k ≤ 2 ^ 63 - 1 = leb-true k (2 ^ 63 - 1) is in
        let fits : k < 2 ^ 63 = omega arith in
        let same : pos k ≡ t = cc in
        subst (FitsSigned w64) same (record { sfits = fits })
    go false is e = cc

pub millis_fits : (n : Number) (t : ℤ) → to_millis n ≡ Some t → FitsSigned w64 t
millis_fits (Finite d) t e = within_fits d.is_negative (millis d) t e
millis_fits Inf t e = cc
millis_fits NegInf t e = cc
millis_fits NaN t e = cc
