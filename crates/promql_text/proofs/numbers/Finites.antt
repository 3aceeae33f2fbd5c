-- The number of a numeral.
use Rattle.std.proofs.Common.{◌≡◌, ◌≢◌, ℕ, zero, suc, ◌+◌, ◌*◌, ◌/◌, ◌%◌, ◌^◌, ◌<◌, ⊎_elim, min, Bool, false, cond, [], ◌∷◌, ◌++◌, length, arith, ap, ◌∙◌, sym, refl, subst, None, Result, Err, length-append}
use Rattle.std.specs.Prelude.{option_map, nat_le}
use Rattle.std.specs.Option.{ok_or}
use Rattle.std.specs.Str.Parse.{AllDigits, digits_value_after}
use Rattle.std.proofs.lemmas.Bool.{cases_lt, le-leb}
use Rattle.std.proofs.lemmas.Bool.Decides.{nat_tests}
use Rattle.std.proofs.lemmas.Int.Digits.{digits_value-lt}
use Rattle.std.proofs.Math.Nat.{zero-div, zero-mul}
use Rattle.promql_text.specs.Texts.{Text}
use Rattle.promql_text.specs.DecimalForm.{Numeral, digits_number}
use Rattle.promql_text.specs.NumberText.{at_place, finite, zeros_of}
use Rattle.promql_text.specs.Numbers.{from_digits, digit_count}
use Rattle.promql_text.specs.Significands.{IsLong}
use Rattle.promql_text.specs.declared.number.Number.TheVariants as number
use Rattle.promql_text.specs.declared.number.NumberFault.{NumberFault}
use Rattle.promql_text.specs.declared.number.NumberFault.TheVariants as fault
use Rattle.promql_text.proofs.numerals.DigitCounts.{count_short}
use Rattle.promql_text.proofs.numerals.Radix.{value_append}
use Rattle.promql_text.proofs.numbers.Tens.{Splits, splits, long_after}

-- ---- the digits of a numeral

pub all_digits_append : (xs ys : Text) → AllDigits 10 xs → AllDigits 10 ys → AllDigits 10 (xs ++ ys)
all_digits_append [] ys left right = right
all_digits_append (x ∷ xs) ys left right = (left.0, all_digits_append xs ys left.1 right)

pub number_below : (n : Numeral) → AllDigits 10 n.whole → AllDigits 10 n.fraction → digits_number n < 10 ^ (length n.whole + length n.fraction)
number_below n whole fraction =
    let h = digits_value-lt 10 (n.whole ++ n.fraction) (all_digits_append n.whole n.fraction whole fraction) in
    rw (← length-append n.whole n.fraction) h

-- more than 38 digits
pub finite_long : (neg : Bool) (n : Numeral) → AllDigits 10 n.whole → AllDigits 10 n.fraction → IsLong (digits_number n) → finite neg n ≡ Err fault.TooManyDigits
unfolding finite
finite_long neg n whole fraction l =
    let s : Splits (length n.whole + length n.fraction) (digits_number n) l.front l.zeros =
    splits (length n.whole + length n.fraction) (digits_number n) l.front l.zeros (sym l.splits) l.ends (number_below n whole fraction) in
    let c : ℕ = digits_number n / 10 ^ zeros_of n in
    let rest : Result _ NumberFault = ok_or (option_map number.Finite (at_place neg c (zeros_of n) n)) fault.OutOfRange in
    ap (λ d. cond (nat_le (10 ^ 38) d) (Err fault.TooManyDigits) rest) s.digits
    ∙ ap (λ b. cond b (Err fault.TooManyDigits) rest) (le-leb (10 ^ 38) l.front l.long)

-- at most 38 digits
none_places : (neg : Bool) (n : Numeral) (c z t : ℕ) → c ≡ 0 → at_place neg (0 / 10 ^ t) t n ≡ at_place neg c z n
none_places neg n c z t none = rw (none, zero-div) refl

few_places : (neg : Bool) (n : Numeral) (c z : ℕ) → AllDigits 10 n.whole → AllDigits 10 n.fraction → c * 10 ^ z ≡ digits_number n → c % 10 ≢ 0 → at_place neg (digits_number n / 10 ^ zeros_of n) (zeros_of n) n ≡ at_place neg c z n
few_places neg n c z whole fraction is ends =
    let s : Splits (length n.whole + length n.fraction) (digits_number n) c z =
    splits (length n.whole + length n.fraction) (digits_number n) c z is ends (number_below n whole fraction) in
    ap (λ d. at_place neg d (zeros_of n) n) s.digits ∙ ap (λ k. at_place neg c k n) s.zeros

not_long : (c : ℕ) → c < 10 ^ 38 → nat_le (10 ^ 38) c ≡ false
not_long c short = grind (arith, nat_tests)

quotient_short : (n c z : ℕ) → c * 10 ^ z ≡ n → (t : ℕ) → (c ≢ 0 → n / 10 ^ t ≡ c) → c < 10 ^ 38 → nat_le (10 ^ 38) (n / 10 ^ t) ≡ false
quotient_short n zero z is t same short =
    let none : n ≡ 0 = sym is ∙ zero-mul (10 ^ z) in
    ap (λ m. nat_le (10 ^ 38) (m / 10 ^ t)) none ∙ ap (nat_le (10 ^ 38)) (zero-div (10 ^ t))
quotient_short n (suc c) z is t same short =
    let e : n / 10 ^ t ≡ suc c = same (omega arith) in
    ap (nat_le (10 ^ 38)) e ∙ not_long (suc c) short

-- what at most 38 digits give
out_of_range_at_place : (neg : Bool) (n : Numeral) (c z : ℕ) → nat_le (10 ^ 38) (digits_number n / 10 ^ zeros_of n) ≡ false → at_place neg (digits_number n / 10 ^ zeros_of n) (zeros_of n) n ≡ at_place neg c z n → finite neg n ≡ ok_or (option_map number.Finite (at_place neg c z n)) fault.OutOfRange
unfolding finite
out_of_range_at_place neg n c z short same =
    let rest : Result _ NumberFault = ok_or (option_map number.Finite (at_place neg (digits_number n / 10 ^ zeros_of n) (zeros_of n) n)) fault.OutOfRange in
    ap (λ b. cond b (Err fault.TooManyDigits) rest) short ∙ ap (λ p. ok_or (option_map number.Finite p) fault.OutOfRange) same

pub finite_short : (neg : Bool) (n : Numeral) (c z : ℕ) → AllDigits 10 n.whole → AllDigits 10 n.fraction → c * 10 ^ z ≡ digits_number n → c < 10 ^ 38 → (c % 10 ≡ 0 → c ≡ 0) → finite neg n ≡ ok_or (option_map number.Finite (at_place neg c z n)) fault.OutOfRange
finite_short neg n zero z whole fraction is short ends =
    let none : digits_number n ≡ 0 = sym is ∙ zero-mul (10 ^ z) in
    out_of_range_at_place neg n 0 z (quotient_short (digits_number n) 0 z is (zeros_of n) (λ some. absurd (some refl)) short)
    (ap (λ m. at_place neg (m / 10 ^ zeros_of n) (zeros_of n) n) none ∙ none_places neg n 0 z (zeros_of n) refl)
finite_short neg n (suc c) z whole fraction is short ends =
    let last : suc c % 10 ≢ 0 = λ e. absurd (let h : suc c ≡ 0 = ends e in omega (arith, h)) in
    let s : Splits (length n.whole + length n.fraction) (digits_number n) (suc c) z =
    splits (length n.whole + length n.fraction) (digits_number n) (suc c) z is last (number_below n whole fraction) in
    out_of_range_at_place neg n (suc c) z (quotient_short (digits_number n) (suc c) z is (zeros_of n) (λ some. s.digits) short)
    (few_places neg n (suc c) z whole fraction is last)

-- ---- exponents past the range

placed_above : (neg : Bool) (c up down : ℕ) → c ≢ 0 → 309 + down < digit_count c + up → from_digits neg c up down ≡ None
placed_above neg c up down some far = grind (arith, nat_tests)

placed_below : (neg : Bool) (c up down : ℕ) → c ≢ 0 → digit_count c + up + 323 < down → from_digits neg c up down ≡ None
placed_below neg c up down some far = grind (arith, nat_tests)

pub capped_down : (neg : Bool) (c z p x : ℕ) → c < 10 ^ 38 → z < 2 ^ 66 → from_digits neg c z (p + min x (10 ^ 30)) ≡ from_digits neg c z (p + x)
capped_down neg zero z p x short few = refl
capped_down neg (suc c) z p x short few =
    ⊎_elim (λ near. let e : min x (10 ^ 30) ≡ x = omega arith in ap (λ m. from_digits neg (suc c) z (p + m)) e)
    (λ far.
    let count = count_short (suc c) short in
    let some : suc c ≢ 0 = omega arith in
    placed_below neg (suc c) z (p + min x (10 ^ 30)) some (omega (arith, count))
    ∙ sym (placed_below neg (suc c) z (p + x) some (omega (arith, count))))
    (cases_lt x (10 ^ 30))

pub capped_up : (neg : Bool) (c z p x : ℕ) → p < 2 ^ 64 → from_digits neg c (z + min x (10 ^ 30)) p ≡ from_digits neg c (z + x) p
capped_up neg zero z p x few = refl
capped_up neg (suc c) z p x few =
    ⊎_elim (λ near. let e : min x (10 ^ 30) ≡ x = omega arith in ap (λ m. from_digits neg (suc c) (z + m) p) e)
    (λ far.
    let some : suc c ≢ 0 = omega arith in
    placed_above neg (suc c) (z + min x (10 ^ 30)) p some (omega arith)
    ∙ sym (placed_above neg (suc c) (z + x) p some (omega arith)))
    (cases_lt x (10 ^ 30))

-- ---- digits in two parts

pub nothing_yet : (a z : ℕ) → a ≡ 0 → a * 10 ^ z ≡ 0
nothing_yet a z none = ap (λ n. n * 10 ^ z) none ∙ zero-mul (10 ^ z)

pub both_parts : (n : Numeral) (start first : ℕ) → start ≡ 0 → first ≡ digits_value_after 10 start n.whole → digits_value_after 10 first n.fraction ≡ digits_number n
both_parts n start first none is =
    ap (λ v. digits_value_after 10 v n.fraction) (is ∙ ap (λ s. digits_value_after 10 s n.whole) none) ∙ sym (value_append 10 0 n.whole n.fraction)

pub long_whole : (n : Numeral) (start : ℕ) → start ≡ 0 → AllDigits 10 n.fraction → IsLong (digits_value_after 10 start n.whole) → IsLong (digits_number n)
long_whole n start none fraction long =
    let P : ℕ → Type 0 = λ v. IsLong v in
    subst P (both_parts n start (digits_value_after 10 start n.whole) none refl) (long_after n.fraction (digits_value_after 10 start n.whole) long fraction)
