-- Products with powers of ten.
use Rattle.std.proofs.Common.{◌≡◌, ◌≢◌, ℕ, ◌+◌, ◌-◌, ◌*◌, ◌/◌, ◌%◌, ◌^◌, ◌<◌, ◌≤◌, cond, refl, ap, ◌∙◌, sym, suc, zero, arith, add-one, eq-eqb, ⊎_elim, List, [], ◌∷◌}
use Rattle.std.proofs.Math.Nat.{pow-suc, pow-le-pow_right, one-le-pow, mul-mod_left, mul_assoc, mul-div_left}
use Rattle.std.proofs.lemmas.Nat.{pow-add, mul-le}
use Rattle.std.proofs.lemmas.Bool.{ne_eqb, cases_lt}
use Rattle.std.specs.Char.{digit_value}
use Rattle.std.specs.Str.Parse.{digits_value_after, AllDigits}
use Rattle.promql_text.specs.Numbers.{tens}
use Rattle.promql_text.specs.Significands.{IsLong}
use Rattle.promql_text.specs.Texts.{Text}
use Rattle.promql_text.specs.DecimalForm.{digit_run}
use Rattle.promql_text.proofs.numerals.Runs.{run_digits}

-- one more zero
pub times_ten : (a z : ℕ) → a * 10 ^ (z + 1) ≡ a * 10 ^ z * 10
times_ten a z = ap (λ k. a * 10 ^ k) (add-one z) ∙ ap (λ p. a * p) (pow-suc 10 z) ∙ sym (mul_assoc a (10 ^ z) 10)

pub times_one : (a : ℕ) → a * 10 ^ 0 ≡ a
times_one a = grind arith

pub ten_pos : (k : ℕ) → 1 ≤ 10 ^ k
ten_pos k = one-le-pow k 10 (omega arith)

-- a factor is at most the product with a power of ten
pub below_product : (a z : ℕ) → a ≤ a * 10 ^ z
below_product a z = let h = mul-le a 1 a (10 ^ z) (omega arith) (ten_pos z) in omega (arith, h)

pub ends_zero : (a : ℕ) → a * 10 % 10 ≡ 0
ends_zero a = mul-mod_left a 10

-- so many zeros in two parts
pub times_both : (a i j : ℕ) → a * 10 ^ (i + j) ≡ a * 10 ^ i * 10 ^ j
times_both a i j = ap (λ p. a * p) (pow-add 10 i j) ∙ sym (mul_assoc a (10 ^ i) (10 ^ j))

-- fewer zeros, and one of those that are missing
pub shift_le : (a i z : ℕ) → i < z → a * 10 ^ i * 10 ≤ a * 10 ^ z
shift_le a i z less =
    let k : ℕ = z - (i + 1) in
    let e : z ≡ (i + 1) + k = omega arith in
    let whole : a * 10 ^ z ≡ a * 10 ^ (i + 1) * 10 ^ k = ap (λ n. a * 10 ^ n) e ∙ times_both a (i + 1) k in
    let low : a * 10 ^ (i + 1) ≤ a * 10 ^ (i + 1) * 10 ^ k = below_product (a * 10 ^ (i + 1)) k in
    omega (arith, whole, low, times_ten a i)

-- how often ten divides a number
pub tens_stops : (most n : ℕ) → n % 10 ≢ 0 → tens most n ≡ 0
tens_stops zero n ends = refl
tens_stops (suc most) n ends = ap (λ b. cond b (suc (tens most (n / 10))) 0) (ne_eqb (n % 10) 0 ends)

pub tens_goes : (most m : ℕ) → tens (suc most) (m * 10) ≡ suc (tens most m)
tens_goes most m =
    ap (λ b. cond b (suc (tens most (m * 10 / 10))) 0) (eq-eqb (m * 10 % 10) 0 (ends_zero m))
    ∙ ap (λ n. suc (tens most n)) (mul-div_left m (omega arith))

pub tens_is : (most c z : ℕ) → c % 10 ≢ 0 → z ≤ most → tens most (c * 10 ^ z) ≡ z
tens_is zero c z ends small = omega arith
tens_is (suc most) c zero ends small = ap (tens (suc most)) (times_one c) ∙ tens_stops (suc most) c ends
tens_is (suc most) c (suc z) ends small =
    let e : c * 10 ^ suc z ≡ c * 10 ^ z * 10 = ap (λ p. c * p) (pow-suc 10 z) ∙ sym (mul_assoc c (10 ^ z) 10) in
    ap (tens (suc most)) e ∙ tens_goes most (c * 10 ^ z) ∙ ap suc (tens_is most c z ends (omega arith))

-- more than 38 digits stay more than 38
pub long_more : (n d : ℕ) → IsLong n → d < 10 → IsLong (n * 10 + d)
long_more n zero l small = record {
  front = l.front;
  zeros = l.zeros + 1;
  splits = let e : n * 10 + 0 ≡ n * 10 = omega arith in e ∙ ap (λ x. x * 10) l.splits ∙ sym (times_ten l.front l.zeros);
  long = l.long;
  ends = l.ends;
}
long_more n (suc d) l small = record {
  front = n * 10 + suc d;
  zeros = 0;
  splits = sym (times_one (n * 10 + suc d));
  long = let low = below_product l.front l.zeros in omega (arith, l.splits, low, l.long);
  ends = omega (arith, ends_zero n);
}

pub long_after : (ds : List ℕ) (n : ℕ) → IsLong n → AllDigits 10 ds → IsLong (digits_value_after 10 n ds)
long_after [] n l digits = l
long_after (c ∷ cs) n l digits = long_after cs (n * 10 + digit_value c) (long_more n (digit_value c) l digits.0) digits.1

-- digits only add
pub value_after_ge : (ds : List ℕ) (n : ℕ) → n ≤ digits_value_after 10 n ds
value_after_ge [] n = omega arith
value_after_ge (c ∷ cs) n = let h = value_after_ge cs (n * 10 + digit_value c) in omega (arith, h)

-- one more digit, after at most 38 digits and zeros
pub push_long : (a z d : ℕ) → d < 10 → d ≢ 0 → (a * 10 ^ (z + 1) < 10 ^ 38 → ⊥) → IsLong (a * 10 ^ z * 10 + d)
push_long a z d small some long = record {
  front = a * 10 ^ z * 10 + d;
  zeros = 0;
  splits = sym (times_one (a * 10 ^ z * 10 + d));
  long = omega (arith, times_ten a z, long);
  ends = omega (arith, ends_zero (a * 10 ^ z));
}

pub push_value : (a z d front : ℕ) → front ≡ a * 10 ^ (z + 1) → (front + d) * 10 ^ 0 ≡ a * 10 ^ z * 10 + d
push_value a z d front is = times_one (front + d) ∙ ap (λ n. n + d) (is ∙ times_ten a z)

-- what is known of the digits then
pub record IsPushed (n : ℕ) : Type 0 where
  pub short : n < 10 ^ 38
  pub ends : n % 10 ≡ 0 → n ≡ 0

pub push_short : (a z d front : ℕ) → d < 10 → d ≢ 0 → front ≡ a * 10 ^ (z + 1) → front < 10 ^ 38 → IsPushed (front + d)
push_short a z d front small some is less =
    let e : front ≡ a * 10 ^ z * 10 = is ∙ times_ten a z in
    record { short = omega (arith, e); ends = omega (arith, e, ends_zero (a * 10 ^ z)) }

pub long_run : (z : Text) (n : ℕ) → IsLong n → IsLong (digits_value_after 10 n (digit_run z))
long_run z n l = long_after (digit_run z) n l (run_digits z)

pub zero_stays : (a y z d : ℕ) → a ≡ 0 → d ≡ 0 → a * 10 ^ z ≡ a * 10 ^ y * 10 + d
zero_stays a y z d none end = rw (none, end) (grind arith)

-- n is a and z zeros, of which a has one
pub whole_step : (a z n : ℕ) → a * 10 ^ z ≡ n → a % 10 ≡ 0 → 0 < a → (a / 10 * 10 ^ (z + 1) ≡ n) × (0 < a / 10)
whole_step a z n is ends some =
    let x : ℕ = a / 10 in
    let e : a ≡ x * 10 = omega arith in
    let f : x * 10 ^ z * 10 ≡ x * 10 * 10 ^ z = omega arith in
    (times_ten x z ∙ f ∙ ap (λ b. b * 10 ^ z) (sym e) ∙ is, omega arith)

-- a number below a power of ten has fewer zeros
pub zeros_below : (a z n most : ℕ) → a * 10 ^ z ≡ n → 0 < a → n < 10 ^ most → z < most
zeros_below a z n most is some less =
    ⊎_elim (λ in_range. in_range)
    (λ past.
    let high : 10 ^ most ≤ 10 ^ z = pow-le-pow_right {n = 10} (omega arith) past in
    let low : 1 * 10 ^ z ≤ a * 10 ^ z = mul-le 1 (10 ^ z) a (10 ^ z) some (omega arith) in
    absurd (omega (arith, high, low, is, less)))
    (cases_lt z most)

-- the digits of a number, and its zeros
pub record Splits (most n c z : ℕ) : Type 0 where
  pub zeros : tens most n ≡ z
  pub digits : n / 10 ^ tens most n ≡ c

pub splits : (most n c z : ℕ) → c * 10 ^ z ≡ n → c % 10 ≢ 0 → n < 10 ^ most → Splits most n c z
splits most n c z is ends less =
    let some : 0 < c = omega (arith, ends) in
    let t : tens most n ≡ z = ap (tens most) (sym is) ∙ tens_is most c z ends (let h = zeros_below c z n most is some less in omega (arith, h)) in
    record { zeros = t; digits = ap (λ k. n / 10 ^ k) t ∙ ap (λ m. m / 10 ^ z) (sym is) ∙ mul-div_left c (ten_pos z) }
