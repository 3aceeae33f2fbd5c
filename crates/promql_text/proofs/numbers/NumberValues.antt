-- The number of a numeral has the numeral's value, and is the only one.
use Rattle.std.proofs.Common.{◌≡◌, ◌≢◌, ◌⊎◌, ⊎_elim, inl, inr, ℕ, ◌+◌, ◌-◌, ◌*◌, ◌/◌, ◌%◌, ◌^◌, ◌<◌, ◌≤◌, Bool, true, false, cond, length, Some, None, Result, Ok, Err, refl, sym, ap, ◌∙◌, subst, arith}
use Rattle.std.specs.Prelude.{◌==◌, ◌&&◌, nat_le, nat_lt, option_map}
use Rattle.std.specs.Option.{ok_or}
use Rattle.std.specs.Str.Parse.{AllDigits}
use Rattle.std.proofs.lemmas.Bool.{cases_lt, cond_both, cond-false, cond-true, le-ltb, lt-ltb, ne_eqb}
use Rattle.std.proofs.lemmas.Bool.Decides.{nat_tests}
use Rattle.std.proofs.Math.Nat.{mul-div_left, zero-mul}
use Rattle.promql_text.specs.DecimalForm.{Numeral, digits_number, exponent_size, places}
use Rattle.promql_text.specs.DecimalForm as form
use Rattle.promql_text.specs.DurationForms.{up, down}
use Rattle.promql_text.specs.NumberForms.{Whole, HasValue, IsTooLong, GivesReading, Gives}
use Rattle.promql_text.specs.NumberText.{at_place, finite, zeros_of}
use Rattle.promql_text.specs.Numbers.{Exact, IsExact, digit_count, exact_zero, is_in_range, from_digits, exact_quotient, tens, whole}
use Rattle.promql_text.specs.declared.number.Number.TheVariants as number
use Rattle.promql_text.specs.declared.number.NumberFault.{NumberFault}
use Rattle.promql_text.specs.declared.number.NumberFault.TheVariants as fault
use Rattle.promql_text.proofs.numbers.Exacts.{exact_zero_is}
use Rattle.promql_text.proofs.numbers.Finites.{finite_long, finite_short, number_below}
use Rattle.promql_text.proofs.numbers.InForm.{Parts, scaled_exact, tens_parts, whole_exact}
use Rattle.promql_text.proofs.numbers.NumberTexts.{below, result_of, by_bool}
use Rattle.promql_text.proofs.numbers.OneForm.{one_form, same_digits, same_zeros}
use Rattle.promql_text.proofs.numbers.Tens.{below_product, ends_zero, ten_pos, times_both, times_ten}

-- ---- one value, one number

cancel_tens : (a b k : ℕ) → a * 10 ^ k ≡ b * 10 ^ k → a ≡ b
cancel_tens a b k is = sym (mul-div_left a (ten_pos k)) ∙ ap (λ n. n / 10 ^ k) is ∙ mul-div_left b (ten_pos k)

zero_digits : (b : Bool) (m u v : ℕ) (d : Exact) → HasValue b m u v d → m ≡ 0 → d.digits ≡ 0
zero_digits b m u v d h none =
    let size : d.digits * 10 ^ (d.zeros + v) ≡ 0 = h.2 ∙ ap (λ k. k * 10 ^ (u + d.places)) none ∙ zero-mul (10 ^ (u + d.places)) in
    let low = below_product d.digits (d.zeros + v) in
    omega (arith, size, low)

-- two products that are one number, with the point of either moved by the other's places
cross_sizes : (x i p y j q m u v : ℕ) → x * 10 ^ (i + v) ≡ m * 10 ^ (u + p) → y * 10 ^ (j + v) ≡ m * 10 ^ (u + q) → x * 10 ^ (i + q) ≡ y * 10 ^ (j + p)
cross_sizes x i p y j q m u v left right =
    let a : i + q + v ≡ i + v + q = omega arith in
    let b : j + v + p ≡ j + p + v = omega arith in
    let c : u + p + q ≡ u + q + p = omega arith in
    cancel_tens (x * 10 ^ (i + q)) (y * 10 ^ (j + p)) v
    (sym (times_both x (i + q) v) ∙ ap (λ n. x * 10 ^ n) a ∙ times_both x (i + v) q ∙ ap (λ n. n * 10 ^ q) left
    ∙ sym (times_both m (u + p) q) ∙ ap (λ n. m * 10 ^ n) c ∙ times_both m (u + q) p
    ∙ ap (λ n. n * 10 ^ p) (sym right) ∙ sym (times_both y (j + v) p) ∙ ap (λ n. y * 10 ^ n) b ∙ times_both y (j + p) v)

pub value_one : (b : Bool) (m u v : ℕ) (d e : Exact) → HasValue b m u v d → HasValue b m u v e → d ≡ e
value_one b m u v d e h k =
    let sign : d.is_negative ≡ e.is_negative =
    ⊎_elim
    (λ some. h.1 some ∙ sym (k.1 some))
    (λ low. let none : m ≡ 0 = omega arith in (h.0.one_zero (zero_digits b m u v d h none)).0 ∙ sym (k.0.one_zero (zero_digits b m u v e k none)).0)
    (cases_lt 0 m)
    in
    one_form d e h.0 k.0 sign (cross_sizes d.digits d.zeros d.places e.digits e.zeros e.places m u v h.2 k.2)

-- the digits of a number of this value, where it is c and z zeros
value_digits : (b : Bool) (m u v : ℕ) (d : Exact) (c z : ℕ) → HasValue b m u v d → c * 10 ^ z ≡ m → c % 10 ≢ 0 → (d.digits ≡ c) × (d.zeros + v ≡ z + (u + d.places))
value_digits b m u v d c z h is ends =
    let size : d.digits * 10 ^ (d.zeros + v) ≡ c * 10 ^ (z + (u + d.places)) = h.2 ∙ ap (λ k. k * 10 ^ (u + d.places)) (sym is) ∙ sym (times_both c z (u + d.places)) in
    let last : d.digits % 10 ≢ 0 = λ e. absurd
    (let none : d.digits ≡ 0 = h.0.ends e in
    let product : d.digits * 10 ^ (d.zeros + v) ≡ 0 = ap (λ k. k * 10 ^ (d.zeros + v)) none ∙ zero-mul (10 ^ (d.zeros + v)) in
    let low = below_product c (z + (u + d.places)) in
    omega (arith, size, product, low, ends))
    in
    let zeros : d.zeros + v ≡ z + (u + d.places) = same_zeros d.digits c (d.zeros + v) (z + (u + d.places)) last ends size in
    (same_digits d.digits c (d.zeros + v) (z + (u + d.places)) zeros size, zeros)

-- ---- numbers of a value

scaled_value : (b : Bool) (c z m u v : ℕ) → c * 10 ^ z ≡ m → IsExact (exact_quotient b c (z + u) v) → HasValue b m u v (exact_quotient b c (z + u) v)
scaled_value b c z m u v is exact =
    let k : ℕ = u + (v - (z + u)) in
    let e : (z + u - v) + v ≡ z + k = omega arith in
    (exact, λ _. refl, ap (λ n. c * 10 ^ n) e ∙ times_both c z k ∙ ap (λ n. n * 10 ^ k) is)

zero_value : (b : Bool) (m u v : ℕ) → m ≡ 0 → HasValue b m u v exact_zero
zero_value b m u v none = (
  exact_zero_is,
  (λ some. absurd (omega arith)),
  zero-mul (10 ^ (0 + v)) ∙ sym (ap (λ k. k * 10 ^ (u + 0)) none ∙ zero-mul (10 ^ (u + 0))),
)

-- ---- whole numbers

pub whole_value : (b : Bool) (n : ℕ) → n < 2 ^ 64 → HasValue b n 0 0 (whole b n)
whole_value b n less =
    let P : Exact → Type 0 = λ d. HasValue b n 0 0 d in
    ⊎_elim
    (λ some.
    let z : ℕ = tens 20 n in
    let c : ℕ = n / 10 ^ z in
    let p : Parts n z = tens_parts 20 n some (omega arith) in
    let same : z ≡ z + 0 = omega arith in
    let is : whole b n ≡ exact_quotient b c (z + 0) 0 = cond-false (n == 0) _ _ (ne_eqb n 0 (λ e. absurd (omega arith))) ∙ ap (λ k. exact_quotient b c k 0) same in
    let Q : Exact → Type 0 = λ d. IsExact d in
    subst P (sym is) (scaled_value b c z n 0 0 p.is (subst Q is (whole_exact b n (omega arith)))))
    (λ low.
    let none : n ≡ 0 = omega arith in
    let R : ℕ → Type 0 = λ k. HasValue b n 0 0 (whole b k) in
    subst R (sym none) (zero_value b n 0 0 none))
    (cases_lt 0 n)

not_below : (a b : ℕ) → nat_lt a b ≡ false → b ≤ a
not_below a b is = grind (arith, nat_tests)

pub whole_gives : (b : Bool) (n : ℕ) → Gives (Whole b n) (result_of (Whole b n))
whole_gives b n =
    cond_both (nat_lt n (2 ^ 63)) (Ok (number.Finite (whole b n))) (Err fault.OutOfRange) (Gives (Whole b n))
    (λ less. let small = below n (2 ^ 63) less in (small, whole_value b n (omega (arith, small))))
    (λ more. not_below n (2 ^ 63) more)

pub whole_is : (b : Bool) (n : ℕ) (r : Result _ NumberFault) → Gives (Whole b n) r → result_of (Whole b n) ≡ r
whole_is b n (Ok (number.Finite d)) h =
    cond-true (nat_lt n (2 ^ 63)) _ _ (lt-ltb n (2 ^ 63) h.0) ∙ ap (λ e. Ok (number.Finite e)) (value_one b n 0 0 (whole b n) d (whole_value b n (let low = h.0 in omega (arith, low))) h.1)
whole_is b n (Ok number.Inf) h = absurd h
whole_is b n (Ok number.NegInf) h = absurd h
whole_is b n (Ok number.NaN) h = absurd h
whole_is b n (Err fault.OutOfRange) h = cond-false (nat_lt n (2 ^ 63)) _ _ (le-ltb n (2 ^ 63) h)
whole_is b n (Err fault.NotANumber) h = absurd h
whole_is b n (Err fault.TooManyDigits) h = absurd h

-- ---- numerals

place_is : (b : Bool) (c z : ℕ) (n : Numeral) → at_place b c z n ≡ from_digits b c (z + up n) (down n)
place_is b c z n = at n.is_down
  where
    at : (x : Bool) → cond x (from_digits b c z (places n + exponent_size n)) (from_digits b c (z + exponent_size n) (places n)) ≡ from_digits b c (z + cond x 0 (exponent_size n)) (cond x (places n + exponent_size n) (places n))
    at true = let e : z ≡ z + 0 = omega arith in ap (λ k. from_digits b c k (places n + exponent_size n)) e
    at false = refl

-- more than 38 digits, whatever zeros are taken off
long_always : (c z m x y : ℕ) → c * 10 ^ z ≡ m → c % 10 ≢ 0 → 10 ^ 38 ≤ c → x * 10 ^ y ≡ m → 10 ^ 38 ≤ x
long_always c z m x y is ends long other =
    ⊎_elim
    (λ (more : z < y).
    let k : ℕ = y - (z + 1) in
    let e : y ≡ (k + 1) + z = omega arith in
    let same : x * 10 ^ (k + 1) ≡ c = cancel_tens (x * 10 ^ (k + 1)) c z (sym (times_both x (k + 1) z) ∙ ap (λ n. x * 10 ^ n) (sym e) ∙ other ∙ sym is) in
    absurd (ends (ap (λ n. n % 10) (sym same ∙ times_ten x k) ∙ ends_zero (x * 10 ^ k))))
    (λ (few : y ≤ z).
    let k : ℕ = z - y in
    let e : z ≡ k + y = omega arith in
    let same : x ≡ c * 10 ^ k = cancel_tens x (c * 10 ^ k) y (other ∙ sym is ∙ ap (λ n. c * 10 ^ n) e ∙ times_both c k y) in
    let low = below_product c k in
    omega (arith, same, low))
    (cases_lt z y)

-- a number of this value is in the range
value_range : (b : Bool) (m u v : ℕ) (d : Exact) (c z : ℕ) → HasValue b m u v d → c * 10 ^ z ≡ m → c % 10 ≢ 0 → is_in_range c (z + u) v ≡ true
value_range b m u v d c z h is ends =
    let same = value_digits b m u v d c z h is ends in
    let count : digit_count d.digits ≡ digit_count c = ap digit_count same.0 in
    in_range (digit_count c) (z + u) v (omega (arith, count, same.1, h.0.below)) (omega (arith, count, same.1, h.0.above))
  where
    in_range : (k i j : ℕ) → k + i ≤ 309 + j → j ≤ k + i + 323 → ◌≡◌ {A = Bool} (nat_le (k + i) (309 + j) && nat_le j (k + i + 323)) true
    in_range k i j low high = grind (arith, nat_tests)

value_not_long : (b : Bool) (m u v : ℕ) (d : Exact) (most : ℕ) → m < 10 ^ most → HasValue b m u v d → IsTooLong m → ⊥
value_not_long b m u v d most less h long =
    ⊎_elim
    (λ some.
    let z : ℕ = tens most m in
    let p : Parts m z = tens_parts most m some less in
    let same = value_digits b m u v d (m / 10 ^ z) z h p.is p.ends in
    let many = long (m / 10 ^ z) z p.is in
    omega (arith, same.0, many, h.0.short))
    (λ low.
    let none : 0 * 10 ^ 0 ≡ m = omega arith in
    let many = long 0 0 none in
    absurd (omega (arith, many)))
    (cases_lt 0 m)

abbrev Value : Bool → Numeral → Exact → Type 0
Value b n d = HasValue b (digits_number n) (up n) (down n) d

abbrev Outcome : Bool → Numeral → Type 0
Outcome b n =
    (IsTooLong (digits_number n) × (finite b n ≡ Err fault.TooManyDigits))
    ⊎ ((IsTooLong (digits_number n) → ⊥) × (((d : Exact) × Value b n d × (finite b n ≡ Ok (number.Finite d))) ⊎ (((d : Exact) → Value b n d → ⊥) × (finite b n ≡ Err fault.OutOfRange))))

few_outcome : (b : Bool) (n : Numeral) (c z : ℕ) → AllDigits 10 n.whole → AllDigits 10 n.fraction → c * 10 ^ z ≡ digits_number n → c % 10 ≢ 0 → c < 10 ^ 38 → Outcome b n
few_outcome b n c z whole fraction is ends short =
    let u : ℕ = z + up n in
    let some : (c == 0) ≡ false = ne_eqb c 0 (λ e. absurd (omega (arith, ends))) in
    let to_place : finite b n ≡ ok_or (option_map number.Finite (cond (is_in_range c u (down n)) (Some (exact_quotient b c u (down n))) None)) fault.OutOfRange =
    finite_short b n c z whole fraction is short (λ e. absurd (ends e))
    ∙ ap (λ o. ok_or (option_map number.Finite o) fault.OutOfRange) (place_is b c z n ∙ cond-false (c == 0) (Some exact_zero) _ some)
    in
    inr (
      (λ long. let many = long c z is in omega (arith, many)),
      by_bool (is_in_range c u (down n))
          (λ range. inl (
            exact_quotient b c u (down n),
            scaled_value b c z (digits_number n) (up n) (down n) is (scaled_exact b c u (down n) short ends range),
            to_place ∙ ap (λ t. ok_or (option_map number.Finite (cond t (Some (exact_quotient b c u (down n))) None)) fault.OutOfRange) range,
          ))
          (λ out. inr (
            (λ d h. apart (sym (value_range b (digits_number n) (up n) (down n) d c z h is ends) ∙ out)),
            to_place ∙ ap (λ t. ok_or (option_map number.Finite (cond t (Some (exact_quotient b c u (down n))) None)) fault.OutOfRange) out,
          )),
    )
  where
    apart : true ≡ false → ⊥
    apart e = cc

many_outcome : (b : Bool) (n : Numeral) (c z : ℕ) → AllDigits 10 n.whole → AllDigits 10 n.fraction → c * 10 ^ z ≡ digits_number n → c % 10 ≢ 0 → 10 ^ 38 ≤ c → Outcome b n
many_outcome b n c z whole fraction is ends long =
    inl (
      (λ x y other. long_always c z (digits_number n) x y is ends long other),
      finite_long b n whole fraction (record { front = c; zeros = z; splits = sym is; long = long; ends = ends }),
    )

zero_outcome : (b : Bool) (n : Numeral) → AllDigits 10 n.whole → AllDigits 10 n.fraction → digits_number n ≡ 0 → Outcome b n
zero_outcome b n whole fraction none =
    let is : 0 * 10 ^ 0 ≡ digits_number n = sym none in
    inr (
      (λ long. let many = long 0 0 is in omega (arith, many)),
      inl (
        exact_zero,
        zero_value b (digits_number n) (up n) (down n) none,
        finite_short b n 0 0 whole fraction is (omega arith) (λ _. refl) ∙ ap (λ o. ok_or (option_map number.Finite o) fault.OutOfRange) (place_is b 0 0 n),
      ),
    )

outcome : (b : Bool) (n : Numeral) → AllDigits 10 n.whole → AllDigits 10 n.fraction → Outcome b n
outcome b n whole fraction =
    ⊎_elim
    (λ some.
    let z : ℕ = zeros_of n in
    let c : ℕ = digits_number n / 10 ^ z in
    let p : Parts (digits_number n) z = tens_parts (length n.whole + length n.fraction) (digits_number n) some (number_below n whole fraction) in
    ⊎_elim (λ short. few_outcome b n c z whole fraction p.is p.ends short) (λ long. many_outcome b n c z whole fraction p.is p.ends long) (cases_lt c (10 ^ 38)))
    (λ low. zero_outcome b n whole fraction (omega arith))
    (cases_lt 0 (digits_number n))

pub numeral_gives : (b : Bool) (n : Numeral) → AllDigits 10 n.whole → AllDigits 10 n.fraction → GivesReading b (form.Finite n) (finite b n)
numeral_gives b n whole fraction =
    let P : Result _ NumberFault → Type 0 = λ r. GivesReading b (form.Finite n) r in
    ⊎_elim
    (λ long. subst P (sym long.1) long.0)
    (λ short. ⊎_elim (λ value. subst P (sym value.2) value.1) (λ out. subst P (sym out.1) (short.0, out.0)) short.1)
    (outcome b n whole fraction)

pub numeral_is : (b : Bool) (n : Numeral) (r : Result _ NumberFault) → AllDigits 10 n.whole → AllDigits 10 n.fraction → GivesReading b (form.Finite n) r → finite b n ≡ r
numeral_is b n (Ok (number.Finite d)) whole fraction h =
    ⊎_elim
    (λ long. absurd (value_not_long b (digits_number n) (up n) (down n) d (length n.whole + length n.fraction) (number_below n whole fraction) h long.0))
    (λ short. ⊎_elim (λ value. value.2 ∙ ap (λ e. Ok (number.Finite e)) (value_one b (digits_number n) (up n) (down n) value.0 d value.1 h)) (λ out. absurd (out.0 d h)) short.1)
    (outcome b n whole fraction)
numeral_is b n (Err fault.TooManyDigits) whole fraction h = ⊎_elim (λ long. long.1) (λ short. absurd (short.0 h)) (outcome b n whole fraction)
numeral_is b n (Err fault.OutOfRange) whole fraction h =
    ⊎_elim (λ long. absurd (h.0 long.0)) (λ short. ⊎_elim (λ value. absurd (h.1 value.0 value.1)) (λ out. out.1) short.1) (outcome b n whole fraction)
numeral_is b n (Ok number.Inf) whole fraction h = absurd h
numeral_is b n (Ok number.NegInf) whole fraction h = absurd h
numeral_is b n (Ok number.NaN) whole fraction h = absurd h
numeral_is b n (Err fault.NotANumber) whole fraction h = absurd h
