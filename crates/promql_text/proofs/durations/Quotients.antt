-- Rounded quotients.
use Rattle.std.proofs.Common.{◌≡◌, ℕ, ◌+◌, ◌-◌, ◌*◌, ◌/◌, ◌%◌, ◌^◌, ◌<◌, ◌≤◌, arith, ap, ◌∙◌, sym, Option, Some, None, MatchOption, SomeIff}
use Rattle.std.proofs.Math.Nat.{div-eq_of_lt-le, mul-div-mul_right, pow-le-pow_right, mod-lt}
use Rattle.std.proofs.lemmas.Nat.{div-add-mod', pow-add}
use Rattle.promql_text.specs.Rounding.{round_half_up}
use Rattle.promql_text.proofs.numbers.Tens.{ten_pos, times_both}

round_is : (n b q : ℕ) → q * (2 * b) ≤ 2 * n + b → 2 * n + b < (q + 1) * (2 * b) → round_half_up n b ≡ q
round_is n b q low high = div-eq_of_lt-le (2 * b) low high

pub round_down : (n p : ℕ) → 0 < p → n % p < p - n % p → n / p ≡ round_half_up n p
round_down n p some less =
    let e = div-add-mod' n p in
    sym (round_is n p (n / p) (omega (arith, e)) (omega (arith, e)))

pub round_up : (n p : ℕ) → 0 < p → p - n % p ≤ n % p → n / p + 1 ≡ round_half_up n p
round_up n p some most =
    let e = div-add-mod' n p in
    let h : n % p < p = mod-lt n some in
    sym (round_is n p (n / p + 1) (omega (arith, e)) (omega (arith, e)))

pub round_none : (n k : ℕ) → n < 10 ^ 38 → 38 < k → 0 ≡ round_half_up n (10 ^ k)
round_none n k short far =
    let h : 10 ^ 39 ≤ 10 ^ k = pow-le-pow_right {n = 10} (omega arith) far in
    sym (round_is n (10 ^ k) 0 (omega (arith, h)) (omega (arith, h)))

pub room_above : (n k : ℕ) → n % 10 ^ k ≤ 10 ^ k
room_above n k = let h = mod-lt n (ten_pos k) in omega (arith, h)

-- seconds with more than three places
pub millis_of_places : (n z k : ℕ) → z ≡ 0 → 3 < k → round_half_up n (10 ^ (k - 3)) ≡ round_half_up (n * 10 ^ (z + 3)) (10 ^ k)
millis_of_places n z k none more =
    let t : ℕ = 10 ^ 3 in
    let b : ℕ = 10 ^ (k - 3) in
    let power : 10 ^ k ≡ b * t = (let e : k ≡ (k - 3) + 3 = omega arith in ap (λ j. 10 ^ j) e ∙ pow-add 10 (k - 3) 3) in
    let top : n * 10 ^ (z + 3) ≡ n * t = (let e : z + 3 ≡ 3 = omega arith in ap (λ j. n * 10 ^ j) e) in
    let over : 2 * (n * t) + b * t ≡ (2 * n + b) * t = omega arith in
    let under : 2 * (b * t) ≡ 2 * b * t = omega arith in
    let same : (2 * n + b) * t / (2 * b * t) ≡ (2 * n + b) / (2 * b) = mul-div-mul_right {m = t} (2 * n + b) (2 * b) (omega arith) in
    sym (ap (λ m. round_half_up m (10 ^ k)) top ∙ ap (round_half_up (n * t)) power ∙ ap (λ m. m / (2 * (b * t))) over ∙ ap (λ m. (2 * n + b) * t / m) under ∙ same)

-- seconds with at most three
pub millis_of_zeros : (n z k : ℕ) → k ≤ 3 → n * 10 ^ (z + 3 - k) ≡ round_half_up (n * 10 ^ (z + 3)) (10 ^ k)
millis_of_zeros n z k few =
    let x : ℕ = n * 10 ^ (z + 3 - k) in
    let b : ℕ = 10 ^ k in
    let some : 1 ≤ b = ten_pos k in
    let top : n * 10 ^ (z + 3) ≡ x * b = (let e : z + 3 ≡ (z + 3 - k) + k = omega arith in ap (λ j. n * 10 ^ j) e ∙ times_both n (z + 3 - k) k) in
    sym (ap (λ m. round_half_up m b) top ∙ round_is (x * b) b x (omega arith) (omega (arith, some)))

pub millis_if_short : (r : Option ℕ) (x m : ℕ) → x ≡ m → SomeIff r (x < 10 ^ 38) x → MatchOption r (2 ^ 63 < m) (λ n. n ≡ m)
millis_if_short None x m is long = omega (arith, is, long)
millis_if_short (Some n) x m is h = h.1 ∙ is
