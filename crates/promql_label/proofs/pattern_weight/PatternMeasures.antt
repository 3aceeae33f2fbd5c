-- How the measure of a pattern is counted byte by byte, up to the greatest number.
use Rattle.std.proofs.Common.{◌≡◌, ℕ, zero, suc, ◌+◌, ◌*◌, ◌<◌, ◌≤◌, min, max, Bool, true, false, cond, [], ◌∷◌, refl, sym, ap, ◌∙◌, ◌-◌, ◌^◌, count_by, zero-add, true≢false, ⊎_elim, le-mul_of_pos_right, mul_assoc, mul_comm, arith, drop, length, slice_index, take, ◌==◌, ◌||◌}
use Rattle.std.specs.Prelude.{◌&&◌, not}
use Rattle.std.specs.Char.{is_ascii_digit}
use Rattle.std.proofs.lemmas.Bool.{cases_lt}
use Rattle.std.proofs.lemmas.List.{take_rest}
use Rattle.std.proofs.lemmas.List.Sums.{sum_by-cons}
use Rattle.std.proofs.Math.Nat.{one-mul, pow-suc}
use Rattle.promql_text.specs.Texts.{Text}
use Rattle.promql_token.proofs.printed.PrintedForms.{digit_apart}
use Rattle.promql_label.specs.PatternMeasure.{ends_item, greatest, group_repeats, item_repeats}
use Rattle.promql_label.specs.PlainPatterns.{digit_of}

-- ---- products up to m

-- a product of a capped number is as large, up to where it is capped
pub capped_product : (m k r : ℕ) → min (min k m * r) m ≡ min (k * r) m
capped_product m k zero = omega arith
capped_product m k (suc r) = ⊎_elim
    (λ (large : m < k).
    let e : min k m ≡ m = omega arith in
    let capped : min k m ≤ min k m * suc r = le-mul_of_pos_right (min k m) (omega arith) in
    let whole : k ≤ k * suc r = le-mul_of_pos_right k (omega arith) in
    omega (arith, e, capped, whole))
    (λ (small : k ≤ m). let e : min k m ≡ k = omega arith in ap (λ n. min (n * suc r) m) e)
    (cases_lt m k)

pub capped_factors : (m a b : ℕ) → min (min a m * min b m) m ≡ min (a * b) m
capped_factors m a b =
    capped_product m a (min b m) ∙ ap (λ k. min k m) (mul_comm a (min b m)) ∙ capped_product m b a ∙ ap (λ k. min k m) (mul_comm b a)

-- ---- the number of a count

no_less : (n : ℕ) (z : Text) → n ≤ greatest n z
no_less n [] = omega arith
no_less n (b ∷ z) = go (b == 123 || b == 125) (b == 44) (is_ascii_digit b) (no_less (10 * n + digit_of b) z) (no_less n z)
  where
    go : (brace comma digit : Bool) → 10 * n + digit_of b ≤ greatest (10 * n + digit_of b) z → n ≤ greatest n z
        → n ≤ cond brace n (cond comma (max n (greatest 0 z)) (cond digit (greatest (10 * n + digit_of b) z) (greatest n z)))
    go true comma digit more same = omega arith
    go false true digit more same = omega arith
    go false false true more same = omega (arith, more)
    go false false false more same = same

-- a number that is capped counts as much, up to where it is
capped_number : (m most n : ℕ) (z : Text) → min (max most (greatest (min n m) z)) m ≡ min (max most (greatest n z)) m
capped_number m most n z = ⊎_elim
    (λ (large : m < n).
    let capped : min n m ≤ greatest (min n m) z = no_less (min n m) z in
    let whole : n ≤ greatest n z = no_less n z in
    omega (arith, large, capped, whole))
    (λ (small : n ≤ m). let e : min n m ≡ n = omega arith in ap (λ k. min (max most (greatest k z)) m) e)
    (cases_lt m n)

at_digit : (n b : ℕ) (z : Text) → is_ascii_digit b ≡ true → greatest n (b ∷ z) ≡ greatest (10 * n + digit_of b) z
at_digit n b z digit = go (b == 123) (b == 125) (b == 44) (is_ascii_digit b) (digit_apart b 123 digit refl) (digit_apart b 125 digit refl) (digit_apart b 44 digit refl) digit
  where
    more : ℕ
    more = greatest (10 * n + digit_of b) z

    go : (left right comma digit : Bool) → left ≡ false → right ≡ false → comma ≡ false → digit ≡ true
        → cond (left || right) n (cond comma (max n (greatest 0 z)) (cond digit more (greatest n z))) ≡ more
    go true right comma digit a b c d = absurd (true≢false a)
    go false true comma digit a b c d = absurd (true≢false b)
    go false false true digit a b c d = absurd (true≢false c)
    go false false false true a b c d = refl
    go false false false false a b c d = absurd (true≢false (sym d))

pub digit_step : (m most n b q : ℕ) (z : Text) → is_ascii_digit b ≡ true → q ≡ min (min (n * 10) m + (b - 48)) m
    → min (max most (greatest q z)) m ≡ min (max most (greatest n (b ∷ z))) m
digit_step m most n b q z digit is =
    let x : ℕ = 10 * n + digit_of b in
    let capped : q ≡ min x m = omega (arith, is) in
    ap (λ q. min (max most (greatest q z)) m) capped
    ∙ capped_number m most x z
    ∙ sym (ap (λ g. min (max most g) m) (at_digit n b z digit))

-- ---- a brace

-- one more than a capped number, up to where it is
capped_next : (m g n r : ℕ) → g ≡ min n m → r ≡ min (g + 1) m → r ≡ min (1 + n) m
capped_next m g n r capped is = omega (arith, capped, is)

-- a count of one item
pub item_step : (m items g r more before : ℕ) (z : Text) → ends_item before ≡ true → g ≡ min (greatest 0 z) m → r ≡ min (g + 1) m → more ≡ max items r
    → min (max more (item_repeats 123 z)) m ≡ min (max items (item_repeats before (123 ∷ z))) m
item_step m items g r more before z item capped is grows =
    let n : ℕ = 1 + greatest 0 z in
    let whole : r ≡ min n m = capped_next m g (greatest 0 z) r capped is in
    let same : min (max more (item_repeats 123 z)) m ≡ min (max items (max n (item_repeats 123 z))) m = omega (arith, whole, grows) in
    same ∙ sym (ap (λ e. min (max items (max (cond e n 1) (item_repeats 123 z))) m) item)

pub item_passes : (before : ℕ) (z : Text) → ends_item before ≡ true → group_repeats 123 z ≡ group_repeats before (123 ∷ z)
item_passes before z item = sym (ap (λ e. cond (not e) (1 + greatest 0 z) 1 * group_repeats 123 z) item ∙ one-mul (group_repeats 123 z))

-- any other count
pub group_step : (m groups g r more before : ℕ) (z : Text) → ends_item before ≡ false → g ≡ min (greatest 0 z) m → r ≡ min (g + 1) m → more ≡ min (groups * r) m
    → min (more * group_repeats 123 z) m ≡ min (groups * group_repeats before (123 ∷ z)) m
group_step m groups g r more before z group capped is grows =
    let n : ℕ = 1 + greatest 0 z in
    let rest : ℕ = group_repeats 123 z in
    let whole : r ≡ min n m = capped_next m g (greatest 0 z) r capped is in
    ap (λ k. min (k * rest) m) grows
    ∙ capped_product m (groups * r) rest
    ∙ ap (λ k. min (groups * k * rest) m) whole
    ∙ ap (λ k. min k m) (ap (λ k. k * rest) (mul_comm groups (min n m)) ∙ mul_assoc (min n m) groups rest)
    ∙ capped_product m n (groups * rest)
    ∙ ap (λ k. min k m) (sym (mul_assoc n groups rest) ∙ ap (λ k. k * rest) (mul_comm n groups) ∙ mul_assoc groups n rest)
    ∙ sym (ap (λ e. min (groups * (cond (not e) n 1 * rest)) m) group)

pub group_passes : (m items before : ℕ) (z : Text) → ends_item before ≡ false → 1 ≤ items → min (max items (item_repeats 123 z)) m ≡ min (max items (item_repeats before (123 ∷ z))) m
group_passes m items before z group some =
    let same : max items (max 1 (item_repeats 123 z)) ≡ max items (item_repeats 123 z) = omega (arith, some) in
    sym (ap (λ e. min (max items (max (cond e (1 + greatest 0 z) 1) (item_repeats 123 z))) m) group ∙ ap (λ k. min k m) same)

-- ---- another byte

pub other_items : (items before b : ℕ) (z : Text) → (b == 123) ≡ false → 1 ≤ items → max items (item_repeats b z) ≡ max items (item_repeats before (b ∷ z))
other_items items before b z other some =
    let same : max items (max 1 (item_repeats b z)) ≡ max items (item_repeats b z) = omega (arith, some) in
    sym (ap (λ e. max items (max (cond (e && ends_item before) (1 + greatest 0 z) 1) (item_repeats b z))) other ∙ same)

pub other_groups : (before b : ℕ) (z : Text) → (b == 123) ≡ false → group_repeats b z ≡ group_repeats before (b ∷ z)
other_groups before b z other = sym (ap (λ e. cond (e && not (ends_item before)) (1 + greatest 0 z) 1 * group_repeats b z) other ∙ one-mul (group_repeats b z))

-- ---- tens

tens_of : (d : Bool) (n : ℕ) → 10 ^ (cond d 1 0 + n) ≡ cond d (10 * 10 ^ n) (10 ^ n)
tens_of true n = ap (λ k. 10 ^ k) (let e : 1 + n ≡ suc n = omega arith in e) ∙ pow-suc 10 n ∙ mul_comm (10 ^ n) 10
tens_of false n = ap (λ k. 10 ^ k) (zero-add n)

tens_before : (b : ℕ) (z : Text) → 10 ^ count_by is_ascii_digit (b ∷ z) ≡ cond (is_ascii_digit b) (10 * 10 ^ count_by is_ascii_digit z) (10 ^ count_by is_ascii_digit z)
tens_before b z = ap (λ n. 10 ^ n) (sum_by-cons (λ b. cond (is_ascii_digit b) 1 0) b z) ∙ tens_of (is_ascii_digit b) (count_by is_ascii_digit z)

-- a digit multiplies by ten, and another byte by nothing
pub digit_tens : (m k r b : ℕ) (z : Text) → is_ascii_digit b ≡ true → r ≡ min (k * 10) m
    → min (r * 10 ^ count_by is_ascii_digit z) m ≡ min (k * 10 ^ count_by is_ascii_digit (b ∷ z)) m
digit_tens m k r b z digit is =
    let t : ℕ = 10 ^ count_by is_ascii_digit z in
    ap (λ r. min (r * t) m) is
    ∙ capped_product m (k * 10) t
    ∙ ap (λ k. min k m) (mul_assoc k 10 t)
    ∙ sym (ap (λ t. min (k * t) m) (tens_before b z ∙ ap (λ d. cond d (10 * t) t) digit))

pub other_tens : (m k b : ℕ) (z : Text) → is_ascii_digit b ≡ false
    → min (k * 10 ^ count_by is_ascii_digit z) m ≡ min (k * 10 ^ count_by is_ascii_digit (b ∷ z)) m
other_tens m k b z other =
    let t : ℕ = 10 ^ count_by is_ascii_digit z in
    sym (ap (λ t. min (k * t) m) (tens_before b z ∙ ap (λ d. cond d (10 * t) t) other))

-- ---- the rest of a pattern

pub some_items : (before : ℕ) (z : Text) → 1 ≤ item_repeats before z
some_items before [] = omega arith
some_items before (b ∷ z) = let some = some_items b z in omega (arith, some)

pub first_and_rest : (rest : Text) → 1 ≤ length rest → rest ≡ slice_index rest 0 ∷ take (length rest - 1) (drop 1 rest)
first_and_rest [] some = absurd (omega (arith, some))
first_and_rest (b ∷ z) some = ap (λ z. b ∷ z) (sym (take_rest (b ∷ z) 1))

-- a comma
pub comma_step : (m most n more : ℕ) (z : Text) → more ≡ max most n → min (max more (greatest 0 z)) m ≡ min (max most (greatest n (44 ∷ z))) m
comma_step m most n more z is = let e : min (max more (greatest 0 z)) m ≡ min (max most (max n (greatest 0 z))) m = omega (arith, is) in e

-- neither a brace nor a comma nor a digit
pub other_byte : (n b : ℕ) (z : Text) → (b == 123) ≡ false → (b == 125) ≡ false → (b == 44) ≡ false → is_ascii_digit b ≡ false → greatest n z ≡ greatest n (b ∷ z)
other_byte n b z a e c d = go (b == 123) (b == 125) (b == 44) (is_ascii_digit b) a e c d
  where
    go : (left right comma digit : Bool) → left ≡ false → right ≡ false → comma ≡ false → digit ≡ false
        → greatest n z ≡ cond (left || right) n (cond comma (max n (greatest 0 z)) (cond digit (greatest (10 * n + digit_of b) z) (greatest n z)))
    go false false false false a b c d = refl
    go true right comma digit a b c d = absurd (true≢false a)
    go false true comma digit a b c d = absurd (true≢false b)
    go false false true digit a b c d = absurd (true≢false c)
    go false false false true a b c d = absurd (true≢false d)
