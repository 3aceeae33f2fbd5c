-- How many bytes the parts of texts have.
use Rattle.std.proofs.Common.{◌≡◌, ℕ, suc, ◌+◌, ◌-◌, ◌/◌, ◌%◌, ◌^◌, ◌<◌, ◌≤◌, min, List, [], ◌∷◌, ◌++◌, length, get_or, take, map, replicate, sym, ap, ◌∙◌, subst, length-append, arith}
use Rattle.std.specs.Prelude.{◌==◌, if◌then◌else◌}
use Rattle.std.specs.List.{join_by}
use Rattle.std.specs.Fmt.{decimal}
use Rattle.std.proofs.lemmas.Bool.{cond-true, cond-false, ne_eqb, eq-eqb}
use Rattle.std.proofs.lemmas.List.{length-replicate}
use Rattle.promql_text.specs.DurationText.{duration_text, fraction_text, whole_text}
use Rattle.promql_text.specs.NumberDigits.{pad_zeros, magnitude_text}
use Rattle.promql_text.specs.Numbers.{Exact, digit_count}
use Rattle.promql_text.specs.Quoting.{quoted_text, escaped_text}
use Rattle.promql_text.specs.Texts.{Text, joined_text}
use Rattle.promql_text.specs.PrintedLen.{cap_usize, printed_len}
use Rattle.promql_text.proofs.numerals.Fractions.{fraction-none, ten_above}
use Rattle.promql_text.proofs.writing.Joins.{join_next, join_end}
use Rattle.promql_text.proofs.numerals.Points.{part_count}

length_padded : (len n : ℕ) → digit_count n ≤ len → length (pad_zeros len n) ≡ len
length_padded len n fits = omega (arith, fits, length-append (replicate (len - length (decimal n)) 48) (decimal n), length-replicate {A = ℕ} (len - length (decimal n)) 48)

-- the digits before the point, the point, and the places after it
pub length_places : (d : Exact) → (d.places ≡ 0 → ⊥) → d.digits < 10 ^ 38 → digit_count (d.digits / 10 ^ d.places) + 1 + d.places ≡ length (magnitude_text d)
length_places d some short =
    let part : ℕ = d.digits % 10 ^ d.places in
    let shape = cond-false (d.places == 0) (decimal d.digits ++ replicate d.zeros 48) (decimal (d.digits / 10 ^ d.places) ++ (46 ∷ pad_zeros d.places part)) (ne_eqb d.places 0 some) in
    omega (arith, ap length shape, length-append (decimal (d.digits / 10 ^ d.places)) (46 ∷ pad_zeros d.places part), length_padded d.places part (part_count d.digits d.places (omega arith) short))

-- the same of a number that is known by its fields
pub length_places_of : (d x : Exact) (count places : ℕ) → d ≡ x → (x.places ≡ 0 → ⊥) → x.digits < 10 ^ 38 → count ≡ digit_count (x.digits / 10 ^ x.places) → places ≡ x.places
    → count + 1 + places ≡ length (magnitude_text d)
length_places_of d x count places is some short counted same = omega (arith, length_places x some short, counted, same, ap (λ y. length (magnitude_text y)) is)

-- one more digit after the point
pub fraction_width_next : (k r : ℕ) → (r ≡ 0 → ⊥) → length (fraction_text (suc k) r) ≡ suc (length (fraction_text k (r % 10 ^ k)))
unfolding fraction_text
fraction_width_next k r some = ap length (cond-false (r == 0) [] ((48 + r / 10 ^ k) ∷ fraction_text k (r % 10 ^ k)) (ne_eqb r 0 some))

pub fraction_width_end : (k r : ℕ) → r ≡ 0 → length (fraction_text k r) ≡ 0
fraction_width_end k r none = ap (λ n. length (fraction_text k n)) none ∙ ap length (fraction-none k)

pub fraction_width_all : (k r : ℕ) → k ≡ 0 → length (fraction_text k r) ≡ 0
unfolding fraction_text
fraction_width_all k r none = ap (λ n. length (fraction_text n r)) none

-- the two quotes, and the escaped text
pub quoted_length : (t : Text) → length (quoted_text t) ≡ 2 + length (escaped_text t)
quoted_length t = omega (arith, length-append (escaped_text t) (34 ∷ []))

pub count_more : (count rest power all : ℕ) → count < 9 → (rest ≡ 0 → ⊥) → power ≡ 10 ^ (9 - (count + 1)) → count + length (fraction_text (9 - count) rest) ≡ all
    → count + 1 + length (fraction_text (9 - (count + 1)) (rest % power)) ≡ all
count_more count rest power all room some is whole =
    let left : ℕ = 9 - (count + 1) in
    let here : 9 - count ≡ suc left = omega arith in
    omega (arith, whole, ap (λ n. length (fraction_text n rest)) here, fraction_width_next left rest some, ap (λ p. length (fraction_text left (rest % p))) is)

pub whole_duration : (n : ℕ) → (n ≡ 0 → ⊥) → n % 1000000 ≡ 0 → whole_text n ≡ duration_text n
unfolding duration_text
whole_duration n some whole = sym (cond-false (n == 0) _ _ (ne_eqb n 0 some) ∙ cond-true (n % 1000000 == 0) _ _ (eq-eqb (n % 1000000) 0 whole))

-- the same of another name of the number
pub whole_duration_at : (n m count : ℕ) → n ≡ m → (n ≡ 0 → ⊥) → n % 1000000 ≡ 0 → count ≡ length (whole_text n) → count < 2 ^ 20 → count ≡ printed_len (duration_text m)
whole_duration_at n m count is some whole counted short =
    let all = ap length (whole_duration n some whole ∙ ap duration_text is) in
    omega (arith, counted, short, all)

pub count_below : (count rest power : ℕ) → power ≡ 10 ^ (9 - (count + 1)) → rest % power < 10 ^ (9 - (count + 1))
count_below count rest power is = subst (λ p. rest % power < p) is (let some = ten_above (9 - (count + 1)) power is in omega (arith, some))

early : (count : ℕ) → count ≤ 9 → (count ≡ 9 → ⊥) → count < 9
early count room none = omega (arith, room, none)

-- a rest is left only where a place is
pub fraction_left : (count rest : ℕ) → (rest ≡ 0 → ⊥) → count ≤ 9 → rest < 10 ^ (9 - count) → count < 9
fraction_left count rest some room below =
    early count room (λ all. some (let last : 9 - count ≡ 0 = omega (arith, all) in let one = subst (λ k. rest < 10 ^ k) last below in omega (arith, one)))

-- one text after another
pub printed_len_append : (s t : Text) → min (printed_len s + printed_len t) (2 ^ 64 - 1) ≡ printed_len (s ++ t)
printed_len_append s t = omega (arith, length-append s t)

pub width_of_both : (s t : Text) (a b c : ℕ) → a ≡ printed_len s → b ≡ printed_len t → c ≡ min (a + b) (2 ^ 64 - 1) → c ≡ printed_len (s ++ t)
width_of_both s t a b c p q r = omega (arith, p, q, r, length-append s t)

-- ---- lists

-- one item more
pub joined_len_next : {X : Type 0} (f : X → Text) (sep : Text) (xs : List X) (i : ℕ) (y : X) (total before with_separator own all : ℕ) → i < length xs → y ≡ get_or xs i y
    → total ≡ printed_len (join_by f sep (take i xs)) → before ≡ length (if i == 0 then [] else sep) → with_separator ≡ cap_usize (total + before) → own ≡ printed_len (f y) → all ≡ cap_usize (with_separator + own)
    → all ≡ printed_len (join_by f sep (take (i + 1) xs))
joined_len_next f sep xs i y total before with_separator own all h e a b c d r =
    let so_far : Text = join_by f sep (take i xs) in
    let mark : Text = if i == 0 then [] else sep in
    omega (arith, ap length (join_next f sep xs i y h e), length-append (so_far ++ mark) (f y), length-append so_far mark, a, b, c, d, r)

-- all items
pub joined_len_end : {X : Type 0} (f : X → Text) (sep : Text) (xs : List X) (i total : ℕ) → length xs ≤ i → total ≡ printed_len (join_by f sep (take i xs)) → total ≡ printed_len (joined_text sep (map f xs))
joined_len_end f sep xs i total end so_far = so_far ∙ ap printed_len (join_end f sep xs i end)
