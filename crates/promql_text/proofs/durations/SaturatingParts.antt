-- Counts and parts under saturating arithmetic.
use Rattle.std.proofs.Common.{◌≡◌, ℕ, ◌+◌, ◌-◌, ◌*◌, ◌^◌, ◌<◌, ◌≤◌, true, false, cond, List, [], ◌∷◌, length, Some, None, Option, Err, refl, sym, ap, ◌∙◌, ⊎_elim, lit<, length-drop, arith}
use Rattle.std.specs.Prelude.{◌&&◌, ◌==◌, nat_lt, option_map}
use Rattle.std.specs.Char.{digit_value, is_ascii_digit}
use Rattle.std.specs.List.{prefix_len}
use Rattle.std.specs.Str.{bytes_eq}
use Rattle.std.specs.Str.Parse.{digits_value, digits_value_after}
use Rattle.std.proofs.lemmas.Bool.{cond-true, cond-false, cases_lt, cases_Bool, ne_eqb, eq-eqb, le-ltb}
use Rattle.std.proofs.lemmas.Nat.{mul-le}
use Rattle.promql_text.specs.Texts.{Text}
use Rattle.promql_text.specs.DecimalForm.{front, digit_run, past_run, Signed, decimal_form}
use Rattle.promql_text.specs.Durations.{is_no_digit, word_run, past_word, word_of, nanos_of, begins_part, parts_nanos, in_range, of_parts, of_form, duration_of}
use Rattle.promql_text.specs.DurationReaders.{cap_u128, seek}
use Rattle.promql_text.specs.declared.duration.Unit.{Unit}
use Rattle.promql_text.specs.declared.duration.Unit.TheVariants.{Year, Week, Day, Hour, Minute, Second, Milli}
use Rattle.promql_text.specs.declared.duration.DurationFault.TheVariants.{Empty, Invalid, Overflow}
use Rattle.promql_text.proofs.numerals.Runs.{past_run_digit, digit_run_digit}

-- ---- capped numbers

pub capped_twice : (n : ℕ) → cap_u128 (cap_u128 n) ≡ cap_u128 n
capped_twice n = omega arith

pub capped_small : (n : ℕ) → n < 2 ^ 128 → cap_u128 n ≡ n
capped_small n h = omega arith

capped_ten : (x d : ℕ) → cap_u128 (cap_u128 x * 10 + d) ≡ cap_u128 (x * 10 + d)
capped_ten x d = omega arith

-- a count may be capped before the digits after it
pub capped_after : (x : ℕ) (ds : Text) → cap_u128 (digits_value_after 10 (cap_u128 x) ds) ≡ cap_u128 (digits_value_after 10 x ds)
capped_after x [] = capped_twice x
capped_after x (c ∷ cs) =
    sym (capped_after (cap_u128 x * 10 + digit_value c) cs)
    ∙ ap (λ n. cap_u128 (digits_value_after 10 n cs)) (capped_ten x (digit_value c))
    ∙ capped_after (x * 10 + digit_value c) cs

-- one more digit of a count
pub count_more : (value d b : ℕ) (z : Text) → is_ascii_digit b ≡ true → d ≡ digit_value b → cap_u128 (digits_value_after 10 (cap_u128 (cap_u128 (value * 10) + d)) (digit_run z)) ≡ cap_u128 (digits_value_after 10 value (digit_run (b ∷ z)))
count_more value d b z is value_is =
    ap (λ n. cap_u128 (digits_value_after 10 n (digit_run z))) (twice (value * 10) d ∙ ap (λ d. cap_u128 (value * 10 + d)) value_is)
    ∙ capped_after (value * 10 + digit_value b) (digit_run z)
    ∙ ap (λ ds. cap_u128 (digits_value_after 10 value ds)) (sym (digit_run_digit b z is))
  where
    twice : (x d : ℕ) → cap_u128 (cap_u128 x + d) ≡ cap_u128 (x + d)
    twice x d = omega arith

-- ---- parts

-- with digits in front, a part is in this unit where its word is the unit's
begins_word : (v : Unit) (s : Text) → is_ascii_digit (front s) ≡ true → begins_part v s ≡ bytes_eq (word_run (past_run s)) (word_of v)
begins_word v s digit = ap (λ d. d && bytes_eq (word_run (past_run s)) (word_of v)) digit

-- the nanoseconds of a part in a unit, and of the parts after it
abbrev pub part_then : Unit → List Unit → Text → Option ℕ
part_then u later s = option_map (λ n. digits_value 10 (digit_run s) * nanos_of u + n) (parts_nanos later (past_word (past_run s)))

pub parts-seek : (us later : List Unit) (u : Unit) (s : Text) → is_ascii_digit (front s) ≡ true → seek us (word_run (past_run s)) ≡ Some (u, later) → parts_nanos us s ≡ part_then u later s
parts-seek [] later u s digit is = cc
parts-seek (v ∷ us) later u s digit is =
    let w : Text = word_run (past_run s) in
    let here : parts_nanos (v ∷ us) s ≡ cond (bytes_eq w (word_of v)) (part_then v us s) (parts_nanos us s) = ap (λ t. cond t (part_then v us s) (parts_nanos us s)) (begins_word v s digit) in
    ⊎_elim
    (λ (yes : bytes_eq w (word_of v) ≡ true).
    let pair : ◌≡◌ {A = Unit × List Unit} (v, us) (u, later) = same_unit (v, us) (u, later) (sym (cond-true (bytes_eq w (word_of v)) (Some (v, us)) (seek us w) yes) ∙ is) in
    here ∙ cond-true (bytes_eq w (word_of v)) _ _ yes ∙ ap (λ (p : Unit × List Unit). part_then p.0 p.1 s) pair)
    (λ (other : bytes_eq w (word_of v) ≡ false).
    here ∙ cond-false (bytes_eq w (word_of v)) _ _ other
    ∙ parts-seek us later u s digit (sym (cond-false (bytes_eq w (word_of v)) (Some (v, us)) (seek us w) other) ∙ is))
    (cases_Bool (bytes_eq w (word_of v)))
  where
    same_unit : (p q : Unit × List Unit) → ◌≡◌ {A = Option (Unit × List Unit)} (Some p) (Some q) → p ≡ q
    same_unit p q e = cc

-- a text that isn't empty, and begins with no part in one of the units, isn't one of parts
pub parts-no_digit : (us : List Unit) (s : Text) → 0 < length s → is_ascii_digit (front s) ≡ false → parts_nanos us s ≡ None
parts-no_digit [] s some other = cond-false (length s == 0) _ _ (ne_eqb (length s) 0 (λ e. absurd (omega arith)))
parts-no_digit (v ∷ us) s some other =
    cond-false (begins_part v s) _ _ (ap (λ d. d && bytes_eq (word_run (past_run s)) (word_of v)) other) ∙ parts-no_digit us s some other

pub parts-no_unit : (us : List Unit) (s : Text) → 0 < length s → is_ascii_digit (front s) ≡ true → seek us (word_run (past_run s)) ≡ None → parts_nanos us s ≡ None
parts-no_unit [] s some digit is = cond-false (length s == 0) _ _ (ne_eqb (length s) 0 (λ e. absurd (omega arith)))
parts-no_unit (v ∷ us) s some digit is =
    let w : Text = word_run (past_run s) in
    ⊎_elim
    (λ (yes : bytes_eq w (word_of v) ≡ true). absurd (none_some (v, us) (sym is ∙ cond-true (bytes_eq w (word_of v)) (Some (v, us)) (seek us w) yes)))
    (λ (other : bytes_eq w (word_of v) ≡ false).
    cond-false (begins_part v s) _ _ (begins_word v s digit ∙ other)
    ∙ parts-no_unit us s some digit (sym (cond-false (bytes_eq w (word_of v)) (Some (v, us)) (seek us w) other) ∙ is))
    (cases_Bool (bytes_eq w (word_of v)))
  where
    none_some : (p : Unit × List Unit) → ◌≡◌ {A = Option (Unit × List Unit)} None (Some p) → ⊥
    none_some p e = cc

-- ---- totals

-- what is added of a part, with everything capped
pub total_more : (total count unit n : ℕ) → 0 < unit → cap_u128 (cap_u128 (total + cap_u128 (cap_u128 count * unit)) + n) ≡ cap_u128 (total + (count * unit + n))
total_more total count unit n h =
    ⊎_elim
    (λ (small : count < 2 ^ 128). omega (arith, ap (λ x. x * unit) (capped_small count small)))
    (λ (big : 2 ^ 128 ≤ count).
    let greatest : cap_u128 count ≡ 2 ^ 128 - 1 = omega arith in
    let low = mul-le (cap_u128 count) 1 (cap_u128 count) unit (omega arith) h in
    let high = mul-le (2 ^ 128) 1 count unit big h in
    omega arith)
    (cases_lt count (2 ^ 128))

pub total_step : (total count unit : ℕ) (o : Option ℕ) → 0 < unit → option_map (λ n. cap_u128 (cap_u128 (total + cap_u128 (cap_u128 count * unit)) + n)) o ≡ option_map (λ n. cap_u128 (total + n)) (option_map (λ n. count * unit + n) o)
total_step total count unit None h = refl
total_step total count unit (Some n) h = ap Some (total_more total count unit n h)

pub unit_positive : (u : Unit) → 0 < nanos_of u
unit_positive u = elim u as (λ v. 0 < nanos_of v) [ Year ↦ lit< tt | Week ↦ lit< tt | Day ↦ lit< tt | Hour ↦ lit< tt | Minute ↦ lit< tt | Second ↦ lit< tt | Milli ↦ lit< tt ]

-- a part is shorter by at least its first digit
pub past_run_shorter : (s : Text) → is_ascii_digit (front s) ≡ true → length (past_run s) < length s
past_run_shorter [] digit = absurd (cc)
past_run_shorter (c ∷ z) digit = omega (arith, ap length (past_run_digit c z digit), length-drop (prefix_len is_ascii_digit z) z)

-- what the reader of a part promises
pub takes_part : (us later : List Unit) (u : Unit) (s : Text) (counted nanos : ℕ) → is_ascii_digit (front s) ≡ true → seek us (word_run (past_run s)) ≡ Some (u, later) → counted ≡ cap_u128 (digits_value 10 (digit_run s)) → nanos ≡ cap_u128 (counted * nanos_of u)
    → (total : ℕ) → option_map (λ n. cap_u128 (cap_u128 (total + nanos) + n)) (parts_nanos later (past_word (past_run s))) ≡ option_map (λ n. cap_u128 (total + n)) (parts_nanos us s)
takes_part us later u s counted nanos digit is c n total =
    let o : Option ℕ = parts_nanos later (past_word (past_run s)) in
    ap (λ x. option_map (λ n. cap_u128 (cap_u128 (total + x) + n)) o) (n ∙ ap (λ x. cap_u128 (x * nanos_of u)) c)
    ∙ total_step total (digits_value 10 (digit_run s)) (nanos_of u) o (unit_positive u)
    ∙ ap (option_map (λ n. cap_u128 (total + n))) (sym (parts-seek us later u s digit is))

pub part_shorter : (s : Text) → is_ascii_digit (front s) ≡ true → length (past_word (past_run s)) < length s
part_shorter s digit = omega (arith, past_run_shorter s digit, length-drop (prefix_len is_no_digit (past_run s)) (past_run s))

-- ---- the loop over the parts

pub nothing_yet : (o : Option ℕ) → option_map (λ n. cap_u128 (0 + n)) o ≡ option_map cap_u128 o
nothing_yet None = refl
nothing_yet (Some n) = ap (λ k. Some (cap_u128 k)) (let e : 0 + n ≡ n = omega arith in e)

pub parts-end : (us : List Unit) (s : Text) → length s ≡ 0 → parts_nanos us s ≡ Some 0
parts-end [] [] e = refl
parts-end (v ∷ us) [] e = parts-end us [] e
parts-end us (b ∷ s) e = absurd (omega arith)

pub total_end : (total : ℕ) (us : List Unit) (s : Text) → total < 2 ^ 128 → length s ≡ 0 → option_map (λ n. cap_u128 (total + n)) (parts_nanos us s) ≡ Some total
total_end total us s fits e = ap (option_map (λ n. cap_u128 (total + n))) (parts-end us s e) ∙ ap Some (let same : cap_u128 (total + 0) ≡ total = omega arith in same)

pub total_one : (sum total nanos : ℕ) (o : Option ℕ) → sum ≡ cap_u128 (total + nanos) → option_map (λ n. cap_u128 (sum + n)) o ≡ option_map (λ n. cap_u128 (cap_u128 (total + nanos) + n)) o
total_one sum total nanos o is = ap (λ x. option_map (λ n. cap_u128 (x + n)) o) is

-- ---- the duration of a text

pub duration-empty : (s : Text) → length s ≡ 0 → duration_of s ≡ Err Empty
unfolding duration_of
duration-empty s e = cond-true (length s == 0) _ _ (eq-eqb (length s) 0 e)

pub duration-form : (s : Text) (o : Option Signed) → (length s == 0) ≡ false → decimal_form s ≡ o → duration_of s ≡ of_form o s
unfolding duration_of
duration-form s o some is = cond-false (length s == 0) _ _ some ∙ ap (λ f. of_form f s) is

pub in_range-capped : (n : ℕ) → in_range (cap_u128 n) ≡ in_range n
in_range-capped n =
    ⊎_elim
    (λ (small : n < 2 ^ 128). ap in_range (capped_small n small))
    (λ (big : 2 ^ 128 ≤ n). past (cap_u128 n) (omega arith) ∙ sym (past n (omega arith)))
    (cases_lt n (2 ^ 128))
  where
    past : (n : ℕ) → 2 ^ 64 * 1_000_000_000 ≤ n → in_range n ≡ Err Overflow
    past n big = cond-false (n == 0) _ _ (ne_eqb n 0 (λ e. absurd (omega arith))) ∙ cond-false (nat_lt n (2 ^ 64 * 1_000_000_000)) _ _ (le-ltb n (2 ^ 64 * 1_000_000_000) big)

-- the parts that were read, capped
pub parts_read : (s : Text) (o : Option ℕ) (total : ℕ) → option_map cap_u128 o ≡ Some total → of_parts o ≡ in_range total
parts_read s None total is = absurd (none_some total is)
  where
    none_some : (n : ℕ) → ◌≡◌ {A = Option ℕ} None (Some n) → ⊥
    none_some n e = cc
parts_read s (Some n) total is = sym (in_range-capped n) ∙ ap in_range (same (cap_u128 n) total is)
  where
    same : (m n : ℕ) → ◌≡◌ {A = Option ℕ} (Some m) (Some n) → m ≡ n
    same m n e = cc

pub parts_none : (o : Option ℕ) → option_map cap_u128 o ≡ None → of_parts o ≡ Err Invalid
parts_none None is = refl
parts_none (Some n) is = absurd (some_none (cap_u128 n) is)
  where
    some_none : (n : ℕ) → ◌≡◌ {A = Option ℕ} (Some n) None → ⊥
    some_none n e = cc
