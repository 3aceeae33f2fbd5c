-- Reading the text of a duration.
use Rattle.std.proofs.Common.{◌≡◌, ℕ, suc, ◌+◌, ◌-◌, ◌*◌, ◌/◌, ◌%◌, ◌^◌, ◌<◌, true, false, cond, ◌&&◌, ◌||◌, List, [], ◌∷◌, ◌++◌, length, take, drop, Some, None, Option, Ok, refl, sym, ap, ◌∙◌, subst, inl, inr, ⊎_elim, append-nil, append_assoc, length-append, arith}
use Rattle.std.specs.Prelude.{⊤, not, ◌⊎◌, codes, option_map, ◌==◌, nat_lt}
use Rattle.std.specs.Char.{is_ascii_digit}
use Rattle.std.specs.Fmt.{decimal}
use Rattle.std.specs.List.{prefix_len}
use Rattle.std.specs.Str.{bytes_eq}
use Rattle.std.specs.Str.Parse.{AllDigits, digits_value}
use Rattle.std.proofs.lemmas.Bool.{cond_both, cond-true, cond-false, cases_eq, eq-eqb, ne_eqb, eqb-true, eqb-false, lt-ltb}
use Rattle.std.proofs.lemmas.Fmt.{decimal_is_IsNumeral_wide}
use Rattle.std.proofs.Math.Seq.{take-append_seam, drop-append_seam}
use Rattle.std.proofs.Math.Nat.{div-add-mod}
use Rattle.promql_text.specs.Texts.{Text}
use Rattle.promql_text.specs.DecimalForm.{front, past_run, past_point, ends_well, Finite, decimal_form}
use Rattle.promql_text.specs.Durations.{nanos_of, word_of, units, is_no_digit, word_run, past_word, begins_part, parts_nanos, in_range, nearest, second_nanos, of_parts, duration_of}
use Rattle.promql_text.specs.DurationText.{count_text, counts_text, whole_text, fraction_text, duration_text}
use Rattle.promql_text.specs.DurationReaders.{short_units}
use Rattle.promql_text.specs.declared.duration.Unit.{Unit}
use Rattle.promql_text.specs.declared.duration.Unit.TheVariants.{Year, Week, Day, Hour, Minute, Second, Milli}
use Rattle.promql_text.proofs.durations.SaturatingParts.{parts-end, duration-form}
use Rattle.promql_text.proofs.numerals.Fractions.{fraction_is}
use Rattle.promql_text.proofs.durations.RoundedQuotients.{nearest_right, ten_split, digits_value-append}
use Rattle.promql_text.proofs.numerals.Runs.{run_append, past_append, front_digit}
use Rattle.promql_text.proofs.numerals.TextForms.{word_form, point_form, plain_numeral, signed_of}

-- ---- one part, and what follows it

word_len_is : (u : Unit) (r : Text) → prefix_len is_no_digit r ≡ 0 → prefix_len is_no_digit (word_of u ++ r) ≡ length (word_of u)
word_len_is Year r h = omega arith
word_len_is Week r h = omega arith
word_len_is Day r h = omega arith
word_len_is Hour r h = omega arith
word_len_is Minute r h = omega arith
word_len_is Second r h = omega arith
word_len_is Milli r h = omega arith

pub word_letter : (u : Unit) (r : Text) → is_ascii_digit (front (word_of u ++ r)) ≡ false
word_letter Year r = refl
word_letter Week r = refl
word_letter Day r = refl
word_letter Hour r = refl
word_letter Minute r = refl
word_letter Second r = refl
word_letter Milli r = refl

pub word_no_point : (u : Unit) (r : Text) → past_point (word_of u ++ r) ≡ word_of u ++ r
word_no_point Year r = refl
word_no_point Week r = refl
word_no_point Day r = refl
word_no_point Hour r = refl
word_no_point Minute r = refl
word_no_point Second r = refl
word_no_point Milli r = refl

never_zero : (n : ℕ) → (suc n == 0) ≡ false
never_zero n = ne_eqb (suc n) 0 (λ e. absurd (omega arith))

pub word_no_end : (u : Unit) (r : Text) → ends_well (word_of u ++ r) ≡ false
word_no_end Year r = ap (λ b. b || false) (never_zero (length r))
word_no_end Week r = ap (λ b. b || false) (never_zero (length r))
word_no_end Day r = ap (λ b. b || false) (never_zero (length r))
word_no_end Hour r = ap (λ b. b || false) (never_zero (length r))
word_no_end Minute r = ap (λ b. b || false) (never_zero (length r))
word_no_end Second r = ap (λ b. b || false) (never_zero (length r))
word_no_end Milli r = ap (λ b. b || false) (never_zero (suc (length r)))

pub word_runs : (u : Unit) (r : Text) → prefix_len is_no_digit r ≡ 0 → word_run (word_of u ++ r) ≡ word_of u
word_runs u r h = ap (λ n. take n (word_of u ++ r)) (word_len_is u r h) ∙ take-append_seam (word_of u) r

pub word_passed : (u : Unit) (r : Text) → prefix_len is_no_digit r ≡ 0 → past_word (word_of u ++ r) ≡ r
word_passed u r h = ap (λ n. drop n (word_of u ++ r)) (word_len_is u r h) ∙ drop-append_seam (word_of u) r

-- the text of one part, with a count above zero
abbrev pub part_text : ℕ → Unit → Text → Text
part_text n u r = decimal n ++ (word_of u ++ r)

pub record IsCount (n : ℕ) : Type 0 where
  some : 0 < length (decimal n)
  digits : AllDigits 10 (decimal n)
  value : digits_value 10 (decimal n) ≡ n

count_is : (n : ℕ) → n < 10 ^ 64 → IsCount n
count_is n h = let is = decimal_is_IsNumeral_wide n h in record { some = is.0.0; digits = is.0.1; value = is.1 }

part_begins : (n : ℕ) (u v : Unit) (r : Text) → IsCount n → prefix_len is_no_digit r ≡ 0 → begins_part v (part_text n u r) ≡ bytes_eq (word_of u) (word_of v)
part_begins n u v r is h =
    ap (λ d. d && bytes_eq (word_run (past_run (part_text n u r))) (word_of v)) (front_digit (decimal n) (word_of u ++ r) is.some is.digits)
    ∙ ap (λ w. bytes_eq (word_run w) (word_of v)) (past_append (decimal n) (word_of u ++ r) is.digits (word_letter u r))
    ∙ ap (λ w. bytes_eq w (word_of v)) (word_runs u r h)

pub same_word : (u : Unit) → bytes_eq (word_of u) (word_of u) ≡ true
same_word Year = refl
same_word Week = refl
same_word Day = refl
same_word Hour = refl
same_word Minute = refl
same_word Second = refl
same_word Milli = refl

part_reads : (n : ℕ) (u : Unit) (us : List Unit) (r : Text) → IsCount n → prefix_len is_no_digit r ≡ 0 → parts_nanos (u ∷ us) (part_text n u r) ≡ option_map (λ k. n * nanos_of u + k) (parts_nanos us r)
part_reads n u us r is h =
    let t : Text = part_text n u r in
    cond-true (begins_part u t) _ _ (part_begins n u u r is h ∙ same_word u)
    ∙ ap (λ ds. option_map (λ k. digits_value 10 ds * nanos_of u + k) (parts_nanos us (past_word (past_run t)))) (run_append (decimal n) (word_of u ++ r) is.digits (word_letter u r))
    ∙ ap (λ v. option_map (λ k. v * nanos_of u + k) (parts_nanos us (past_word (past_run t)))) is.value
    ∙ ap (λ w. option_map (λ k. n * nanos_of u + k) (parts_nanos us (past_word w))) (past_append (decimal n) (word_of u ++ r) is.digits (word_letter u r))
    ∙ ap (λ w. option_map (λ k. n * nanos_of u + k) (parts_nanos us w)) (word_passed u r h)

-- ---- counts, from the greatest unit on

-- a part with a count or nothing, before r
count_front : (n : ℕ) (u : Unit) (r : Text) (P : Text → Type 0) → (n ≡ 0 → P r) → ((n ≡ 0 → ⊥) → P (part_text n u r)) → P (count_text n u ++ r)
count_front n u r P none some =
    ⊎_elim
    (λ (zero_is : n ≡ 0). subst (λ t. P (t ++ r)) (sym (cond-true (n == 0) [] (decimal n ++ word_of u) (eq-eqb n 0 zero_is))) (none zero_is))
    (λ (above : n ≡ 0 → ⊥). subst (λ t. P (t ++ r)) (sym (cond-false (n == 0) [] (decimal n ++ word_of u) (ne_eqb n 0 above))) (subst P (sym (append_assoc (decimal n) (word_of u) r)) (some above)))
    (cases_eq n 0)

quotient_fits : (n d : ℕ) → n < 10 ^ 64 → n / d < 10 ^ 64
quotient_fits n d h = omega arith

remainder_fits : (n d : ℕ) → n < 10 ^ 64 → n % d < 10 ^ 64
remainder_fits n d h = omega arith

counts_follow : (us : List Unit) (n : ℕ) → n < 10 ^ 64 → prefix_len is_no_digit (counts_text us n) ≡ 0
counts_follow [] n h = refl
counts_follow (u ∷ us) n h =
    let r : Text = counts_text us (n % nanos_of u) in
    count_front (n / nanos_of u) u r (λ t. prefix_len is_no_digit t ≡ 0)
    (λ _. counts_follow us (n % nanos_of u) (remainder_fits n (nanos_of u) h))
    (λ _. let is = count_is (n / nanos_of u) (quotient_fits n (nanos_of u) h) in no_run (part_text (n / nanos_of u) u r) (front_digit (decimal (n / nanos_of u)) (word_of u ++ r) is.some is.digits))
  where
    no_run : (t : Text) → is_ascii_digit (front t) ≡ true → prefix_len is_no_digit t ≡ 0
    no_run [] digit = refl
    no_run (b ∷ t) digit = ap (λ d. cond (not d) (1 + prefix_len is_no_digit t) 0) digit

-- no unit of the list has this word
abbrev pub NoWord : Unit → List Unit → Type 0
NoWord v [] = ⊤
NoWord v (u ∷ us) = (bytes_eq (word_of u) (word_of v) ≡ false) × NoWord v us

-- each unit's word is once
abbrev pub Apart : List Unit → Type 0
Apart [] = ⊤
Apart (u ∷ us) = NoWord u us × Apart us

counts_begin : (v : Unit) (us : List Unit) (n : ℕ) → n < 10 ^ 64 → NoWord v us → begins_part v (counts_text us n) ≡ false
counts_begin v [] n h other = refl
counts_begin v (u ∷ us) n h other =
    let r : Text = counts_text us (n % nanos_of u) in
    let small = remainder_fits n (nanos_of u) h in
    count_front (n / nanos_of u) u r (λ t. begins_part v t ≡ false)
    (λ _. counts_begin v us (n % nanos_of u) small other.1)
    (λ _. part_begins (n / nanos_of u) u v r (count_is (n / nanos_of u) (quotient_fits n (nanos_of u) h)) (counts_follow us (n % nanos_of u) small) ∙ other.0)

-- what remains when all units are taken
abbrev remains : List Unit → ℕ → ℕ
remains [] n = n
remains (u ∷ us) n = remains us (n % nanos_of u)

counts_read : (us : List Unit) (n : ℕ) → n < 10 ^ 64 → Apart us → (k : ℕ) × (parts_nanos us (counts_text us n) ≡ Some k) × (k + remains us n ≡ n)
counts_read [] n h apart = (0, refl, omega arith)
counts_read (u ∷ us) n h apart =
    let c : ℕ = n / nanos_of u in
    let m : ℕ = n % nanos_of u in
    let r : Text = counts_text us m in
    let small = remainder_fits n (nanos_of u) h in
    let rest = counts_read us m small apart.1 in
    let sum : c * nanos_of u + m ≡ n = omega (arith, div-add-mod n (nanos_of u)) in
    count_front c u r (λ t. (k : ℕ) × (parts_nanos (u ∷ us) t ≡ Some k) × (k + remains us m ≡ n))
    (λ none. (rest.0, cond-false (begins_part u r) _ _ (counts_begin u us m small apart.0) ∙ rest.1, omega (arith, sum, ap (λ x. x * nanos_of u) none, rest.2)))
    (λ _. (c * nanos_of u + rest.0, part_reads c u us r (count_is c (quotient_fits n (nanos_of u) h)) (counts_follow us m small) ∙ ap (option_map (λ k. c * nanos_of u + k)) rest.1, omega (arith, sum, rest.2)))

-- nothing, or digits and a unit's word
abbrev pub HasPart : Text → Type 0
HasPart t = (n : ℕ) × (u : Unit) × (r : Text) × IsCount n × (t ≡ part_text n u r)

pub counts_head : (us : List Unit) (n : ℕ) → n < 10 ^ 64 → (counts_text us n ≡ []) ⊎ HasPart (counts_text us n)
counts_head [] n h = inl refl
counts_head (u ∷ us) n h =
    let r : Text = counts_text us (n % nanos_of u) in
    let c : ℕ = n / nanos_of u in
    count_front c u r (λ t. (t ≡ []) ⊎ HasPart t)
    (λ _. counts_head us (n % nanos_of u) (remainder_fits n (nanos_of u) h))
    (λ _. inr (c, u, r, count_is c (quotient_fits n (nanos_of u) h), refl))

-- ---- a text of parts

-- a text of digits and a unit's word is not of the decimal form
part_form : (t : Text) → HasPart t → decimal_form t ≡ None
part_form t has =
    let n : ℕ = has.0 in
    let u : Unit = has.1 in
    let r : Text = has.2 in
    let is = has.3 in
    ap decimal_form has.4 ∙ word_form (decimal n) (word_of u ++ r) is.some is.digits (word_letter u r) (word_no_point u r) (word_no_end u r)

pub in_range_is : (n : ℕ) → 0 < n → n < 2 ^ 64 * 1_000_000_000 → in_range n ≡ Ok n
in_range_is n some fits = cond-false (n == 0) _ _ (ne_eqb n 0 (λ e. absurd (omega arith))) ∙ cond-true (nat_lt n (2 ^ 64 * 1_000_000_000)) _ _ (lt-ltb n (2 ^ 64 * 1_000_000_000) fits)

not_empty : (t : Text) (n : ℕ) → 0 < n → parts_nanos units t ≡ Some n → (length t == 0) ≡ false
not_empty t n some is =
    ⊎_elim
    (λ (empty : length t ≡ 0). absurd (zero_some n some (sym (parts-end units t empty) ∙ is)))
    (λ (more : length t ≡ 0 → ⊥). ne_eqb (length t) 0 more)
    (cases_eq (length t) 0)
  where
    same : (m n : ℕ) → ◌≡◌ {A = Option ℕ} (Some m) (Some n) → m ≡ n
    same m n e = cc

    zero_some : (n : ℕ) → 0 < n → ◌≡◌ {A = Option ℕ} (Some 0) (Some n) → ⊥
    zero_some n some e = let zero_is = same 0 n e in omega arith

-- a text of counts is read as their duration
counts_duration : (t : Text) (n : ℕ) → 0 < n → n < 2 ^ 64 * 1_000_000_000 → (t ≡ []) ⊎ HasPart t → parts_nanos units t ≡ Some n → duration_of t ≡ Ok n
counts_duration t n some fits head is =
    let more = not_empty t n some is in
    let none : decimal_form t ≡ None =
    ⊎_elim
    (λ (empty : t ≡ []). absurd (nothing (length t) (ap length empty) more))
    (λ has. part_form t has)
    head
    in
    duration-form t None more none ∙ ap of_parts is ∙ in_range_is n some fits
  where
    nothing : (n : ℕ) → n ≡ 0 → (n == 0) ≡ false → ⊥
    nothing n e f = eqb-false n 0 f e

-- ---- whole milliseconds

skips : (u : Unit) (us : List Unit) (t : Text) (o : Option ℕ) → begins_part u t ≡ false → parts_nanos us t ≡ o → parts_nanos (u ∷ us) t ≡ o
skips u us t o other is = cond-false (begins_part u t) _ _ other ∙ is

pub short_apart : Apart short_units
short_apart = ((refl, (refl, (refl, (refl, tt)))), ((refl, (refl, (refl, tt))), ((refl, (refl, tt)), ((refl, tt), (tt, tt)))))

-- a text of parts that is read as n
record IsWhole (t : Text) (n : ℕ) : Type 0 where
  head : (t ≡ []) ⊎ HasPart t
  read : parts_nanos units t ≡ Some n

-- one count that leaves no rest
single_text : (u : Unit) (c : ℕ) → (c ≡ 0 → ⊥) → count_text c u ≡ part_text c u []
single_text u c some = cond-false (c == 0) _ _ (ne_eqb c 0 some) ∙ ap (λ w. decimal c ++ w) (sym (append-nil (word_of u)))

single_some : (n d : ℕ) → 0 < n → n % d ≡ 0 → n / d ≡ 0 → ⊥
single_some n d some even none = omega (arith, div-add-mod n d, ap (λ q. d * q) none)

single_reads : (u : Unit) (us : List Unit) (n : ℕ) → n < 10 ^ 64 → n % nanos_of u ≡ 0 → parts_nanos (u ∷ us) (part_text (n / nanos_of u) u []) ≡ Some n
single_reads u us n h even =
    part_reads (n / nanos_of u) u us [] (count_is (n / nanos_of u) (quotient_fits n (nanos_of u) h)) refl
    ∙ ap (option_map (λ k. n / nanos_of u * nanos_of u + k)) (parts-end us [] refl)
    ∙ ap Some (let e : n / nanos_of u * nanos_of u + 0 ≡ n = omega (arith, div-add-mod n (nanos_of u)) in e)

whole_years : (n : ℕ) → 0 < n → n < 10 ^ 64 → n % nanos_of Year ≡ 0 → IsWhole (count_text (n / nanos_of Year) Year) n
unfolding units
whole_years n some h even =
    let c : ℕ = n / nanos_of Year in
    let is = count_is c (quotient_fits n (nanos_of Year) h) in
    let one = single_text Year c (single_some n (nanos_of Year) some even) in
    record {
      head = inr (c, Year, [], is, one);
      read = ap (parts_nanos units) one ∙ single_reads Year (Week ∷ short_units) n h even;
    }

whole_weeks : (n : ℕ) → 0 < n → n < 10 ^ 64 → n % nanos_of Week ≡ 0 → IsWhole (count_text (n / nanos_of Week) Week) n
unfolding units
whole_weeks n some h even =
    let c : ℕ = n / nanos_of Week in
    let is = count_is c (quotient_fits n (nanos_of Week) h) in
    let one = single_text Week c (single_some n (nanos_of Week) some even) in
    record {
      head = inr (c, Week, [], is, one);
      read = ap (parts_nanos units) one ∙ skips Year (Week ∷ short_units) (part_text c Week []) (Some n) (part_begins c Week Year [] is refl) (single_reads Week short_units n h even);
    }

no_rest : (n : ℕ) → n % nanos_of Milli ≡ 0 → remains short_units n ≡ 0
no_rest n even = omega arith

whole_counts : (n : ℕ) → n < 10 ^ 64 → n % nanos_of Milli ≡ 0 → IsWhole (counts_text short_units n) n
unfolding units
whole_counts n h even =
    let t : Text = counts_text short_units n in
    let read = counts_read short_units n h short_apart in
    let all : read.0 ≡ n = omega (arith, read.2, no_rest n even) in
    record {
      head = counts_head short_units n h;
      read =
          skips Year (Week ∷ short_units) t (Some n) (counts_begin Year short_units n h (refl, (refl, (refl, (refl, (refl, tt))))))
          (skips Week short_units t (Some n) (counts_begin Week short_units n h (refl, (refl, (refl, (refl, (refl, tt)))))) (read.1 ∙ ap Some all));
    }

whole_is : (n : ℕ) → 0 < n → n < 10 ^ 64 → n % nanos_of Milli ≡ 0 → IsWhole (whole_text n) n
whole_is n some h even =
    cond_both (n % nanos_of Year == 0) (count_text (n / nanos_of Year) Year) (cond (n % nanos_of Week == 0) (count_text (n / nanos_of Week) Week) (counts_text short_units n)) (λ t. IsWhole t n)
    (λ years. whole_years n some h (eqb-true (n % nanos_of Year) 0 years))
    (λ _. cond_both (n % nanos_of Week == 0) (count_text (n / nanos_of Week) Week) (counts_text short_units n) (λ t. IsWhole t n)
    (λ weeks. whole_weeks n some h (eqb-true (n % nanos_of Week) 0 weeks))
    (λ _. whole_counts n h even))

pub whole_reads : (n : ℕ) → 0 < n → n < 2 ^ 64 * 1_000_000_000 → n % nanos_of Milli ≡ 0 → duration_of (whole_text n) ≡ Ok n
whole_reads n some fits even =
    let is = whole_is n some (omega arith) even in
    counts_duration (whole_text n) n some fits is.head is.read

-- ---- seconds and a fraction

pub seconds_read : (n : ℕ) → 0 < n → n < 2 ^ 64 * 1_000_000_000 → duration_of (decimal (n / nanos_of Second) ++ (46 ∷ fraction_text 9 (n % nanos_of Second))) ≡ Ok n
unfolding second_nanos
seconds_read n some fits =
    let s : ℕ = n / nanos_of Second in
    let r : ℕ = n % nanos_of Second in
    let ds : Text = decimal s in
    let fs : Text = fraction_text 9 r in
    let t : Text = ds ++ (46 ∷ fs) in
    let is = count_is s (omega arith) in
    let fraction = fraction_is 9 r (omega arith) in
    let more : (length t == 0) ≡ false = ne_eqb (length t) 0 (λ e. absurd (omega (arith, is.some, length-append ds (46 ∷ fs)))) in
    let places : ℕ = length fs in
    let value : digits_value 10 (ds ++ fs) ≡ s * 10 ^ places + digits_value 10 fs = digits_value-append ds fs ∙ ap (λ v. v * 10 ^ places + digits_value 10 fs) is.value in
    let nanos : nearest (digits_value 10 (ds ++ fs) * 10 ^ (9 + 0)) (10 ^ places) ≡ n =
    nearest_right (digits_value 10 (ds ++ fs)) 9 places fraction.short
    ∙ ap (λ v. v * 10 ^ (9 - places)) value
    ∙ seconds_sum s (10 ^ places) (digits_value 10 fs) (10 ^ (9 - places)) r n (sym (ten_split 9 places fraction.short)) fraction.value (omega (arith, div-add-mod n (nanos_of Second)))
    in
    duration-form t (Some (signed_of false (Finite (plain_numeral ds fs)))) more (point_form ds fs is.some is.digits fraction.digits)
    ∙ ap in_range nanos ∙ in_range_is n some fits
  where
    seconds_sum : (s p v q r n : ℕ) → q * p ≡ 10 ^ 9 → v * q ≡ r → s * 1_000_000_000 + r ≡ n → (s * p + v) * q ≡ n
    seconds_sum s p v q r n tens value sum = omega (arith, ap (λ x. s * x) tens)

pub duration_reads : (n : ℕ) → 0 < n → n < 2 ^ 64 * 1_000_000_000 → duration_of (duration_text n) ≡ Ok n
unfolding duration_text
duration_reads n some fits =
    let seconds : Text = decimal (n / nanos_of Second) ++ (46 ∷ fraction_text 9 (n % nanos_of Second)) in
    cond_both (n == 0) (codes "0s") (cond (n % nanos_of Milli == 0) (whole_text n) seconds) (λ t. duration_of t ≡ Ok n)
    (λ none. let zero_is = eqb-true n 0 none in absurd (omega arith))
    (λ _. cond_both (n % nanos_of Milli == 0) (whole_text n) seconds (λ t. duration_of t ≡ Ok n)
    (λ even. whole_reads n some fits (eqb-true (n % nanos_of Milli) 0 even))
    (λ _. seconds_read n some fits))
