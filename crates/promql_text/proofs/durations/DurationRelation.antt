-- The duration of a text is what its parts or its seconds say.
use Rattle.std.proofs.Common.{◌≡◌, ◌≢◌, ◌⊎◌, ⊎_elim, inl, inr, ℕ, ◌*◌, ◌^◌, ◌<◌, ◌≤◌, Bool, true, false, cond, List, [], ◌∷◌, length, Option, Some, None, Result, Ok, Err, refl, sym, ap, ◌∙◌, subst, arith}
use Rattle.std.specs.Prelude.{◌==◌, ◌↔◌, nat_lt}
use Rattle.std.proofs.lemmas.Bool.{cond_both, cond-false, eqb-true, ne_eqb, le-ltb}
use Rattle.std.proofs.lemmas.Bool.Decides.{nat_tests}
use Rattle.promql_text.specs.Texts.{Text}
use Rattle.promql_text.specs.DecimalForm.{numeral, reading, Reading, NotANumber, Signed, decimal_form}
use Rattle.promql_text.specs.DecimalForm as form
use Rattle.promql_text.specs.Durations.{units, parts_nanos, second_nanos, in_range, of_seconds, of_parts, duration_of}
use Rattle.promql_text.specs.DurationForms.{IsParts, Meaning, Nanos, Negative, Infinite, Means, IsDuration}
use Rattle.promql_text.specs.DurationReaders.{Part, parts_text}
use Rattle.promql_text.specs.NumeralSpelling.{IsDecimalForm}
use Rattle.promql_text.specs.declared.duration.DurationFault.{DurationFault}
use Rattle.promql_text.specs.declared.duration.DurationFault.TheVariants.{Empty, NotPositive, Invalid, Overflow}
use Rattle.promql_text.proofs.durations.DurationParts.{units_read, parts_form, parts_long, parts_found, texts_same, sums_same}
use Rattle.promql_text.proofs.durations.Nearest.{seconds_are, seconds_one}
use Rattle.promql_text.proofs.durations.SaturatingParts.{duration-empty, duration-form}
use Rattle.promql_text.proofs.durations.ReadsDuration.{in_range_is}
use Rattle.promql_text.proofs.numerals.SpelledForms.{form_spelled, spelled_form}
use Rattle.promql_text.proofs.numerals.TextForms.{signed_of}

abbrev result_of : Meaning → Result ℕ DurationFault
result_of (Nanos n) = in_range n
result_of Negative = Err NotPositive
result_of Infinite = Err Overflow

-- ---- what a text means is read

not_empty : (s : Text) → s ≢ [] → (length s == 0) ≡ false
not_empty [] some = absurd (some refl)
not_empty (c ∷ s) some = ne_eqb (length (c ∷ s)) 0 (λ e. absurd (omega arith))

empty_form : decimal_form [] ≡ None
unfolding decimal_form reading numeral
empty_form = refl

form_some : (s : Text) (f : Signed) → decimal_form s ≡ Some f → s ≢ []
form_some s f is none = never (sym empty_form ∙ ap decimal_form (sym none) ∙ is)
  where
    never : ◌≡◌ {A = Option Signed} None (Some f) → ⊥
    never e = cc

form_gives : (s : Text) (f : Signed) → IsDecimalForm f s → duration_of s ≡ of_seconds f.is_negative f.reading
form_gives s f h = let is = spelled_form s f h in duration-form s (Some f) (not_empty s (form_some s f is)) is

parts_some : (s : Text) (n : ℕ) → IsParts s n → s ≢ []
parts_some s n h none =
    let long = parts_long h.0 h.1 h.2 in
    let short : length (parts_text h.0) ≡ 0 = ap length (sym (h.3 ∙ texts_same h.0) ∙ none) in
    omega (arith, long, short)

parts_give : (s : Text) (n : ℕ) → IsParts s n → duration_of s ≡ in_range n
parts_give s n h =
    let text = h.3 ∙ texts_same h.0 in
    duration-form s None (not_empty s (parts_some s n h)) (ap decimal_form text ∙ parts_form h.0 h.1 h.2)
    ∙ ap of_parts (ap (parts_nanos units) text ∙ units_read h.0 h.2 ∙ ap Some (sym (h.4 ∙ sums_same h.0)))

below_zero : (r : Reading) → r ≢ NotANumber → of_seconds true r ≡ Err NotPositive
below_zero NotANumber other = absurd (other refl)
below_zero form.Infinite other = refl
below_zero (form.Finite n) other = refl

means_said : (s : Text) (m : Meaning) → Means s m → duration_of s ≡ result_of m
means_said s (Nanos n) h =
    ⊎_elim (λ parts. parts_give s n parts) (λ seconds. form_gives s (signed_of false (form.Finite seconds.0)) seconds.1 ∙ ap in_range (seconds_one seconds.0 n seconds.2)) h
means_said s Negative h = form_gives s (signed_of true h.0) h.2 ∙ below_zero h.0 h.1
means_said s Infinite h = form_gives s (signed_of false form.Infinite) h

-- ---- what is read so is meant

abbrev Meant : Text → Type 0
Meant s = ((m : Meaning) × Means s m) ⊎ (duration_of s ≡ Err Invalid)

seconds_meant : (s : Text) (b : Bool) (r : Reading) → decimal_form s ≡ Some (signed_of b r) → Meant s
seconds_meant s b NotANumber is = inr (form_gives s (signed_of b NotANumber) (form_spelled s (signed_of b NotANumber) is))
seconds_meant s true form.Infinite is = inl (Negative, (form.Infinite, (λ e. cc), form_spelled s (signed_of true form.Infinite) is))
seconds_meant s false form.Infinite is = inl (Infinite, form_spelled s (signed_of false form.Infinite) is)
seconds_meant s true (form.Finite n) is = inl (Negative, (form.Finite n, (λ e. cc), form_spelled s (signed_of true (form.Finite n)) is))
seconds_meant s false (form.Finite n) is =
    inl (Nanos (second_nanos n), inr (n, form_spelled s (signed_of false (form.Finite n)) is, seconds_are n))

parts_meant : (s : Text) (o : Option ℕ) → s ≢ [] → decimal_form s ≡ None → parts_nanos units s ≡ o → Meant s
parts_meant s None some none is = inr (duration-form s None (not_empty s some) none ∙ ap of_parts is)
parts_meant s (Some n) some none is =
    let f = parts_found units s n is in
    inl (Nanos n, inl (f.0, some_part f.0 f.2, f.1, f.2 ∙ sym (texts_same f.0), f.3 ∙ sym (sums_same f.0)))
  where
    some_part : (ps : List Part) → s ≡ parts_text ps → 0 < length ps
    some_part [] e = absurd (some e)
    some_part (p ∷ ps) e = omega arith

text_meant : (s : Text) (o : Option Signed) → s ≢ [] → decimal_form s ≡ o → Meant s
text_meant s None some is = parts_meant s (parts_nanos units s) some is refl
text_meant s (Some f) some is = seconds_meant s f.is_negative f.reading is

-- ---- in range, and faults

in_range_past : (n : ℕ) → 2 ^ 64 * 1_000_000_000 ≤ n → in_range n ≡ Err Overflow
in_range_past n big =
    cond-false (n == 0) _ _ (ne_eqb n 0 (λ e. absurd (omega arith))) ∙ cond-false (nat_lt n (2 ^ 64 * 1_000_000_000)) _ _ (le-ltb n (2 ^ 64 * 1_000_000_000) big)

range_cases : (n : ℕ) (P : Result ℕ DurationFault → Type 0) → (n ≡ 0 → P (Err NotPositive)) → (0 < n → n < 2 ^ 64 * 1_000_000_000 → P (Ok n)) → (2 ^ 64 * 1_000_000_000 ≤ n → P (Err Overflow)) → P (in_range n)
range_cases n P none fits past =
    cond_both (n == 0) (Err NotPositive) (cond (nat_lt n (2 ^ 64 * 1_000_000_000)) (Ok n) (Err Overflow)) P
    (λ e. none (eqb-true n 0 e))
    (λ some. cond_both (nat_lt n (2 ^ 64 * 1_000_000_000)) (Ok n) (Err Overflow) P (λ less. fits (above n some) (small n less)) (λ more. past (big n more)))
  where
    above : (n : ℕ) → (n == 0) ≡ false → 0 < n
    above n some = grind (arith, nat_tests)

    small : (n : ℕ) → nat_lt n (2 ^ 64 * 1_000_000_000) ≡ true → n < 2 ^ 64 * 1_000_000_000
    small n less = grind (arith, nat_tests)

    big : (n : ℕ) → nat_lt n (2 ^ 64 * 1_000_000_000) ≡ false → 2 ^ 64 * 1_000_000_000 ≤ n
    big n more = grind (arith, nat_tests)

meaning_valid : (m : Meaning) → result_of m ≡ Err Invalid → ⊥
meaning_valid (Nanos n) is = range_cases n (λ r. r ≡ Err Invalid → ⊥) (λ _ e. cc) (λ _ _ e. cc) (λ _ e. cc) is
meaning_valid Negative is = cc
meaning_valid Infinite is = cc

meaning_told : (s : Text) (m : Meaning) → Means s m → IsDuration s (result_of m)
meaning_told s (Nanos n) h =
    range_cases n (IsDuration s)
    (λ none. let P : ℕ → Type 0 = λ k. Means s (Nanos k) in inl (subst P none h))
    (λ some fits. (h, some, fits))
    (λ past. inr (n, h, past))
meaning_told s Negative h = inr h
meaning_told s Infinite h = inl h

-- ---- both directions

duration_told : (s : Text) → IsDuration s (duration_of s)
duration_told [] = let P : Result ℕ DurationFault → Type 0 = λ r. IsDuration [] r in subst P (sym (duration-empty [] refl)) refl
duration_told (c ∷ t) =
    let s : Text = c ∷ t in
    let some : s ≢ [] = λ e. cc in
    let P : Result ℕ DurationFault → Type 0 = λ r. IsDuration s r in
    ⊎_elim
    (λ meant. subst P (sym (means_said s meant.0 meant.1)) (meaning_told s meant.0 meant.1))
    (λ invalid. subst P (sym invalid) (some, λ m h. meaning_valid m (sym (means_said s m h) ∙ invalid)))
    (text_meant s (decimal_form s) some refl)

duration_is : (s : Text) (r : Result ℕ DurationFault) → IsDuration s r → duration_of s ≡ r
duration_is s (Ok n) h = means_said s (Nanos n) h.0 ∙ in_range_is n h.1 h.2
duration_is s (Err Empty) h = ap duration_of h ∙ duration-empty [] refl
duration_is s (Err NotPositive) h = ⊎_elim (λ none. means_said s (Nanos 0) none) (λ negative. means_said s Negative negative) h
duration_is s (Err Overflow) h = ⊎_elim (λ infinite. means_said s Infinite infinite) (λ past. means_said s (Nanos past.0) past.1 ∙ in_range_past past.0 past.2) h
duration_is s (Err Invalid) h = ⊎_elim (λ meant. absurd (h.1 meant.0 meant.1)) (λ invalid. invalid) (text_meant s (decimal_form s) h.0 refl)

pub durations_told : (s : Text) (r : Result ℕ DurationFault) → (duration_of s ≡ r) ↔ IsDuration s r
durations_told s r = ((λ is. let P : Result ℕ DurationFault → Type 0 = λ q. IsDuration s q in subst P is (duration_told s)), (λ h. duration_is s r h))
