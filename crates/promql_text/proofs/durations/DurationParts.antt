-- What is read as parts is parts, and the other way round.
use Rattle.std.proofs.Common.{◌≡◌, ⊎_elim, inl, inr, ℕ, ◌+◌, ◌*◌, ◌<◌, true, false, cond, ◌&&◌, List, [], ◌∷◌, ◌++◌, length, Option, Some, None, refl, sym, ap, ◌∙◌, take-append-drop, length-append, append_assoc, arith}
use Rattle.std.specs.Prelude.{not, option_map, ◌==◌}
use Rattle.std.specs.Char.{is_ascii_digit}
use Rattle.std.specs.List.{flat_map, prefix_len, sum_by}
use Rattle.std.specs.Str.{bytes_eq}
use Rattle.std.specs.Str.Parse.{digits_value}
use Rattle.std.proofs.lemmas.Bool.{cond_both, cond-true, cond-false}
use Rattle.std.proofs.lemmas.List.Sums.{sum_by-cons}
use Rattle.std.proofs.lemmas.Slice.Eq.{bytes_eq-Decides}
use Rattle.promql_text.specs.Texts.{Text}
use Rattle.promql_text.specs.DecimalForm.{front, digit_run, past_run, decimal_form}
use Rattle.promql_text.specs.Durations.{nanos_of, word_of, units, is_no_digit, word_run, past_word, begins_part, parts_nanos}
use Rattle.promql_text.specs.DurationForms.{AreParts}
use Rattle.promql_text.specs.DurationReaders.{Part, IsCount, parts_text, parts_sum}
use Rattle.promql_text.specs.declared.duration.Unit.{Unit}
use Rattle.promql_text.proofs.durations.SaturatingParts.{parts-end}
use Rattle.promql_text.proofs.durations.ReadsDuration.{word_letter, word_no_point, word_no_end, word_runs, word_passed, same_word, NoWord, Apart, short_apart}
use Rattle.promql_text.proofs.numerals.Runs.{run_digits, run_append, past_append, front_digit}
use Rattle.promql_text.proofs.numerals.SpelledNumerals.{both, run_and_rest, nothing_left, run_some}
use Rattle.promql_text.proofs.numerals.TextForms.{word_form}

-- ---- parts are read

no_run : (t : Text) → is_ascii_digit (front t) ≡ true → prefix_len is_no_digit t ≡ 0
no_run [] digit = refl
no_run (b ∷ t) digit = ap (λ d. cond (not d) (1 + prefix_len is_no_digit t) 0) digit

-- what follows a unit's word begins with a digit, or is nothing
parts_follow : (us : List Unit) (ps : List Part) → AreParts us ps → prefix_len is_no_digit (parts_text ps) ≡ 0
parts_follow us [] are = refl
parts_follow [] (p ∷ ps) are = absurd are
parts_follow (u ∷ us) (p ∷ ps) are =
    ⊎_elim (λ here. no_run (parts_text (p ∷ ps)) (front_digit p.0 (word_of p.1 ++ parts_text ps) here.1.0 here.1.1)) (λ later. parts_follow us (p ∷ ps) later) are

record First (p : Part) (ps : List Part) : Type 0 where
  count : IsCount p.0
  follow : prefix_len is_no_digit (parts_text ps) ≡ 0

first_is : (us : List Unit) (p : Part) (ps : List Part) → AreParts us (p ∷ ps) → First p ps
first_is [] p ps are = absurd are
first_is (u ∷ us) p ps are = ⊎_elim (λ here. record { count = here.1; follow = parts_follow us ps here.2 }) (λ later. first_is us p ps later) are

part_begins : (p : Part) (ps : List Part) (v : Unit) → First p ps → begins_part v (parts_text (p ∷ ps)) ≡ bytes_eq (word_of p.1) (word_of v)
part_begins p ps v is =
    let r : Text = parts_text ps in
    ap (λ d. d && bytes_eq (word_run (past_run (parts_text (p ∷ ps)))) (word_of v)) (front_digit p.0 (word_of p.1 ++ r) is.count.0 is.count.1)
    ∙ ap (λ w. bytes_eq (word_run w) (word_of v)) (past_append p.0 (word_of p.1 ++ r) is.count.1 (word_letter p.1 r))
    ∙ ap (λ w. bytes_eq w (word_of v)) (word_runs p.1 r is.follow)

part_reads : (p : Part) (ps : List Part) (us : List Unit) → First p ps
    → parts_nanos (p.1 ∷ us) (parts_text (p ∷ ps)) ≡ option_map (λ k. digits_value 10 p.0 * nanos_of p.1 + k) (parts_nanos us (parts_text ps))
part_reads p ps us is =
    let r : Text = parts_text ps in
    let t : Text = parts_text (p ∷ ps) in
    cond-true (begins_part p.1 t) _ _ (part_begins p ps p.1 is ∙ same_word p.1)
    ∙ ap (λ ds. option_map (λ k. digits_value 10 ds * nanos_of p.1 + k) (parts_nanos us (past_word (past_run t)))) (run_append p.0 (word_of p.1 ++ r) is.count.1 (word_letter p.1 r))
    ∙ ap (λ w. option_map (λ k. digits_value 10 p.0 * nanos_of p.1 + k) (parts_nanos us (past_word w))) (past_append p.0 (word_of p.1 ++ r) is.count.1 (word_letter p.1 r))
    ∙ ap (λ w. option_map (λ k. digits_value 10 p.0 * nanos_of p.1 + k) (parts_nanos us w)) (word_passed p.1 r is.follow)

-- the first part is in none of the units that come before
other_word : (u : Unit) (us : List Unit) (p : Part) (ps : List Part) → NoWord u us → AreParts us (p ∷ ps) → bytes_eq (word_of p.1) (word_of u) ≡ false
other_word u [] p ps none are = absurd are
other_word u (v ∷ us) p ps none are =
    ⊎_elim (λ here. ap (λ w. bytes_eq (word_of w) (word_of u)) here.0 ∙ none.0) (λ later. other_word u us p ps none.1 later) are

parts_read : (us : List Unit) (ps : List Part) → Apart us → AreParts us ps → parts_nanos us (parts_text ps) ≡ Some (parts_sum ps)
parts_read us [] apart are = parts-end us [] refl
parts_read [] (p ∷ ps) apart are = absurd are
parts_read (u ∷ us) (p ∷ ps) apart are =
    let t : Text = parts_text (p ∷ ps) in
    ⊎_elim
    (λ here.
    let e : p.1 ≡ u = here.0 in
    ap (λ v. parts_nanos (v ∷ us) t) (sym e) ∙ part_reads p ps us (record { count = here.1; follow = parts_follow us ps here.2 })
    ∙ ap (option_map (λ k. digits_value 10 p.0 * nanos_of p.1 + k)) (parts_read us ps apart.1 here.2))
    (λ later.
    cond-false (begins_part u t) _ _ (part_begins p ps u (first_is us p ps later) ∙ other_word u us p ps apart.0 later) ∙ parts_read us (p ∷ ps) apart.1 later)
    are

units_apart : Apart units
unfolding units
units_apart = ((refl, (refl, (refl, (refl, (refl, (refl, tt)))))), ((refl, (refl, (refl, (refl, (refl, tt))))), short_apart))

pub units_read : (ps : List Part) → AreParts units ps → parts_nanos units (parts_text ps) ≡ Some (parts_sum ps)
units_read ps are = parts_read units ps units_apart are

-- and no text of the decimal form
pub parts_form : (ps : List Part) → 0 < length ps → AreParts units ps → decimal_form (parts_text ps) ≡ None
parts_form [] some are = absurd (omega arith)
parts_form (p ∷ ps) some are =
    let is = first_is units p ps are in
    let r : Text = parts_text ps in
    word_form p.0 (word_of p.1 ++ r) is.count.0 is.count.1 (word_letter p.1 r) (word_no_point p.1 r) (word_no_end p.1 r)

pub parts_long : (ps : List Part) → 0 < length ps → AreParts units ps → 0 < length (parts_text ps)
parts_long [] some are = absurd (omega arith)
parts_long (p ∷ ps) some are = let is = first_is units p ps are in omega (arith, is.count.0, length-append p.0 (word_of p.1 ++ parts_text ps))

-- ---- as the words of the library have them

pub texts_same : (ps : List Part) → flat_map (λ p. p.0 ++ word_of p.1) ps ≡ parts_text ps
texts_same [] = refl
texts_same (p ∷ ps) = ap (λ t. (p.0 ++ word_of p.1) ++ t) (texts_same ps) ∙ append_assoc p.0 (word_of p.1) (parts_text ps)

pub sums_same : (ps : List Part) → sum_by (λ p. digits_value 10 p.0 * nanos_of p.1) ps ≡ parts_sum ps
sums_same [] = refl
sums_same (p ∷ ps) = sum_by-cons _ p ps ∙ ap (λ n. digits_value 10 p.0 * nanos_of p.1 + n) (sums_same ps)

-- ---- what is read is parts

abbrev pub Found : List Unit → Text → ℕ → Type 0
Found us s n = (ps : List Part) × AreParts us ps × (s ≡ parts_text ps) × (n ≡ parts_sum ps)

same : (m n : ℕ) → ◌≡◌ {A = Option ℕ} (Some m) (Some n) → m ≡ n
same m n e = cc

none_some : (n : ℕ) → ◌≡◌ {A = Option ℕ} None (Some n) → ⊥
none_some n e = cc

abbrev after_part : Text → Text
after_part s = past_word (past_run s)

word_cut : (u : Unit) (s : Text) → bytes_eq (word_run (past_run s)) (word_of u) ≡ true → s ≡ digit_run s ++ (word_of u ++ after_part s)
word_cut u s word =
    let w : Text = past_run s in
    run_and_rest s
    ∙ ap (λ t. digit_run s ++ t) (sym (take-append-drop (prefix_len is_no_digit w) w) ∙ ap (λ t. t ++ after_part s) ((bytes_eq-Decides (word_run w) (word_of u)).0 word))

part_found : (u : Unit) (us : List Unit) (s : Text) (n : ℕ) (o : Option ℕ) → ((m : ℕ) → o ≡ Some m → Found us (after_part s) m) → begins_part u s ≡ true → option_map (λ k. digits_value 10 (digit_run s) * nanos_of u + k) o ≡ Some n → Found (u ∷ us) s n
part_found u us s n None rest begins is = absurd (none_some n is)
part_found u us s n (Some m) rest begins is =
    let h = both (is_ascii_digit (front s)) (bytes_eq (word_run (past_run s)) (word_of u)) begins in
    let r : Found us (after_part s) m = rest m refl in
    let sum : n ≡ digits_value 10 (digit_run s) * nanos_of u + m = sym (same (digits_value 10 (digit_run s) * nanos_of u + m) n is) in (
      (digit_run s, u) ∷ r.0,
      inl (refl, (run_some s h.0, run_digits s), r.1),
      word_cut u s h.1 ∙ ap (λ t. digit_run s ++ (word_of u ++ t)) r.2,
      sum ∙ ap (λ k. digits_value 10 (digit_run s) * nanos_of u + k) r.3,
    )

-- with no part in the first unit
skip_found : (u : Unit) (us : List Unit) (s : Text) (n : ℕ) → Found us s n → Found (u ∷ us) s n
skip_found u us s n f = (f.0, parts_of_more_units f.0 f.1, f.2, f.3)
  where
    parts_of_more_units : (ps : List Part) → AreParts us ps → AreParts (u ∷ us) ps
    parts_of_more_units [] are = tt
    parts_of_more_units (p ∷ ps) are = inr are

pub parts_found : (us : List Unit) (s : Text) (n : ℕ) → parts_nanos us s ≡ Some n → Found us s n
parts_found [] s n is =
    cond_both (length s == 0) (Some 0) None (λ o. o ≡ Some n → Found [] s n)
    (λ none e. ([], tt, nothing_left s none, sym (same 0 n e)))
    (λ _ e. absurd (none_some n e))
    is
parts_found (u ∷ us) s n is =
    cond_both (begins_part u s) (option_map (λ k. digits_value 10 (digit_run s) * nanos_of u + k) (parts_nanos us (after_part s))) (parts_nanos us s) (λ o. o ≡ Some n → Found (u ∷ us) s n)
    (λ begins e. part_found u us s n (parts_nanos us (after_part s)) (λ m h. parts_found us (after_part s) m h) begins e)
    (λ _ e. skip_found u us s n (parts_found us s n e))
    is
