-- What a text is alone, it is at the front of a longer one that does not go on with it.
use Rattle.std.proofs.Common.{◌≡◌, ℕ, zero, suc, ◌+◌, ◌-◌, ◌<◌, ◌≤◌, Bool, true, false, cond, [], ◌∷◌, ◌++◌, length, get_or, take, drop, Ok, Err, refl, sym, ap, ◌∙◌, ⊎_elim, arith, length-drop}
use Rattle.std.specs.Prelude.{◌==◌, not, ◌&&◌, ◌||◌}
use Rattle.std.specs.List.{prefix_len}
use Rattle.std.proofs.lemmas.Bool.{cond_both, eqb-true}
use Rattle.std.proofs.lemmas.Grind.{common_steps}
use Rattle.std.proofs.lemmas.List.{take-append-le, drop-append-le, get_or_past, get_or_append_left}
use Rattle.std.proofs.lemmas.List.Sums.{prefix_len-le-length}
use Rattle.std.proofs.str.Laws.{order}
use Rattle.std.proofs.Math.Seq.{take-append_seam, drop-append_seam}
use Rattle.promql_token.specs.declared.class.Class.{Class}
use Rattle.promql_token.specs.declared.class.Class.TheVariants as class
use Rattle.promql_token.specs.declared.fault.LexFaultKind.TheVariants.{Numeral, Escape}
use Rattle.promql_token.specs.declared.ids.TheConstants.{T_DURATION, T_NUMBER, T_STRING}
use Rattle.promql_text.specs.Texts.{Text}
use Rattle.promql_token.specs.Classes.{is_in, end_of_run}
use Rattle.promql_token.specs.Laws.{is_sign, is_exponent, stops_numeral}
use Rattle.promql_token.specs.TokenScanning.{Scanned, word_id, word, braces_id, word_in_braces, is_hex, digits, past_whole, past_point, past_sign, past_exponent, number_end, units, numeral, is_escape, string_from}
use Rattle.promql_token.proofs.one_reading.Ends.{and_left, and_right, or_cases}
use Rattle.promql_token.proofs.one_reading.Steps.{not_true}

-- ---- reading a text at the front of a longer one

prefix_beside : (p : ℕ → Bool) (w r : Text) → p (get_or r 0 0) ≡ false → prefix_len p (w ++ r) ≡ prefix_len p w
prefix_beside p [] [] h = refl
prefix_beside p [] (b ∷ r) h = rw h refl
prefix_beside p (b ∷ w) r h = ap (λ n. cond (p b) (1 + n) 0) (prefix_beside p w r h)

-- a test that NUL does not pass, nor the first byte of what follows
pub look : (p : ℕ → Bool) (w r : Text) (at : ℕ) → at ≤ length w → p 0 ≡ false → (at ≡ length w → p (get_or r 0 0) ≡ false) → p (get_or (w ++ r) at 0) ≡ p (get_or w at 0)
look p [] r zero h none stops = stops refl ∙ sym none
look p [] r (suc at) h none stops = absurd (omega arith)
look p (b ∷ w) r zero h none stops = refl
look p (b ∷ w) r (suc at) h none stops = look p w r at (omega arith) none (λ e. stops (ap suc e))

pub past_beside : (c : Class) (w r : Text) (at : ℕ) → at ≤ length w → is_in c (get_or r 0 0) ≡ false → end_of_run c (w ++ r) at ≡ end_of_run c w at
past_beside c w r at h stops = ap (λ z. at + prefix_len (is_in c) z) (drop-append-le at w r h) ∙ ap (λ n. at + n) (prefix_beside (is_in c) (drop at w) r stops)

pub past_within : (c : Class) (w : Text) (at : ℕ) → at ≤ length w → end_of_run c w at ≤ length w
past_within c w at h = omega (arith, prefix_len-le-length (is_in c) (drop at w), length-drop at w)

-- a place whose byte is not NUL is before the end
before_end : (w : Text) (at : ℕ) → 0 < get_or w at 0 → at + 1 ≤ length w
before_end w at some = ⊎_elim (λ below. omega arith) (λ (over : length w ≤ at). absurd (omega (arith, get_or_past w at 0 over))) (order at (length w))

byte_before : (w : Text) (at n : ℕ) → (get_or w at 0 == n) ≡ true → 0 < n → at + 1 ≤ length w
byte_before w at n is some = let e = eqb-true _ _ is in before_end w at (omega arith)

-- ---- words

pub word_beside : (w r : Text) → end_of_run class.Word w 0 ≡ length w → is_in class.Word (get_or r 0 0) ≡ false → word (w ++ r) ≡ Ok (word_id w r, length w)
unfolding word
word_beside w r all stops =
    let len = past_beside class.Word w r 0 (omega arith) stops ∙ all in
    λ i. Ok (word_id ((ap (λ n. take n (w ++ r)) len ∙ take-append_seam w r) i) ((ap (λ n. drop n (w ++ r)) len ∙ drop-append_seam w r) i), len i)

pub word_in_braces_beside : (w r : Text) → end_of_run class.Name w 0 ≡ length w → is_in class.Name (get_or r 0 0) ≡ false → word_in_braces (w ++ r) ≡ Ok (braces_id w r, length w)
unfolding word_in_braces
word_in_braces_beside w r all stops =
    let len = past_beside class.Name w r 0 (omega arith) stops ∙ all in
    λ i. Ok (braces_id ((ap (λ n. take n (w ++ r)) len ∙ take-append_seam w r) i) ((ap (λ n. drop n (w ++ r)) len ∙ drop-append_seam w r) i), len i)

-- ---- numerals

-- what stops a numeral
pub record Stops (w r : Text) : Type 0 where
  pub name : is_in class.Name (get_or r 0 0) ≡ false
  pub point : (get_or r 0 0 == 46) ≡ false
  pub sign : (is_sign (get_or r 0 0) && is_exponent (get_or w (length w - 1) 0)) ≡ false

pub stops : (w r : Text) → stops_numeral w r ≡ true → Stops w r
stops w r h =
    let c = get_or r 0 0 in
    let e = is_sign c && is_exponent (get_or w (length w - 1) 0) in
    let front = and_left (not (is_in class.Name c) && not (c == 46)) (not e) h in
    record {
      name = not_true _ (and_left (not (is_in class.Name c)) (not (c == 46)) front);
      point = not_true _ (and_right (not (is_in class.Name c)) (not (c == 46)) front);
      sign = not_true e (and_right (not (is_in class.Name c) && not (c == 46)) (not e) h);
    }

no_digit : (b : ℕ) → is_in class.Name b ≡ false → is_in class.Digit b ≡ false
no_digit b h = grind (arith, common_steps)

no_hex_digit : (b : ℕ) → is_in class.Name b ≡ false → is_in class.HexDigit b ≡ false
no_hex_digit b h = grind (arith, common_steps)

no_x : (b : ℕ) → is_in class.Name b ≡ false → ((b == 120) || (b == 88)) ≡ false
no_x b h = grind (arith, common_steps)

no_e : (b : ℕ) → is_in class.Name b ≡ false → is_exponent b ≡ false
no_e b h = grind (arith, common_steps)

module _ {w r : Text} (some : 0 < length w) (s : Stops w r) where
  hex_beside : is_hex (w ++ r) ≡ is_hex w
  hex_beside =
      let first : get_or (w ++ r) 0 0 ≡ get_or w 0 0 = get_or_append_left w r 0 0 some in
      λ i. (first i == 48) && (look (λ b. (b == 120) || (b == 88)) w r 1 some refl (λ _. no_x (get_or r 0 0) s.name)) i

  digits_stop : is_in (digits w) (get_or r 0 0) ≡ false
  digits_stop = cases (is_hex w)
    where
      cases : (h : Bool) → is_in (cond h class.HexDigit class.Digit) (get_or r 0 0) ≡ false
      cases true = no_hex_digit (get_or r 0 0) s.name
      cases false = no_digit (get_or r 0 0) s.name

  digits_beside : digits (w ++ r) ≡ digits w
  digits_beside = ap (λ h. cond h class.HexDigit class.Digit) hex_beside

  prefix_within : cond (is_hex w) 2 0 ≤ length w
  prefix_within = cases (is_hex w) refl
    where
      cases : (h : Bool) → is_hex w ≡ h → cond h 2 0 ≤ length w
      cases true hex = ⊎_elim (λ x. byte_before w 1 120 x (omega arith)) (λ x. byte_before w 1 88 x (omega arith)) (or_cases (get_or w 1 0 == 120) (get_or w 1 0 == 88) (and_right _ _ hex))
      cases false plain = omega arith

  whole_beside : past_whole (w ++ r) ≡ past_whole w
  whole_beside = (λ i. end_of_run (digits_beside i) (w ++ r) (cond (hex_beside i) 2 0)) ∙ past_beside (digits w) w r (cond (is_hex w) 2 0) prefix_within digits_stop

  whole_within : past_whole w ≤ length w
  whole_within = past_within (digits w) w (cond (is_hex w) 2 0) prefix_within

  point_within : (at : ℕ) → at ≤ length w → past_point (digits w) w at ≤ length w
  point_within at h = cond_both (get_or w at 0 == 46) _ _ (λ n. n ≤ length w) (λ point. past_within (digits w) w (at + 1) (byte_before w at 46 point (omega arith))) (λ _. h)

  point_beside : (at : ℕ) → at ≤ length w → past_point (digits w) (w ++ r) at ≡ past_point (digits w) w at
  point_beside at h =
      ap (λ b. cond b (end_of_run (digits w) (w ++ r) (at + 1)) at) (look (λ b. b == 46) w r at h refl (λ _. s.point))
      ∙ cond_both (get_or w at 0 == 46) (end_of_run (digits w) w (at + 1)) at (λ n. cond (get_or w at 0 == 46) (end_of_run (digits w) (w ++ r) (at + 1)) at ≡ n)
      (λ point. rw point (past_beside (digits w) w r (at + 1) (byte_before w at 46 point (omega arith)) digits_stop))
      (λ plain. rw plain refl)

  e_before : (at : ℕ) → is_exponent (get_or w at 0) ≡ true → at + 1 ≤ length w
  e_before at e = ⊎_elim (λ x. byte_before w at 101 x (omega arith)) (λ x. byte_before w at 69 x (omega arith)) (or_cases (get_or w at 0 == 101) (get_or w at 0 == 69) e)

  -- no sign follows where an `e` is the last byte
  no_sign : (at : ℕ) → is_exponent (get_or w at 0) ≡ true → at + 1 ≡ length w → is_sign (get_or r 0 0) ≡ false
  no_sign at e last =
      let same : length w - 1 ≡ at = omega arith in
      let ends : is_exponent (get_or w (length w - 1) 0) ≡ true = ap (λ n. is_exponent (get_or w n 0)) same ∙ e in
      first_false (is_sign (get_or r 0 0)) (ap (λ b. is_sign (get_or r 0 0) && b) (sym ends) ∙ s.sign)
    where
      first_false : (a : Bool) → (a && true) ≡ false → a ≡ false
      first_false true h = h
      first_false false h = refl

  sign_within : (at : ℕ) → at ≤ length w → past_sign w at ≤ length w
  sign_within at h =
      cond_both (is_sign (get_or w at 0)) _ _ (λ n. n ≤ length w)
      (λ x. ⊎_elim (λ y. byte_before w at 43 y (omega arith)) (λ y. byte_before w at 45 y (omega arith)) (or_cases (get_or w at 0 == 43) (get_or w at 0 == 45) x)) (λ _. h)

  sign_beside : (at : ℕ) → is_exponent (get_or w at 0) ≡ true → past_sign (w ++ r) (at + 1) ≡ past_sign w (at + 1)
  sign_beside at e = ap (λ b. cond b (at + 1 + 1) (at + 1)) (look is_sign w r (at + 1) (e_before at e) refl (no_sign at e))

  exponent_within : (at : ℕ) → at ≤ length w → past_exponent w at ≤ length w
  exponent_within at h = cond_both (is_exponent (get_or w at 0)) _ _ (λ n. n ≤ length w) (λ e. past_within class.Digit w _ (sign_within (at + 1) (e_before at e))) (λ _. h)

  exponent_beside : (at : ℕ) → at ≤ length w → past_exponent (w ++ r) at ≡ past_exponent w at
  exponent_beside at h =
      ap (λ b. cond b (end_of_run class.Digit (w ++ r) (past_sign (w ++ r) (at + 1))) at) (look is_exponent w r at h refl (λ _. no_e (get_or r 0 0) s.name))
      ∙ cond_both (is_exponent (get_or w at 0)) (end_of_run class.Digit w (past_sign w (at + 1))) at (λ n. cond (is_exponent (get_or w at 0)) (end_of_run class.Digit (w ++ r) (past_sign (w ++ r) (at + 1))) at ≡ n)
      (λ e. ap (λ b. cond b (end_of_run class.Digit (w ++ r) (past_sign (w ++ r) (at + 1))) at) e ∙ ap (end_of_run class.Digit (w ++ r)) (sign_beside at e)
      ∙ past_beside class.Digit w r (past_sign w (at + 1)) (sign_within (at + 1) (e_before at e)) (no_digit (get_or r 0 0) s.name))
      (λ plain. ap (λ b. cond b (end_of_run class.Digit (w ++ r) (past_sign (w ++ r) (at + 1))) at) plain)

  end_within : number_end w ≤ length w
  unfolding number_end
  end_within = exponent_within _ (point_within _ whole_within)

  end_beside : number_end (w ++ r) ≡ number_end w
  unfolding number_end
  end_beside =
      let at = past_whole w in
      (λ i. past_exponent (w ++ r) (past_point (digits_beside i) (w ++ r) (whole_beside i)))
      ∙ ap (past_exponent (w ++ r)) (point_beside at whole_within)
      ∙ exponent_beside (past_point (digits w) w at) (point_within at whole_within)

  pub numeral_beside : numeral (w ++ r) ≡ numeral w
  unfolding numeral
  numeral_beside =
      let end = number_end w in
      let run = end_of_run class.Name w end in
      let runs = past_beside class.Name w r end end_within s.name in
      let f : Text → ℕ → ℕ → Scanned = λ z end run. cond ((run == end) && not (get_or z end 0 == 46)) (Ok (T_NUMBER, end)) (cond (units (take (run - end) (drop end z))) (Ok (T_DURATION, run)) (Err (Numeral, 0))) in
      let run_within = past_within class.Name w end end_within in
      let fits : run - end ≤ length (drop end w) = omega (arith, length-drop end w) in
      let tail : take (run - end) (drop end (w ++ r)) ≡ take (run - end) (drop end w) =
      ap (take (run - end)) (drop-append-le end w r end_within) ∙ take-append-le (run - end) (drop end w) r fits in
      ap (λ e. f (w ++ r) e (end_of_run class.Name (w ++ r) e)) end_beside
      ∙ ap (f (w ++ r) end) runs
      ∙ (λ i. cond ((run == end) && not (look (λ b. b == 46) w r end end_within refl (λ _. s.point) i)) (Ok (T_NUMBER, end)) (cond (units (tail i)) (Ok (T_DURATION, run)) (Err (Numeral, 0))))

-- ---- strings

pub string_beside : (quote : ℕ) (e : Bool) (at : ℕ) (w r : Text) (t : ℕ × ℕ) → string_from quote e at w ≡ Ok t → string_from quote e at (w ++ r) ≡ Ok t
string_beside quote true at [] r t is = cc
string_beside quote false at [] r t is = cc
string_beside quote true at (b ∷ w) r t is =
    elim (is_escape quote b) as (λ c. cond c (string_from quote false (at + 1) w) (Err (Escape, at)) ≡ Ok t → cond c (string_from quote false (at + 1) (w ++ r)) (Err (Escape, at)) ≡ Ok t) [
      | true ↦ λ more. string_beside quote false (at + 1) w r t more
      | false ↦ λ no. cc
    ] is
string_beside quote false at (b ∷ w) r t is =
    let next = (b == 92) && not (quote == 96) in
    elim (b == quote) as (λ c. cond c (Ok (T_STRING, at + 1)) (string_from quote next (at + 1) w) ≡ Ok t → cond c (Ok (T_STRING, at + 1)) (string_from quote next (at + 1) (w ++ r)) ≡ Ok t) [
      | true ↦ λ end. end
      | false ↦ λ more. string_beside quote next (at + 1) w r t more
    ] is
