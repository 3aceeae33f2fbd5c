-- What no token of a text is, where the text lacks what such a token has: tokens are pieces of the text.
use Rattle.std.proofs.Common.{◌≡◌, ℕ, zero, suc, ◌+◌, ◌-◌, refl, sym, ◌∙◌, ap, Bool, true, false, true≢false, arith, ◌&&◌, ◌||◌, List, [], ◌∷◌, ◌++◌, length, map, take, drop, Ok, Err}
use Rattle.std.specs.Prelude.{◌==◌, filter, not}
use Rattle.std.specs.List.{list_all, list_any}
use Rattle.std.specs.Result.{ok_prefix}
use Rattle.std.proofs.lemmas.Bool.{and_parts, cond_both, eqb-true}
use Rattle.std.proofs.lemmas.List.{length-take-le, take-append-drop}
use Rattle.promql_text.specs.Texts.{Text}
use Rattle.promql_token.specs.Begins.{MayBegin}
use Rattle.promql_token.specs.Cursor.{is_before_end, tokens_up_to_fault}
use Rattle.promql_token.specs.Lexing.{Found, ScannedText, cut, cut_from, found, goes_on, len_of, scanned_text, start, state_after_scan}
use Rattle.promql_token.specs.TokenScanning.{Scanned, after_trivia, end_in, scan_token, trivia_len}
use Rattle.promql_token.specs.declared.ids.TheConstants.{T_EOF}
use Rattle.promql_token.specs.declared.state.Mode.{Mode}
use Rattle.promql_token.specs.declared.state.Mode.TheVariants as mode
use Rattle.promql_token.specs.declared.state.State.{State}
use Rattle.promql_token.proofs.beginnings.ScannedForms.{piece_begins}
use Rattle.promql_token.proofs.whole_texts.TokenLengths.{token_length}

-- tokens of a kind that begin only where the text has something; no end of a text is of it, and a text that lacks something lacks it after
-- a byte, too
pub record NeedsText (is_such : ℕ × Text → Bool) (has : Text → Bool) : Type 0 where
  pub more : (b : ℕ) (z : Text) → has (b ∷ z) ≡ false → has z ≡ false
  pub ends : (w : Text) → is_such (T_EOF, w) ≡ false
  pub begins : (m : Mode) (depth id : ℕ) (w r : Text) → MayBegin m depth id w r → is_such (id, w) ≡ true → has (w ++ r) ≡ true

is_no : (a : Bool) → not a ≡ true → a ≡ false
is_no true is = sym is
is_no false is = refl

and_true : (a b : Bool) → a ≡ true → b ≡ true → a && b ≡ true
and_true a b one other = ap (λ c. c && b) one ∙ other

module _ (is_such : ℕ × Text → Bool) (has : Text → Bool) (needs : NeedsText is_such has) where
  without_dropped : (n : ℕ) (z : Text) → has z ≡ false → has (drop n z) ≡ false
  without_dropped zero z miss = miss
  without_dropped (suc n) [] miss = miss
  without_dropped (suc n) (b ∷ z) miss = without_dropped n z (needs.more b z miss)

  abbrev is_other : ScannedText → Bool
  is_other (Ok t) = not (is_such t)
  is_other (Err f) = true

  abbrev is_other_scan : Text → Scanned → Bool
  is_other_scan z (Ok t) = not (is_such (t.0, take t.1 z))
  is_other_scan z (Err f) = true

  other_end : (w : Text) → not (is_such (T_EOF, w)) ≡ true
  other_end w = ap not (needs.ends w)

  end_is_other : (m : Mode) (depth : ℕ) → is_other_scan [] (end_in m depth) ≡ true
  end_is_other mode.Outside depth = cond_both (depth == 0) _ _ (λ p. is_other_scan [] p ≡ true) (λ _. other_end []) (λ _. refl)
  end_is_other mode.Braces depth = refl
  end_is_other (mode.Brackets inside) depth = refl

  no_end : (id : ℕ) (w : Text) → is_such (id, w) ≡ true → (id == T_EOF) ≡ false
  no_end id w is = go (id == T_EOF) refl
    where
      go : (b : Bool) → (id == T_EOF) ≡ b → b ≡ false
      go true end = absurd (true≢false (sym is ∙ ap (λ i. is_such (i, w)) (eqb-true id T_EOF end) ∙ needs.ends w))
      go false end = refl

  scan_is_other : (state : State) (z : Text) → has z ≡ false → is_other_scan z (scan_token state z) ≡ true
  unfolding scan_token
  scan_is_other state [] miss = end_is_other state.mode state.depth
  scan_is_other state (b ∷ y) miss = go (scan_token state (b ∷ y)) refl
    where
      go : (p : Scanned) → scan_token state (b ∷ y) ≡ p → is_other_scan (b ∷ y) p ≡ true
      go (Err f) scanned = refl
      go (Ok t) scanned = other (is_such (t.0, take t.1 (b ∷ y))) refl
        where
          other : (c : Bool) → is_such (t.0, take t.1 (b ∷ y)) ≡ c → not c ≡ true
          other false is = refl
          other true is =
              let w = take t.1 (b ∷ y) in let r = drop t.1 (b ∷ y) in
              let len = token_length state (b ∷ y) t.0 t.1 (omega arith) scanned in
              let seam = take-append-drop t.1 (b ∷ y) in
              let again : scan_token state (w ++ r) ≡ Ok (t.0, length w) =
              ap (scan_token state) seam ∙ scanned ∙ ap (λ n. Ok (t.0, n)) (sym (length-take-le t.1 (b ∷ y) len.1)) in
              let begun = piece_begins state t.0 w r again (no_end t.0 w is) in
              absurd (true≢false (sym (needs.begins state.mode state.depth t.0 w r begun is) ∙ ap has seam ∙ miss))

  scanned_is_other : (p : Scanned) (z : Text) → is_other_scan z p ≡ true → is_other (scanned_text p z) ≡ true
  scanned_is_other (Ok t) z is = is
  scanned_is_other (Err f) z is = refl

  found_is_other : (state : State) (z : Text) → has z ≡ false → is_other (found state z).scanned_text ≡ true
  unfolding found
  found_is_other state z miss =
      let len = trivia_len state.mode z in
      scanned_is_other (scan_token (after_trivia len state) (drop len z)) (drop len z) (scan_is_other (after_trivia len state) (drop len z) (without_dropped len z miss))

  cut_is_other : (left : ℕ) (state : State) (z : Text) → has z ≡ false → list_all (λ f. is_other f.scanned_text) (cut_from left state z) ≡ true
  cut_is_other left state [] miss = and_true (is_other (found state []).scanned_text) true (found_is_other state [] miss) refl
  cut_is_other (suc left) state (b ∷ z) miss = cut_is_other left state z (needs.more b z miss)
  cut_is_other zero state (b ∷ z) miss =
      let f = found state (b ∷ z) in
      cond_both (goes_on f.scanned_text) _ _ (λ fs. list_all (λ f. is_other f.scanned_text) fs ≡ true)
      (λ _. and_true (is_other f.scanned_text) _ (found_is_other state (b ∷ z) miss)
      (cut_is_other (f.trivia + len_of f.scanned_text - 1) (state_after_scan state f.scanned_text) z (needs.more b z miss)))
      (λ _. and_true (is_other f.scanned_text) true (found_is_other state (b ∷ z) miss) refl)

  -- of the pieces up to a fault
  none_among : (fs : List Found) → list_all (λ f. is_other f.scanned_text) fs ≡ true
      → list_any is_such (filter is_before_end (ok_prefix (map (λ f. f.scanned_text) fs))) ≡ false
  none_among [] all = refl
  none_among (f ∷ fs) all = go f.scanned_text (and_parts (is_other f.scanned_text) _ all).0 (none_among fs (and_parts (is_other f.scanned_text) _ all).1)
    where
      rest : List (ℕ × Text)
      rest = filter is_before_end (ok_prefix (map (λ f. f.scanned_text) fs))

      go : (p : ScannedText) → is_other p ≡ true → list_any is_such rest ≡ false
          → list_any is_such (filter is_before_end (ok_prefix (p ∷ map (λ f. f.scanned_text) fs))) ≡ false
      go (Err f) is none = refl
      go (Ok t) is none =
          cond_both (is_before_end t) _ _ (λ ts. list_any is_such ts ≡ false) (λ _. ap (λ a. a || list_any is_such rest) (is_no (is_such t) is) ∙ none) (λ _. none)

  pub none_such : (s : Text) → has s ≡ false → list_any is_such (tokens_up_to_fault s) ≡ false
  unfolding cut
  none_such s miss = none_among (cut start s) (cut_is_other 0 start s miss)
