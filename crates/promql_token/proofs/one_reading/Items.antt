-- The item after the trivia at a place, and what is left after it.
use Rattle.std.proofs.Common.{◌≡◌, ◌≢◌, ℕ, ◌+◌, ◌-◌, ◌<◌, ◌≤◌, true, false, cond, [], ◌∷◌, length, take, drop, IsUtf8, Result, Ok, Err, refl, sym, ap, ◌∙◌, subst, arith, length-drop, length-take-le}
use Rattle.std.specs.Prelude.{◌==◌, not}
use Rattle.std.specs.Str.{IsCharBoundary}
use Rattle.std.proofs.lemmas.Bool.{eqb-false}
use Rattle.std.proofs.lemmas.List.{drop-drop, take_rest}
use Rattle.std.proofs.lemmas.Str.{IsCharBoundary-from_rest, IsUtf8-drop}
use Rattle.promql_token.specs.declared.fault.LexFault.{LexFault}
use Rattle.promql_token.specs.declared.fault.LexFaultKind.{LexFaultKind}
use Rattle.promql_token.specs.declared.lexeme.Lexeme.{Lexeme}
use Rattle.promql_token.specs.declared.state.State.{State}
use Rattle.promql_text.specs.Texts.{Text}
use Rattle.promql_token.specs.Lexing.{found, first, fault_char, scanned_text, item, place_items, ScannedText, len_of, goes_on, state_after_scan, cut}
use Rattle.promql_token.specs.TokenScanning.{Scanned, trivia_len, scan_token, after_trivia, after}
use Rattle.promql_token.proofs.one_reading.CutSteps.{cut_goes, cut_stops}
use Rattle.promql_token.proofs.one_reading.Ends.{PieceEnds, piece_ends}
use Rattle.promql_token.proofs.one_reading.Places.{Ends, boundary, trivia_len_ends}
use Rattle.promql_token.specs.declared.ids.TheConstants.{T_EOF}

pub ends_at : (t : Text) (i j : ℕ) → IsUtf8 t → IsCharBoundary t i → Ends (drop i t) j → IsCharBoundary t (i + j)
ends_at t i j u b e = IsCharBoundary-from_rest t i j b.0 (boundary (drop i t) j (IsUtf8-drop t i u b) e)

-- g bytes of trivia are at the place, and p is after them
pub record Here (text : Text) (at : ℕ) (state : State) (g : ℕ) (p : Scanned) : Type 0 where
  pub utf8 : IsUtf8 text
  pub place : IsCharBoundary text at
  pub trivia_is : g ≡ trivia_len state.mode (drop at text)
  pub piece_is : p ≡ scan_token (after_trivia g state) (drop (at + g) text)

-- as the code has it
pub here : (text bytes : Text) (at : ℕ) (state state2 : State) (g : ℕ) (p : Scanned) → IsUtf8 text → IsCharBoundary text at → bytes ≡ text
    → g ≡ trivia_len state.mode (take (length bytes - at) (drop at bytes)) → state2 ≡ after_trivia g state → p ≡ scan_token state2 (take (length bytes - (at + g)) (drop (at + g) bytes)) → Here text at state g p
here text bytes at state state2 g p u b same trivia_is state_is piece_is = record {
  utf8 = u;
  place = b;
  trivia_is = trivia_is ∙ ap (trivia_len state.mode) (take_rest bytes at) ∙ ap (λ s. trivia_len state.mode (drop at s)) same;
  piece_is = piece_is ∙ ap (scan_token state2) (take_rest bytes (at + g)) ∙ ap (λ s. scan_token state2 (drop (at + g) s)) same ∙ ap (λ q. scan_token q (drop (at + g) text)) state_is;
}

module _ {text : Text} {at : ℕ} {state : State} {g : ℕ} {p : Scanned} (h : Here text at state g p) where
  pub ends_here : IsCharBoundary text (at + g)
  ends_here = ends_at text at g h.utf8 h.place (subst (Ends (drop at text)) (sym h.trivia_is) (trivia_len_ends state.mode (drop at text)))

  ends : PieceEnds (drop (at + g) text) p
  ends = subst (PieceEnds (drop (at + g) text)) (sym h.piece_is) (piece_ends (after_trivia g state) (drop (at + g) text))

  found_is : found state (drop at text) ≡ record { trivia = g; scanned_text = scanned_text p (drop (at + g) text) }
  unfolding found
  found_is =
      let trivia = sym h.trivia_is in
      let rest : drop (trivia_len state.mode (drop at text)) (drop at text) ≡ drop (at + g) text = ap (λ n. drop n (drop at text)) trivia ∙ drop-drop g at text in
      let is : scan_token (after_trivia (trivia_len state.mode (drop at text)) state) (drop (trivia_len state.mode (drop at text)) (drop at text)) ≡ p =
      ap (λ n. scan_token (after_trivia n state) (drop n (drop at text))) trivia ∙ ap (scan_token (after_trivia g state)) (drop-drop g at text) ∙ sym h.piece_is in
      λ i. record { trivia = trivia i; scanned_text = scanned_text (is i) (rest i) }

  pub token_ends : (id len : ℕ) → p ≡ Ok (id, len) → Ends (drop (at + g) text) len × (id ≢ 6 → 0 < len)
  token_ends id len is = subst (PieceEnds (drop (at + g) text)) is ends

  pub token_place : (id len : ℕ) → p ≡ Ok (id, len) → IsCharBoundary text (at + g + len)
  token_place id len is = ends_at text (at + g) len h.utf8 ends_here (token_ends id len is).0

  pub fault_place : (kind : LexFaultKind) (offset : ℕ) → p ≡ Err (kind, offset) → IsCharBoundary text (at + g + offset)
  fault_place kind offset is = ends_at text (at + g) offset h.utf8 ends_here (subst (PieceEnds (drop (at + g) text)) is ends)

  pub token_value : (id len : ℕ) → p ≡ Ok (id, len) → Ok (record { id = id; start = at + g; len = len }) ≡ first at (found state (drop at text))
  token_value id len is =
      let e = (token_ends id len is).0 in
      let ok : ℕ → Result Lexeme LexFault = λ n. Ok (record { id = id; start = at + g; len = n }) in
      ap ok (sym (length-take-le len (drop (at + g) text) e.within))
      ∙ ap (λ q. item (at + g) (scanned_text q (drop (at + g) text))) (sym is)
      ∙ ap (first at) (sym found_is)

  pub fault_value : (kind : LexFaultKind) (offset : ℕ) → p ≡ Err (kind, offset)
      → Err (record { kind = kind; at = at + g + offset; ch = fault_char kind (drop (at + g + offset) text) }) ≡ first at (found state (drop at text))
  fault_value kind offset is =
      let err : Text → Result Lexeme LexFault = λ c. Err (record { kind = kind; at = at + g + offset; ch = fault_char kind c }) in
      ap err (sym (drop-drop offset (at + g) text))
      ∙ ap (λ q. item (at + g) (scanned_text q (drop (at + g) text))) (sym is)
      ∙ ap (first at) (sym found_is)

-- ---- what is left after an item

ok_is : (a b : Lexeme) (r : Result Lexeme LexFault) → r ≡ Ok a → r ≡ Ok b → a ≡ b
ok_is a b r e f = cc

pub record IsToken (at : ℕ) (w : ScannedText) (x : Lexeme) : Type 0 where
  pub start : x.start ≡ at
  pub len : len_of w ≡ x.len
  pub goes : goes_on w ≡ not (x.id == T_EOF)
  pub state : (s : State) → state_after_scan s w ≡ after s x.id

pub is_token : (at : ℕ) (w : ScannedText) (x : Lexeme) → item at w ≡ Ok x → IsToken at w x
is_token at (Ok t) x is = subst (IsToken at (Ok t)) (ok_is _ _ (item at (Ok t)) refl is) (record { start = refl; len = refl; goes = refl; state = λ s. refl })
is_token at (Err f) x is = cc

no_token : (at : ℕ) (w : ScannedText) (f : LexFault) → item at w ≡ Err f → goes_on w ≡ false
no_token at (Ok t) f is = cc
no_token at (Err e) f is = refl

pub left_token : (text : Text) (at : ℕ) (state : State) (x : Lexeme) → Ok x ≡ first at (found state (drop at text)) → at ≤ x.start → x.start + x.len ≤ length text → (x.id ≢ 6 → 0 < x.len)
    → place_items at (cut state (drop at text)) ≡ Ok x ∷ cond (x.id == T_EOF) [] (place_items (x.start + x.len) (cut (after state x.id) (drop (x.start + x.len) text)))
left_token text at state x is order fits moves =
    let z = drop at text in
    let f = found state z in
    let t = is_token (at + f.trivia) f.scanned_text x (sym is) in
    let start = t.start in
    let len = t.len in
    elim (x.id == T_EOF) as (λ b. (x.id == T_EOF) ≡ b → place_items at (cut state z) ≡ Ok x ∷ cond b [] (place_items (x.start + x.len) (cut (after state x.id) (drop (x.start + x.len) text)))) [
      | true ↦ λ end. ap (place_items at) (cut_stops state z (t.goes ∙ ap not end)) ∙ ap (λ i. i ∷ []) (sym is)
      | false ↦ λ more.
          let back : f.trivia + len_of f.scanned_text ≡ (x.start + x.len) - at = omega arith in
          let there : x.start + x.len ≡ at + f.trivia + len_of f.scanned_text = omega arith in
          let place : at + (f.trivia + len_of f.scanned_text) ≡ x.start + x.len = omega arith in
          let go = cut_goes state z (t.goes ∙ ap not more) (omega (arith, moves (eqb-false _ _ more))) (omega (arith, length-drop at text)) in
          ap (place_items at) go ∙ (λ i. (sym is) i ∷ place_items ((sym there) i) (cut (t.state state i) ((drop-drop (f.trivia + len_of f.scanned_text) at text ∙ ap (λ n. drop n text) place) i)))
    ] refl

pub left_fault : (z : Text) (at : ℕ) (state : State) (f : LexFault) (r : Result Lexeme LexFault) → r ≡ first at (found state z) → r ≡ Err f → place_items at (cut state z) ≡ r ∷ []
left_fault z at state f r is fault = ap (place_items at) (cut_stops state z (no_token _ _ f (sym is ∙ fault))) ∙ ap (λ i. i ∷ []) (sym is)
