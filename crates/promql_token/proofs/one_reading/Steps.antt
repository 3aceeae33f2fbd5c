-- The cut of a text is its first token and the cut of what is after it.
use Rattle.std.proofs.Common.{◌≡◌, ℕ, suc, ◌+◌, ◌<◌, ◌≤◌, Bool, true, false, cond, [], ◌∷◌, ◌++◌, length, drop, map, Ok, Err, refl, sym, ap, ◌∙◌, zero-add, arith, length-drop, length-take-le}
use Rattle.std.specs.Prelude.{◌==◌, not}
use Rattle.std.specs.Char.{is_ascii_whitespace}
use Rattle.std.specs.List.{list_all}
use Rattle.std.proofs.lemmas.Grind.{common_steps}
use Rattle.std.proofs.Math.Seq.{take-append_seam, drop-append_seam}
use Rattle.std.proofs.lemmas.Bool.{cond_both, eqb-false}
use Rattle.promql_token.specs.declared.state.Mode.{Mode}
use Rattle.promql_token.specs.declared.state.Mode.TheVariants as mode
use Rattle.promql_token.specs.declared.state.State.{State}
use Rattle.promql_text.specs.Texts.{Text}
use Rattle.promql_token.specs.Lexing.{pieces, cut, found, goes_on, state_after_scan, len_of, scanned_text, start}
use Rattle.promql_token.specs.TokenScanning.{Scanned, trivia_len, trivia_from, scan_token, after_trivia, after, mode_after_something}
use Rattle.promql_token.proofs.one_reading.CutSteps.{cut_goes, cut_stops}
use Rattle.promql_token.proofs.one_reading.Ends.{PieceEnds, piece_ends}
use Rattle.promql_token.proofs.one_reading.Places.{trivia_len_ends}
use Rattle.promql_token.specs.declared.ids.TheConstants.{T_EOF}

pub not_true : (b : Bool) → not b ≡ true → b ≡ false
not_true true h = sym h
not_true false h = refl

piece_text_fits : (z : Text) (p : Scanned) → PieceEnds z p → (len_of (scanned_text p z) ≤ length z) × (goes_on (scanned_text p z) ≡ true → 0 < len_of (scanned_text p z))
piece_text_fits z (Ok t) e =
    let within = e.0.within in
    let len = length-take-le t.1 z within in
    (omega arith, λ goes. let moves = e.1 (eqb-false _ _ (not_true _ goes)) in omega arith)
piece_text_fits z (Err f) e = (omega arith, λ (no : false ≡ true). cc)

pub found_fits : (state : State) (z : Text) → let f = found state z in (f.trivia + len_of f.scanned_text ≤ length z) × (goes_on f.scanned_text ≡ true → 1 ≤ f.trivia + len_of f.scanned_text)
unfolding found
found_fits state z =
    let trivia = trivia_len_ends state.mode z in
    let within = trivia.within in
    let g = trivia_len state.mode z in
    let fits = piece_text_fits (drop g z) _ (piece_ends (after_trivia g state) (drop g z)) in
    (omega (arith, fits.0, length-drop g z), λ goes. omega (arith, fits.1 goes))

pub cut_is : (state : State) (z : Text) → let f = found state z in cut state z ≡ f ∷ cond (goes_on f.scanned_text) (cut (state_after_scan state f.scanned_text) (drop (f.trivia + len_of f.scanned_text) z)) []
cut_is state z =
    let f = found state z in
    let fits = found_fits state z in
    elim (goes_on f.scanned_text) as (λ b. goes_on f.scanned_text ≡ b → cut state z ≡ f ∷ cond b (cut (state_after_scan state f.scanned_text) (drop (f.trivia + len_of f.scanned_text) z)) []) [
      | true ↦ λ goes. cut_goes state z goes (fits.1 goes) fits.0
      | false ↦ λ stops. cut_stops state z stops
    ] refl

-- ---- the same without the trivia

map_cond : (b : Bool) (state : State) (z : Text) → map (λ f. f.scanned_text) (cond b (cut state z) []) ≡ cond b (pieces state z) []
map_cond true state z = refl
map_cond false state z = refl

pub pieces_are : (state : State) (z : Text) → let f = found state z in pieces state z ≡ f.scanned_text ∷ cond (goes_on f.scanned_text) (pieces (state_after_scan state f.scanned_text) (drop (f.trivia + len_of f.scanned_text) z)) []
pieces_are state z = let f = found state z in ap (map (λ f. f.scanned_text)) (cut_is state z) ∙ ap (λ ws. f.scanned_text ∷ ws) (map_cond (goes_on f.scanned_text) (state_after_scan state f.scanned_text) (drop (f.trivia + len_of f.scanned_text) z))

-- no trivia leaves the state as it is
pub no_trivia_state : (state : State) → after_trivia 0 state ≡ state
unfolding after_trivia
no_trivia_state state = refl

-- a piece with no trivia before it
pub pieces_piece : (state : State) (w r : Text) (id : ℕ) → trivia_len state.mode (w ++ r) ≡ 0 → scan_token state (w ++ r) ≡ Ok (id, length w) → (id == T_EOF) ≡ false → pieces state (w ++ r) ≡ Ok (id, w) ∷ pieces (after state id) r
unfolding found
pieces_piece state w r id trivia is more =
    let z = w ++ r in
    let piece_text_is : (found state z).scanned_text ≡ Ok (id, w) =
    ap (λ n. scanned_text (scan_token (after_trivia n state) (drop n z)) (drop n z)) trivia ∙ ap (λ s. scanned_text (scan_token s z) z) (no_trivia_state state) ∙ ap (λ p. scanned_text p z) is ∙ ap (λ t. Ok (id, t)) (take-append_seam w r) in
    let goes : goes_on (Ok (id, w)) ≡ true = ap not more in
    pieces_are state z
    ∙ (λ i. piece_text_is i ∷ cond (goes_on (piece_text_is i)) (pieces (state_after_scan state (piece_text_is i)) (drop (trivia i + len_of (piece_text_is i)) z)) [])
    ∙ ap (λ b. Ok (id, w) ∷ cond b (pieces (after state id) (drop (0 + length w) z)) []) goes
    ∙ ap (λ n. Ok (id, w) ∷ pieces (after state id) (drop n z)) (zero-add (length w))
    ∙ ap (λ q. Ok (id, w) ∷ pieces (after state id) q) (drop-append_seam w r)

pub pieces_end : pieces start [] ≡ Ok (T_EOF, []) ∷ []
unfolding found trivia_len scan_token after_trivia cut
pieces_end = refl

-- ---- white space

no_hash : (b : ℕ) → is_ascii_whitespace b ≡ true → (b == 35) ≡ false
no_hash b h = grind (arith, common_steps)

from_white : (b : ℕ) (r : Text) → is_ascii_whitespace b ≡ true → trivia_from false (b ∷ r) ≡ suc (trivia_from false r)
from_white b r white =
    ap (λ c. cond c (suc (trivia_from true r)) (cond (is_ascii_whitespace b) (suc (trivia_from false r)) 0)) (no_hash b white) ∙ ap (λ c. cond c (suc (trivia_from false r)) 0) white

white_trivia : (m : Mode) (b : ℕ) (r : Text) → is_ascii_whitespace b ≡ true → trivia_len m (b ∷ r) ≡ suc (trivia_len m r)
unfolding trivia_len
white_trivia mode.Outside b r white = from_white b r white
white_trivia mode.Braces b r white = from_white b r white
white_trivia (mode.Brackets inside) b r white = rw white (omega arith)

-- a trivia changes no state but that directly after a bracket
pub same_state : (n : ℕ) (state : State) → mode_after_something state.mode ≡ state.mode → after_trivia n state ≡ state
unfolding after_trivia
same_state n state same = cond_both (n == 0) _ _ (λ s. s ≡ state) (λ _. refl) (λ _ i. record { depth = state.depth; mode = same i })

pieces_white : (state : State) (b : ℕ) (r : Text) → mode_after_something state.mode ≡ state.mode → is_ascii_whitespace b ≡ true → pieces state (b ∷ r) ≡ pieces state r
unfolding found
pieces_white state b r same white =
    let w = (found state r).scanned_text in
    let z = b ∷ r in
    let n = trivia_len state.mode r in
    let trivia = white_trivia state.mode b r white in
    let states = same_state (suc n) state same ∙ sym (same_state n state same) in
    let piece_text_is : (found state z).scanned_text ≡ w = ap (λ n. scanned_text (scan_token (after_trivia n state) (drop n z)) (drop n z)) trivia ∙ ap (λ s. scanned_text (scan_token s (drop n r)) (drop n r)) states in
    let one_more : suc n + len_of w ≡ suc (n + len_of w) = omega arith in
    pieces_are state z
    ∙ (λ i. piece_text_is i ∷ cond (goes_on (piece_text_is i)) (pieces (state_after_scan state (piece_text_is i)) (drop (trivia i + len_of (piece_text_is i)) z)) [])
    ∙ ap (λ n. w ∷ cond (goes_on w) (pieces (state_after_scan state w) (drop n z)) []) one_more ∙ sym (pieces_are state r)

pub pieces_run : (state : State) (g r : Text) → mode_after_something state.mode ≡ state.mode → list_all is_ascii_whitespace g ≡ true → pieces state (g ++ r) ≡ pieces state r
pieces_run state [] r same white = refl
pieces_run state (b ∷ g) r same white = pieces_white state b (g ++ r) same (grind (arith, common_steps, white)) ∙ pieces_run state g r same (grind (arith, common_steps, white))
