-- The tokens of a text are in order, and none of them is empty.
use Rattle.std.proofs.Common.{◌≡◌, ℕ, ◌+◌, ◌<◌, ◌≤◌, Bool, true, false, cond, List, [], ◌∷◌, ◌++◌, length, drop, filter, Result, Ok, Err, refl, sym, ap, ◌∙◌, subst, arith, length-drop, length-take-le}
use Rattle.std.specs.Prelude.{◌==◌, not}
use Rattle.std.specs.Result.{ok_prefix}
use Rattle.std.proofs.lemmas.Bool.{cond_both, eqb-false, not-true}
use Rattle.std.proofs.lemmas.List.{drop-drop}
use Rattle.promql_text.specs.Texts.{Text}
use Rattle.promql_token.specs.declared.fault.LexFault.{LexFault}
use Rattle.promql_token.specs.declared.ids.TheConstants.{T_EOF}
use Rattle.promql_token.specs.declared.lexeme.Lexeme.{Lexeme}
use Rattle.promql_token.specs.declared.state.State.{State}
use Rattle.promql_token.specs.Lexing.{ScannedText, Found, cut, found, goes_on, item, items, len_of, place_items, scanned_text, start, state_after_scan}
use Rattle.promql_token.specs.TokenScanning.{Scanned, after_trivia, trivia_len}
use Rattle.promql_token.proofs.one_reading.Ends.{PieceEnds, piece_ends}
use Rattle.promql_token.proofs.one_reading.Steps.{cut_is, found_fits}
use Rattle.promql_token.proofs.cursors.TestsAndCounts.{by_bool}
use Rattle.promql_span.specs.PlacedTokens.{placed_tokens}
use Rattle.promql_span.specs.TokensLeft.{up_to_end}

-- ---- the end is the last of all items

abbrev before_end : List (Result Lexeme LexFault) → List Lexeme
before_end rs = filter (λ x. not (x.id == T_EOF)) (ok_prefix rs)

first_kept : (place : ℕ) (w : ScannedText) (more : List (Result Lexeme LexFault)) → (goes_on w ≡ true → up_to_end more ≡ before_end more) → (goes_on w ≡ false → more ≡ [])
    → up_to_end (item place w ∷ more) ≡ before_end (item place w ∷ more)
first_kept place (Err e) more kept stops = refl
first_kept place (Ok t) more kept stops =
    let x : Lexeme = record { id = t.0; start = place; len = length t.1 } in
    by_bool (t.0 == T_EOF)
    (λ end. ap (λ (b : Bool). cond b [] (x ∷ up_to_end more)) end ∙ sym (ap (λ (b : Bool). cond (not b) (x ∷ before_end more) (before_end more)) end ∙ ap before_end (stops (ap not end))))
    (λ apart. ap (λ (b : Bool). cond b [] (x ∷ up_to_end more)) apart ∙ ap (λ l. x ∷ l) (kept (ap not apart)) ∙ sym (ap (λ (b : Bool). cond (not b) (x ∷ before_end more) (before_end more)) apart))

all_kept : (fs : List Found) (state : State) (z : Text) (at : ℕ) → cut state z ≡ fs → up_to_end (place_items at fs) ≡ before_end (place_items at fs)
all_kept [] state z at is = refl
all_kept (f ∷ fs) state z at is =
    let f0 = found state z in
    let head = sym is ∙ cut_is state z in
    let first : f ≡ f0 = cc in
    let next = state_after_scan state f0.scanned_text in
    let left = drop (f0.trivia + len_of f0.scanned_text) z in
    let rest : fs ≡ cond (goes_on f0.scanned_text) (cut next left) [] = cc in
    let rest_is : (b : Bool) → goes_on f.scanned_text ≡ b → fs ≡ cond b (cut next left) [] =
    λ b is_b. rest ∙ ap (λ b. cond b (cut next left) []) (sym (ap (λ g. goes_on g.scanned_text) first) ∙ is_b) in
    let there : ℕ = at + f.trivia + len_of f.scanned_text in
    first_kept (at + f.trivia) f.scanned_text (place_items there fs)
    (λ goes. all_kept fs next left there (sym (rest_is true goes)))
    (λ stops. ap (place_items there) (rest_is false stops))

pub placed_is : (s : Text) → up_to_end (items s) ≡ placed_tokens s
placed_is s = all_kept (cut start s) start s 0 refl

-- ---- order

-- from `at` on, tokens are in order up to `len`, and none is empty
abbrev pub AreOrdered : ℕ → ℕ → List Lexeme → Type 0
AreOrdered len at [] = Unit {0}
AreOrdered len at (x ∷ xs) = (at ≤ x.start) × (0 < x.len) × (x.start + x.len ≤ len) × AreOrdered len (x.start + x.len) xs

-- ---- the tokens of a text

piece_moves : (z : Text) (p : Scanned) → PieceEnds z p → goes_on (scanned_text p z) ≡ true → 0 < len_of (scanned_text p z)
piece_moves z (Ok t) e goes =
    let within = e.0.within in
    let moves = e.1 (eqb-false _ _ (not-true _ goes)) in
    let len = length-take-le t.1 z within in
    omega arith
piece_moves z (Err f) e goes = let no : false ≡ true = goes in cc

found_moves : (state : State) (z : Text) → goes_on (found state z).scanned_text ≡ true → 0 < len_of (found state z).scanned_text
unfolding found
found_moves state z =
    let g = trivia_len state.mode z in
    piece_moves (drop g z) _ (piece_ends (after_trivia g state) (drop g z))

first_ordered : (s : Text) (at g : ℕ) (w : ScannedText) (fs : List Found) → at ≤ length s → g + len_of w ≤ length (drop at s) → (goes_on w ≡ true → 0 < len_of w)
    → (goes_on w ≡ true → AreOrdered (length s) (at + g + len_of w) (up_to_end (place_items (at + g + len_of w) fs)))
    → AreOrdered (length s) at (up_to_end (item (at + g) w ∷ place_items (at + g + len_of w) fs))
first_ordered s at g (Err e) fs within fits moves more = tt
first_ordered s at g (Ok t) fs within fits moves more =
    cond_both (t.0 == 6) _ _ (AreOrdered (length s) at)
    (λ end. tt)
    (λ apart. let goes : not (t.0 == 6) ≡ true = ap not apart in (omega arith, moves goes, omega (arith, length-drop at s), more goes))

all_ordered : (s : Text) (fs : List Found) (state : State) (at : ℕ) → at ≤ length s → cut state (drop at s) ≡ fs → AreOrdered (length s) at (up_to_end (place_items at fs))
all_ordered s [] state at within is = tt
all_ordered s (f ∷ fs) state at within is =
    let z = drop at s in
    let f0 = found state z in
    let head = sym is ∙ cut_is state z in
    let first : f ≡ f0 = cc in
    let rest : fs ≡ cond (goes_on f0.scanned_text) (cut (state_after_scan state f0.scanned_text) (drop (f0.trivia + len_of f0.scanned_text) z)) [] = cc in
    let fits : f.trivia + len_of f.scanned_text ≤ length z = subst (λ g. g.trivia + len_of g.scanned_text ≤ length z) (sym first) (found_fits state z).0 in
    let there : ℕ = at + f.trivia + len_of f.scanned_text in
    let at_rest : drop there s ≡ drop (f0.trivia + len_of f0.scanned_text) z =
    let e : at + f0.trivia + len_of f0.scanned_text ≡ at + (f0.trivia + len_of f0.scanned_text) = omega arith in
    ap (λ h. drop (at + h.trivia + len_of h.scanned_text) s) first ∙ ap (λ n. drop n s) e ∙ sym (drop-drop (f0.trivia + len_of f0.scanned_text) at s) in
    first_ordered s at f.trivia f.scanned_text fs within fits
    (subst (λ g. goes_on g.scanned_text ≡ true → 0 < len_of g.scanned_text) (sym first) (found_moves state z))
    (λ goes. all_ordered s fs (state_after_scan state f0.scanned_text) there (omega (arith, length-drop at s))
    (ap (cut (state_after_scan state f0.scanned_text)) at_rest ∙ sym (rest ∙ ap (λ b. cond b (cut (state_after_scan state f0.scanned_text) (drop (f0.trivia + len_of f0.scanned_text) z)) []) (sym (ap (λ g. goes_on g.scanned_text) first) ∙ goes))))

pub ordered : (s : Text) → AreOrdered (length s) 0 (placed_tokens s)
ordered s = subst (AreOrdered (length s) 0) (placed_is s) (all_ordered s (cut start s) start 0 (omega arith) refl)

-- ---- what follows from order

-- tokens are no more than bytes
pub ordered_fit : (len at : ℕ) (xs : List Lexeme) → at ≤ len → AreOrdered len at xs → at + length xs ≤ len
ordered_fit len at [] within o = omega arith
ordered_fit len at (x ∷ xs) within o =
    let from : at ≤ x.start = o.0 in
    let some : 0 < x.len = o.1 in
    let rest = ordered_fit len (x.start + x.len) xs o.2 o.3 in
    omega arith

pub tokens_fit : (s : Text) → length (placed_tokens s) ≤ length s
tokens_fit s = let fit = ordered_fit (length s) 0 (placed_tokens s) (omega arith) (ordered s) in omega arith

-- the later tokens are in order too
pub ordered_after : (len at : ℕ) (before xs : List Lexeme) → AreOrdered len at (before ++ xs) → (from : ℕ) × AreOrdered len from xs
ordered_after len at [] xs o = (at, o)
ordered_after len at (x ∷ before) xs o = ordered_after len (x.start + x.len) before xs o.3
