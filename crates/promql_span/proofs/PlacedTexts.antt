-- The tokens with their places are the tokens that a cursor gives.
use Rattle.std.proofs.Common.{◌≡◌, ℕ, ◌+◌, ◌≤◌, Bool, true, false, cond, List, [], ◌∷◌, length, drop, filter, map, take, Result, Ok, Err, refl, sym, ap, ◌∙◌, subst, arith, length-drop}
use Rattle.std.specs.Prelude.{◌==◌, not}
use Rattle.std.proofs.lemmas.List.{drop-drop}
use Rattle.promql_text.specs.Texts.{Text}
use Rattle.promql_token.specs.declared.fault.LexFault.{LexFault}
use Rattle.promql_token.specs.declared.lexeme.Lexeme.{Lexeme}
use Rattle.promql_token.specs.declared.state.State.{State}
use Rattle.std.specs.Result.{ok_prefix}
use Rattle.promql_token.specs.Cursor.{is_before_end}
use Rattle.promql_token.specs.Lexing.{ScannedText, Found, cut, found, goes_on, item, len_of, lex, place_items, result_texts, slice_texts, start, state_after_scan, text_at}
use Rattle.promql_token.proofs.one_reading.Spans.{spans, stands}
use Rattle.promql_token.proofs.one_reading.Steps.{cut_is, found_fits}
use Rattle.promql_token.proofs.cursors.TestsAndCounts.{by_bool}
use Rattle.promql_span.specs.PlacedTokens.{placed_tokens}
use Rattle.promql_span.specs.TokensPlaced.{PiecesArePlaced, TokensArePlaced}
use Rattle.promql_span.specs.TokensLeft.{up_to_end}
use Rattle.promql_span.proofs.OrderedTokens.{placed_is}

abbrev texts_of : List Found → List (ℕ × Text)
texts_of fs = filter is_before_end (ok_prefix (map (λ f. f.scanned_text) fs))

first_text : (s : Text) (at g : ℕ) (w : ScannedText) (fs : List Found)
    → ((id : ℕ) (t : Text) → w ≡ Ok (id, t) → t ≡ take (length t) (drop g (drop at s)))
    → (goes_on w ≡ true → texts_of fs ≡ slice_texts s (up_to_end (place_items (at + g + len_of w) fs)))
    → (goes_on w ≡ false → fs ≡ [])
    → texts_of (record { trivia = g; scanned_text = w } ∷ fs) ≡ slice_texts s (up_to_end (item (at + g) w ∷ place_items (at + g + len_of w) fs))
first_text s at g (Err e) fs text more stops = refl
first_text s at g (Ok t) fs text more stops =
    let x : Lexeme = record { id = t.0; start = at + g; len = length t.1 } in
    let rest = up_to_end (place_items (at + g + length t.1) fs) in
    by_bool (t.0 == 6)
    (λ end.
    ap (λ (b : Bool). cond (not b) (t ∷ texts_of fs) (texts_of fs)) end ∙ ap texts_of (stops (ap not end))
    ∙ sym (ap (λ (b : Bool). slice_texts s (cond b [] (x ∷ rest))) end))
    (λ apart.
    let here : t.1 ≡ text_at s x = text t.0 t.1 refl ∙ ap (take (length t.1)) (drop-drop g at s) in
    let after_it = more (ap not apart) in
    ap (λ (b : Bool). cond (not b) (t ∷ texts_of fs) (texts_of fs)) apart ∙ (λ i. (t.0, here i) ∷ after_it i)
    ∙ sym (ap (λ (b : Bool). slice_texts s (cond b [] (x ∷ rest))) apart))

all_texts : (s : Text) (fs : List Found) (state : State) (at : ℕ) → at ≤ length s → cut state (drop at s) ≡ fs → texts_of fs ≡ slice_texts s (up_to_end (place_items at fs))
all_texts s [] state at within is = refl
all_texts s (f ∷ fs) state at within is =
    let z = drop at s in
    let f0 = found state z in
    let head = sym is ∙ cut_is state z in
    let first : f ≡ f0 = cc in
    let rest : fs ≡ cond (goes_on f0.scanned_text) (cut (state_after_scan state f0.scanned_text) (drop (f0.trivia + len_of f0.scanned_text) z)) [] = cc in
    let fits : f.trivia + len_of f.scanned_text ≤ length z = subst (λ g. g.trivia + len_of g.scanned_text ≤ length z) (sym first) (found_fits state z).0 in
    let there : ℕ = at + f.trivia + len_of f.scanned_text in
    let at_rest : drop there s ≡ drop (f0.trivia + len_of f0.scanned_text) z =
    let e : at + f0.trivia + len_of f0.scanned_text ≡ at + (f0.trivia + len_of f0.scanned_text) = omega arith in
    ap (λ h. drop (at + h.trivia + len_of h.scanned_text) s) first ∙ ap (λ n. drop n s) e ∙ sym (drop-drop (f0.trivia + len_of f0.scanned_text) at s) in
    let st = stands s at state in
    let rest_is : (b : Bool) → goes_on f.scanned_text ≡ b → fs ≡ cond b (cut (state_after_scan state f0.scanned_text) (drop (f0.trivia + len_of f0.scanned_text) z)) [] =
    λ b is_b. rest ∙ ap (λ b. cond b (cut (state_after_scan state f0.scanned_text) (drop (f0.trivia + len_of f0.scanned_text) z)) []) (sym (ap (λ g. goes_on g.scanned_text) first) ∙ is_b) in
    first_text s at f.trivia f.scanned_text fs
    (subst (λ (g : Found). (id : ℕ) (t : Text) → g.scanned_text ≡ Ok (id, t) → t ≡ take (length t) (drop g.trivia (drop at s))) (sym first) st.text)
    (λ goes. all_texts s fs (state_after_scan state f0.scanned_text) there (omega (arith, length-drop at s)) (ap (cut (state_after_scan state f0.scanned_text)) at_rest ∙ sym (rest_is true goes)))
    (λ stops. rest_is false stops)

pub pieces_placed : PiecesArePlaced
pieces_placed s = all_texts s (cut start s) start 0 (omega arith) refl ∙ ap (slice_texts s) (placed_is s)

-- ---- the token list

abbrev scanned : List (ℕ × Text) → List ScannedText
scanned ts = map (λ t. Ok t) ts

up_to_none : (ts : List (ℕ × Text)) → ok_prefix (scanned ts) ≡ ts
up_to_none [] = refl
up_to_none (t ∷ ts) = ap (λ l. t ∷ l) (up_to_none ts)

tokens_of : (s : Text) (r : Result (List Lexeme) LexFault) (ts : List (ℕ × Text)) → lex s ≡ r → result_texts s r ≡ Ok ts → filter is_before_end ts ≡ slice_texts s (placed_tokens s)
tokens_of s (Ok xs) ts is list =
    let same : slice_texts s xs ≡ ts = cc in
    let all = (spans s xs is).1 in
    ap (filter is_before_end) (sym (ap ok_prefix all ∙ up_to_none (slice_texts s xs) ∙ same)) ∙ pieces_placed s
tokens_of s (Err f) ts is list = cc

pub tokens_placed : TokensArePlaced
tokens_placed s ts is = tokens_of s (lex s) ts refl is
