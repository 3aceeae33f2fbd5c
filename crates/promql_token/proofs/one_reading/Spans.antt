-- Where the tokens of a text are.
use Rattle.std.proofs.Common.{◌≡◌, ℕ, suc, ◌+◌, ◌-◌, ◌≤◌, Bool, true, false, cond, List, [], ◌∷◌, length, take, drop, map, Result, Ok, Err, refl, sym, ap, ◌∙◌, subst, arith, zero-add, length-drop, length-take-le}
use Rattle.std.specs.Prelude.{◌==◌, not}
use Rattle.std.specs.Char.{is_ascii_whitespace}
use Rattle.std.specs.List.{prefix_len}
use Rattle.std.proofs.lemmas.Bool.{cond_both}
use Rattle.std.proofs.lemmas.Grind.{common_steps}
use Rattle.std.proofs.lemmas.List.{drop-drop}
use Rattle.promql_token.specs.declared.fault.LexFault.{LexFault}
use Rattle.promql_token.specs.declared.lexeme.Lexeme.{Lexeme}
use Rattle.promql_token.specs.declared.state.Mode.{Mode}
use Rattle.promql_token.specs.declared.state.Mode.TheVariants as mode
use Rattle.promql_token.specs.declared.state.State.{State}
use Rattle.promql_text.specs.Texts.{Text}
use Rattle.promql_token.specs.Laws.{IsTrivia, InOrder, Spans, Lexes}
use Rattle.promql_token.specs.Lexing.{ScannedText, Found, scanned_text, cut, found, goes_on, state_after_scan, len_of, start, lex, result_texts, collect_items, place_items, item, with_front, slice_texts}
use Rattle.promql_token.specs.TokenScanning.{Scanned, scan_token, trivia_len, trivia_from, is_line_end, after_trivia}
use Rattle.promql_token.proofs.one_reading.Ends.{PieceEnds, piece_ends}
use Rattle.promql_token.proofs.one_reading.Steps.{cut_is, found_fits}

-- ---- trivia

trivia_take : (c : Bool) (z : Text) → trivia_from c (take (trivia_from c z) z) ≡ trivia_from c z
trivia_take c [] = refl
trivia_take true (b ∷ z) = ap suc (trivia_take (not (is_line_end b)) z)
trivia_take false (b ∷ z) =
    cond_both (b == 35) _ _ (λ n. trivia_from false (take n (b ∷ z)) ≡ n)
    (λ hash. ap (λ c. cond c (suc (trivia_from true (take (trivia_from true z) z))) (cond (is_ascii_whitespace b) (suc (trivia_from false (take (trivia_from true z) z))) 0)) hash ∙ ap suc (trivia_take true z))
    (λ hash. cond_both (is_ascii_whitespace b) _ _ (λ n. trivia_from false (take n (b ∷ z)) ≡ n)
    (λ space. ap (λ c. cond c (suc (trivia_from true (take (trivia_from false z) z))) (cond (is_ascii_whitespace b) (suc (trivia_from false (take (trivia_from false z) z))) 0)) hash
    ∙ ap (λ c. cond c (suc (trivia_from false (take (trivia_from false z) z))) 0) space ∙ ap suc (trivia_take false z))
    (λ _. refl))

no_hash : (b : ℕ) → is_ascii_whitespace b ≡ true → (b == 35) ≡ false
no_hash b h = grind (arith, common_steps)

white_take : (z : Text) → trivia_from false (take (prefix_len is_ascii_whitespace z) z) ≡ prefix_len is_ascii_whitespace z
white_take [] = refl
white_take (b ∷ z) =
    cond_both (is_ascii_whitespace b) _ _ (λ n. trivia_from false (take n (b ∷ z)) ≡ n)
    (λ white.
    let n = prefix_len is_ascii_whitespace z in
    let e : 1 + n ≡ suc n = omega arith in
    ap (λ k. trivia_from false (take k (b ∷ z))) e
    ∙ ap (λ c. cond c (suc (trivia_from true (take n z))) (cond (is_ascii_whitespace b) (suc (trivia_from false (take n z))) 0)) (no_hash b white)
    ∙ ap (λ c. cond c (suc (trivia_from false (take n z))) 0) white ∙ ap suc (white_take z) ∙ sym e)
    (λ _. refl)

trivia_is_trivia : (z : Text) → trivia_from false z ≤ length z → IsTrivia (take (trivia_from false z) z)
trivia_is_trivia z fits = trivia_take false z ∙ sym (length-take-le (trivia_from false z) z fits)

white_is_trivia : (z : Text) → 0 + prefix_len is_ascii_whitespace z ≤ length z → IsTrivia (take (0 + prefix_len is_ascii_whitespace z) z)
white_is_trivia z fits =
    let n = prefix_len is_ascii_whitespace z in
    let within : n ≤ length z = omega arith in
    subst (λ k. IsTrivia (take k z)) (sym (zero-add n)) (white_take z ∙ sym (length-take-le n z within))

whole_trivia : (m : Mode) (z : Text) → trivia_len m z ≤ length z → IsTrivia (take (trivia_len m z) z)
unfolding trivia_len
whole_trivia mode.Outside z fits = trivia_is_trivia z fits
whole_trivia mode.Braces z fits = trivia_is_trivia z fits
whole_trivia (mode.Brackets inside) z fits = white_is_trivia z fits

-- ---- tokens

-- what a call of with_front took
pub front_ok : (x : Lexeme) (r : Result (List Lexeme) LexFault) (xs : List Lexeme) → with_front (x ∷ []) r ≡ Ok xs → (ys : List Lexeme) × (r ≡ Ok ys) × (x ∷ ys ≡ xs)
front_ok x (Ok ys) xs is = (ys, refl, cc)
front_ok x (Err e) xs is = cc

record IsRead (s : Text) (at : ℕ) (xs : List Lexeme) (ws : List ScannedText) : Type 0 where
  order : InOrder s at xs
  texts : map (λ t. Ok t) (slice_texts s xs) ≡ ws

piece_text_taken : (p : Scanned) (z : Text) (id : ℕ) (t : Text) → PieceEnds z p → scanned_text p z ≡ Ok (id, t) → t ≡ take (length t) z
piece_text_taken (Ok q) z id t e is =
    let pair : ◌≡◌ {A = ℕ × Text} (q.0, take q.1 z) (id, t) = cc in
    let same : take q.1 z ≡ t = ap (λ (p : ℕ × Text). p.1) pair in
    let len : q.1 ≡ length t = sym (length-take-le q.1 z e.0.within) ∙ ap length same in
    sym same ∙ ap (λ n. take n z) len
piece_text_taken (Err f) z id t e is = cc

-- what is known of a trivia and what comes after it
pub record Stands (s : Text) (at : ℕ) (f : Found) : Type 0 where
  pub trivia : IsTrivia (take f.trivia (drop at s))
  pub text : (id : ℕ) (t : Text) → f.scanned_text ≡ Ok (id, t) → t ≡ take (length t) (drop f.trivia (drop at s))
  pub fits : f.trivia + len_of f.scanned_text ≤ length (drop at s)

pub stands : (s : Text) (at : ℕ) (state : State) → Stands s at (found state (drop at s))
unfolding found
stands s at state =
    let z = drop at s in
    let n = trivia_len state.mode z in
    let fits = (found_fits state z).0 in
    record {
      trivia = whole_trivia state.mode z (omega (arith, fits));
      text = λ id t is. piece_text_taken (scan_token (after_trivia n state) (drop n z)) (drop n z) id t (piece_ends (after_trivia n state) (drop n z)) is;
      fits = fits;
    }

nothing : (s : Text) (at : ℕ) (fs : List Found) (ys : List Lexeme) → fs ≡ [] → collect_items (place_items at fs) ≡ Ok ys → IsRead s at ys (map (λ f. f.scanned_text) fs)
nothing s at [] [] none all = record { order = tt; texts = refl }
nothing s at [] (y ∷ ys) none all = cc
nothing s at (f ∷ fs) ys none all = cc

token_read : (s : Text) (at g : ℕ) (w : ScannedText) (fs : List Found) (xs : List Lexeme) → at ≤ length s → Stands s at (record { trivia = g; scanned_text = w })
    → ((ys : List Lexeme) → collect_items (place_items (at + g + len_of w) fs) ≡ Ok ys → IsRead s (at + g + len_of w) ys (map (λ f. f.scanned_text) fs))
    → collect_items (item (at + g) w ∷ place_items (at + g + len_of w) fs) ≡ Ok xs → IsRead s at xs (w ∷ map (λ f. f.scanned_text) fs)
token_read s at g (Err e) fs xs within st more all = cc
token_read s at g (Ok t) fs xs within st more all =
    let x : Lexeme = record { id = t.0; start = at + g; len = length t.1 } in
    let split = front_ok x (collect_items (place_items (at + g + length t.1) fs)) xs all in
    let r = more split.0 split.1 in
    let fits = st.fits in
    let z = drop at s in
    let back : at + g - at ≡ g = omega arith in
    subst (λ l. IsRead s at l (Ok t ∷ map (λ f. f.scanned_text) fs)) split.2 (record {
      order = (omega arith, subst (λ n. IsTrivia (take n z)) (sym back) st.trivia, omega (arith, length-drop at s), r.order);
      texts = λ i. Ok (t.0, (ap (take (length t.1)) (sym (drop-drop g at s)) ∙ sym (st.text t.0 t.1 refl)) i) ∷ r.texts i;
    })

collected_spans : (s : Text) (fs : List Found) (state : State) (at : ℕ) (xs : List Lexeme) → at ≤ length s → cut state (drop at s) ≡ fs → collect_items (place_items at fs) ≡ Ok xs → IsRead s at xs (map (λ f. f.scanned_text) fs)
collected_spans s [] state at xs within is all = let head = cut_is state (drop at s) in cc
collected_spans s (f ∷ fs) state at xs within is all =
    let z = drop at s in
    let f0 = found state z in
    let head = sym is ∙ cut_is state z in
    let first : f ≡ f0 = cc in
    let rest : fs ≡ cond (goes_on f0.scanned_text) (cut (state_after_scan state f0.scanned_text) (drop (f0.trivia + len_of f0.scanned_text) z)) [] = cc in
    let st = subst (λ f. Stands s at f) (sym first) (stands s at state) in
    let fits = st.fits in
    let here : ℕ = at + f.trivia + len_of f.scanned_text in
    let at_rest : drop here s ≡ drop (f0.trivia + len_of f0.scanned_text) z =
    let e : at + f0.trivia + len_of f0.scanned_text ≡ at + (f0.trivia + len_of f0.scanned_text) = omega arith in
    ap (λ h. drop (at + h.trivia + len_of h.scanned_text) s) first ∙ ap (λ n. drop n s) e ∙ sym (drop-drop (f0.trivia + len_of f0.scanned_text) at s) in
    token_read s at f.trivia f.scanned_text fs xs within st
    (elim (goes_on f0.scanned_text) as (λ b. fs ≡ cond b (cut (state_after_scan state f0.scanned_text) (drop (f0.trivia + len_of f0.scanned_text) z)) [] → (ys : List Lexeme) → collect_items (place_items here fs) ≡ Ok ys → IsRead s here ys (map (λ f. f.scanned_text) fs)) [
      | true ↦ λ e ys all. collected_spans s fs (state_after_scan state f0.scanned_text) here ys (omega (arith, length-drop at s)) (ap (cut (state_after_scan state f0.scanned_text)) at_rest ∙ sym e) all
      | false ↦ λ e ys all. nothing s here fs ys e all
    ] rest)
    all

pub spans : Spans
unfolding lex
spans s xs is = let r = collected_spans s (cut start s) start 0 xs (omega arith) refl is in (r.order, sym r.texts)

-- ---- texts whose pieces are all tokens

all_ok : (fs : List Found) (at : ℕ) (ts : List (ℕ × Text)) → map (λ f. f.scanned_text) fs ≡ map (λ t. Ok t) ts → (xs : List Lexeme) × (collect_items (place_items at fs) ≡ Ok xs)
all_ok [] at ts is = ([], refl)
all_ok (f ∷ fs) at [] is = cc
all_ok (f ∷ fs) at (t ∷ ts) is =
    let first : f.scanned_text ≡ Ok t = cc in
    let rest : map (λ f. f.scanned_text) fs ≡ map (λ t. Ok t) ts = cc in
    let more = all_ok fs (at + f.trivia + len_of f.scanned_text) ts rest in (
      record { id = t.0; start = at + f.trivia; len = length t.1 } ∷ more.0,
      ap (λ w. collect_items (item (at + f.trivia) w ∷ place_items (at + f.trivia + len_of f.scanned_text) fs)) first ∙ ap (with_front (record { id = t.0; start = at + f.trivia; len = length t.1 } ∷ [])) more.1,
    )

-- tokens are told apart by their list of readings
same_tokens : (ts us : List (ℕ × Text)) → ◌≡◌ {A = List ScannedText} (map (λ t. Ok t) ts) (map (λ t. Ok t) us) → ts ≡ us
same_tokens [] [] is = refl
same_tokens [] (u ∷ us) is = cc
same_tokens (t ∷ ts) [] is = cc
same_tokens (t ∷ ts) (u ∷ us) is =
    let first : t ≡ u = cc in
    let rest : ◌≡◌ {A = List ScannedText} (map (λ t. Ok t) ts) (map (λ t. Ok t) us) = cc in
    λ i. first i ∷ same_tokens ts us rest i

pub lexes : Lexes
unfolding lex
lexes s ts is =
    let all = all_ok (cut start s) 0 ts is in
    let same = same_tokens (slice_texts s all.0) ts (sym (spans s all.0 all.1).1 ∙ is) in
    ap (result_texts s) all.1 ∙ ap (λ us. Ok us) same
