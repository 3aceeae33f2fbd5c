-- Trivia is passed comment by comment.
use Rattle.std.proofs.Common.{◌≡◌, ℕ, suc, ◌+◌, true, false, cond, [], ◌∷◌, drop, refl, sym, ap, ◌∙◌, subst, zero-add, arith}
use Rattle.std.specs.Prelude.{◌==◌, not}
use Rattle.std.specs.Char.{is_ascii_whitespace}
use Rattle.std.specs.List.{prefix_len}
use Rattle.std.proofs.lemmas.Bool.{cond_both}
use Rattle.std.proofs.lemmas.Grind.{common_steps}
use Rattle.std.proofs.lemmas.List.{drop-drop}
use Rattle.promql_token.specs.declared.state.State.{State}
use Rattle.promql_text.specs.Texts.{Text}
use Rattle.promql_token.specs.Lexing.{cut, found, goes_on, item, len_of, place_items, scanned_text, state_after_scan}
use Rattle.promql_token.specs.TextTokens.{line_len}
use Rattle.promql_token.specs.TokenScanning.{after_trivia, is_line_end, mode_after_something, scan_token, trivia_from, trivia_len}
use Rattle.promql_token.specs.Vocabulary.{next}
use Rattle.promql_token.proofs.one_reading.Steps.{cut_is, same_state}

no_hash : (b : ℕ) → is_ascii_whitespace b ≡ true → (b == 35) ≡ false
no_hash b h = grind (arith, common_steps)

line_end_is_white : (b : ℕ) → not (is_line_end b) ≡ false → is_ascii_whitespace b ≡ true
line_end_is_white b h = grind (arith, common_steps)

one_white : (b : ℕ) (z : Text) → is_ascii_whitespace b ≡ true → trivia_from false (b ∷ z) ≡ suc (trivia_from false z)
one_white b z white =
    ap (λ c. cond c (suc (trivia_from true z)) (cond (is_ascii_whitespace b) (suc (trivia_from false z)) 0)) (no_hash b white) ∙ ap (λ c. cond c (suc (trivia_from false z)) 0) white

-- white space, and what follows it
pub white_front : (z : Text) → trivia_from false z ≡ prefix_len is_ascii_whitespace z + trivia_from false (drop (prefix_len is_ascii_whitespace z) z)
white_front [] = refl
white_front (b ∷ z) =
    cond_both (is_ascii_whitespace b) _ _ (λ n. trivia_from false (b ∷ z) ≡ n + trivia_from false (drop n (b ∷ z)))
    (λ white.
    let n = prefix_len is_ascii_whitespace z in
    let one : 1 + n ≡ suc n = omega arith in
    let same : suc (n + trivia_from false (drop n z)) ≡ suc n + trivia_from false (drop n z) = omega arith in
    one_white b z white ∙ ap suc (white_front z) ∙ same ∙ ap (λ k. k + trivia_from false (drop k (b ∷ z))) (sym one))
    (λ _. sym (zero-add (trivia_from false (b ∷ z))))

-- the rest of a line in a comment, and what follows it
line_front : (z : Text) → trivia_from true z ≡ line_len z + trivia_from false (drop (line_len z) z)
line_front [] = refl
line_front (b ∷ z) =
    cond_both (not (is_line_end b)) _ _ (λ n. trivia_from true (b ∷ z) ≡ n + trivia_from false (drop n (b ∷ z)))
    (λ inside.
    let n = line_len z in
    let one : 1 + n ≡ suc n = omega arith in
    let same : suc (n + trivia_from false (drop n z)) ≡ suc n + trivia_from false (drop n z) = omega arith in
    ap (λ c. suc (trivia_from c z)) inside ∙ ap suc (line_front z) ∙ same ∙ ap (λ k. k + trivia_from false (drop k (b ∷ z))) (sym one))
    (λ end. ap (λ c. suc (trivia_from c z)) end ∙ sym (one_white b z (line_end_is_white b end)) ∙ sym (zero-add (trivia_from false (b ∷ z))))

-- a comment, and what follows it
pub comment_front : (z : Text) → (next z == 35) ≡ true → trivia_from false z ≡ line_len z + trivia_from false (drop (line_len z) z)
comment_front [] hash = absurd (cc)
comment_front (b ∷ z) hash =
    let b_is : 35 ≡ b = grind (arith, common_steps) in
    let n = line_len z in
    let one : 1 + n ≡ suc n = omega arith in
    let same : suc (n + trivia_from false (drop n z)) ≡ suc n + trivia_from false (drop n z) = omega arith in
    let is : trivia_from false (35 ∷ z) ≡ line_len (35 ∷ z) + trivia_from false (drop (line_len (35 ∷ z)) (35 ∷ z)) =
    ap suc (line_front z) ∙ same ∙ ap (λ k. k + trivia_from false (drop k (35 ∷ z))) (sym one) in
    subst (λ b. trivia_from false (b ∷ z) ≡ line_len (b ∷ z) + trivia_from false (drop (line_len (b ∷ z)) (b ∷ z))) b_is is

-- the items of a text are those past a part of its trivia
pub items_past : (s : Text) (at n : ℕ) (state : State) → mode_after_something state.mode ≡ state.mode → trivia_len state.mode (drop at s) ≡ n + trivia_len state.mode (drop (at + n) s)
    → place_items at (cut state (drop at s)) ≡ place_items (at + n) (cut state (drop (at + n) s))
unfolding found
items_past s at n state same trivia =
    let z = drop at s in
    let z2 = drop (at + n) s in
    let f = found state z in
    let g = found state z2 in
    let there : at + f.trivia ≡ at + n + g.trivia = omega (arith, trivia) in
    let front : drop f.trivia z ≡ drop g.trivia z2 = drop-drop f.trivia at s ∙ ap (λ k. drop k s) there ∙ sym (drop-drop g.trivia (at + n) s) in
    let states : after_trivia f.trivia state ≡ after_trivia g.trivia state = same_state f.trivia state same ∙ sym (same_state g.trivia state same) in
    let scanned : f.scanned_text ≡ g.scanned_text = λ i. scanned_text (scan_token (states i) (front i)) (front i) in
    let ends : at + (f.trivia + len_of f.scanned_text) ≡ at + n + (g.trivia + len_of g.scanned_text) = omega (arith, trivia, ap len_of scanned) in
    let rest : drop (f.trivia + len_of f.scanned_text) z ≡ drop (g.trivia + len_of g.scanned_text) z2 =
    drop-drop (f.trivia + len_of f.scanned_text) at s ∙ ap (λ k. drop k s) ends ∙ sym (drop-drop (g.trivia + len_of g.scanned_text) (at + n) s) in
    ap (place_items at) (cut_is state z)
    ∙ (λ i. item (there i) (scanned i) ∷ place_items (there i + len_of (scanned i)) (cond (goes_on (scanned i)) (cut (state_after_scan state (scanned i)) (rest i)) []))
    ∙ sym (ap (place_items (at + n)) (cut_is state z2))
