-- What is cut off a text at its front.
use Rattle.std.proofs.Common.{◌≡◌, ℕ, zero, suc, ◌+◌, ◌-◌, ◌≤◌, true, false, [], ◌∷◌, length, drop, refl, ap, ◌∙◌, arith}
use Rattle.std.specs.Prelude.{◌==◌}
use Rattle.std.proofs.lemmas.Bool.{cond_both}
use Rattle.promql_token.specs.declared.state.Mode.{Mode}
use Rattle.promql_token.specs.declared.state.Mode.TheVariants as mode
use Rattle.promql_token.specs.declared.state.State.{State}
use Rattle.promql_text.specs.Texts.{Text}
use Rattle.promql_token.specs.Lexing.{found, cut, cut_from, len_of, goes_on, state_after_scan, scanned_text}
use Rattle.promql_token.specs.TokenScanning.{end_in, trivia_len, scan_token, after_trivia}

pub cut_from-drop : (left : ℕ) (state : State) (z : Text) → left ≤ length z → cut_from left state z ≡ cut state (drop left z)
unfolding cut
cut_from-drop zero state z h = refl
cut_from-drop (suc left) state [] h = absurd (omega arith)
cut_from-drop (suc left) state (b ∷ z) h = cut_from-drop left state z (omega arith)

pub drop_one_more : (n b : ℕ) (z : Text) → 1 ≤ n → drop (n - 1) z ≡ drop n (b ∷ z)
drop_one_more zero b z h = absurd (omega arith)
drop_one_more (suc n) b z h = let e : suc n - 1 ≡ n = omega arith in ap (λ k. drop k z) e

pub end_stops : (m : Mode) (depth : ℕ) → goes_on (scanned_text (end_in m depth) []) ≡ false
end_stops mode.Outside depth = cond_both (depth == 0) _ _ (λ p. goes_on (scanned_text p []) ≡ false) (λ _. refl) (λ _. refl)
end_stops mode.Braces depth = refl
end_stops (mode.Brackets inside) depth = refl

no_trivia : (m : Mode) → trivia_len m [] ≡ 0
unfolding trivia_len
no_trivia mode.Outside = refl
no_trivia mode.Braces = refl
no_trivia (mode.Brackets inside) = refl

nothing_after : (state : State) → goes_on (found state []).scanned_text ≡ false
unfolding found scan_token after_trivia
nothing_after state = rw (no_trivia state.mode) (end_stops state.mode state.depth)

-- a token, and the text after it
pub cut_goes : (state : State) (z : Text) → let f = found state z in goes_on f.scanned_text ≡ true → 1 ≤ f.trivia + len_of f.scanned_text → f.trivia + len_of f.scanned_text ≤ length z
    → cut state z ≡ f ∷ cut (state_after_scan state f.scanned_text) (drop (f.trivia + len_of f.scanned_text) z)
unfolding cut
cut_goes state [] goes moves fits = let no = nothing_after state in cc
cut_goes state (b ∷ z) goes moves fits =
    let f = found state (b ∷ z) in
    rw goes (ap (λ rest. f ∷ rest) (cut_from-drop (f.trivia + len_of f.scanned_text - 1) (state_after_scan state f.scanned_text) z (omega arith) ∙ ap (cut (state_after_scan state f.scanned_text)) (drop_one_more (f.trivia + len_of f.scanned_text) b z moves)))

-- the end or a fault
pub cut_stops : (state : State) (z : Text) → goes_on (found state z).scanned_text ≡ false → cut state z ≡ found state z ∷ []
unfolding cut
cut_stops state [] stops = refl
cut_stops state (b ∷ z) stops = rw stops
