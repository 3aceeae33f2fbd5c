-- Texts by their first and last bytes.
use Rattle.std.proofs.Common.{◌≡◌, ℕ, ◌+◌, ◌-◌, ◌<◌, ◌≤◌, [], ◌∷◌, ◌++◌, length, take, drop, get_or, sym, ap, ◌∙◌, take-append-drop, arith}
use Rattle.std.proofs.lemmas.List.{drop_more, get_or-drop, length-drop}
use Rattle.std.proofs.Math.ListN.{drop_of_length-le}
use Rattle.promql_text.specs.Texts.{Text}

-- all but the last byte, and the last
pub before_last : (s : Text) → 0 < length s → take (length s - 1) s ++ get_or s (length s - 1) 0 ∷ [] ≡ s
before_last s some =
    let n : ℕ = length s - 1 in
    let last : drop n s ≡ get_or s n 0 ∷ [] = drop_more s n 0 (omega arith) ∙ ap (λ z. get_or s n 0 ∷ z) (drop_of_length-le s (omega arith)) in
    ap (λ z. take n s ++ z) (sym last) ∙ take-append-drop n s

-- the first byte, all between it and the last, and the last
pub between_ends : (s : Text) → 2 ≤ length s → get_or s 0 0 ∷ (take (length s - 1 - 1) (drop 1 s) ++ get_or s (length s - 1) 0 ∷ []) ≡ s
between_ends s two =
    let rest : Text = drop 1 s in
    let long : length rest ≡ length s - 1 = length-drop 1 s in
    let count : length rest - 1 ≡ length s - 1 - 1 = omega (arith, long) in
    let place : 1 + (length rest - 1) ≡ length s - 1 = omega (arith, long) in
    ap (λ z. get_or s 0 0 ∷ z)
    (ap (λ n. take n rest ++ get_or s (length s - 1) 0 ∷ []) (sym count)
    ∙ ap (λ b. take (length rest - 1) rest ++ b ∷ []) (ap (λ i. get_or s i 0) (sym place) ∙ sym (get_or-drop 1 s (length rest - 1) 0))
    ∙ before_last rest (omega (arith, long)))
    ∙ sym (drop_more s 0 0 (omega arith))
