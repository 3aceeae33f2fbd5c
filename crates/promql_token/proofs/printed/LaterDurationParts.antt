-- The parts of a duration after its first number.
use Rattle.std.proofs.Common.{◌≡◌, ℕ, zero, suc, ◌-◌, ◌≤◌, true, false, [], ◌∷◌, length, drop, refl, sym, ap, ◌∙◌, arith}
use Rattle.std.specs.Prelude.{◌==◌}
use Rattle.std.proofs.lemmas.Grind.{common_steps}
use Rattle.promql_text.specs.Texts.{Text}
use Rattle.promql_token.specs.TokenScanning.{part_len, parts_from}

-- bytes that are to be passed are passed
parts_from-drop : (left : ℕ) (z : Text) → left ≤ length z → parts_from left z ≡ parts_from 0 (drop left z)
parts_from-drop zero z h = refl
parts_from-drop (suc left) [] h = absurd (omega arith)
parts_from-drop (suc left) (b ∷ z) h = parts_from-drop left z (omega arith)

drop_one_more : (n b : ℕ) (z : Text) → 1 ≤ n → drop (n - 1) z ≡ drop n (b ∷ z)
drop_one_more zero b z h = absurd (omega arith)
drop_one_more (suc n) b z h = let e : suc n - 1 ≡ n = omega arith in ap (λ k. drop k z) e

some_more : (n : ℕ) → (suc n == 0) ≡ false
some_more n = grind (arith, common_steps)

-- a part, and what is after it
pub parts_go : (z : Text) (len : ℕ) → len ≡ part_len z → 1 ≤ len → len ≤ length z → parts_from 0 z ≡ parts_from 0 (drop len z)
parts_go [] len is some fits = absurd (omega arith)
parts_go (b ∷ z) zero is some fits = absurd (omega arith)
parts_go (b ∷ z) (suc len) is some fits =
    let e : (part_len (b ∷ z) == 0) ≡ false = ap (λ n. n == 0) (sym is) ∙ some_more len in
    rw (e, ← is) (parts_from-drop (suc len - 1) z (omega arith) ∙ ap (parts_from 0) (drop_one_more (suc len) b z (omega arith)))

-- no part
pub parts_stop : (z : Text) → 1 ≤ length z → part_len z ≡ 0 → parts_from 0 z ≡ false
parts_stop [] some is = absurd (omega arith)
parts_stop (b ∷ z) some is = let e : (part_len (b ∷ z) == 0) ≡ true = ap (λ n. n == 0) is in rw e refl
