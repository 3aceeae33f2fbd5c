-- The escaped form of a pattern, place by place.
use Rattle.std.proofs.Common.{◌≡◌, ℕ, ◌+◌, ◌%◌, Bool, true, false, cond, not, ◌&&◌, ◌==◌, [], ◌∷◌, ◌++◌, length, drop, get_or, append_assoc, refl, sym, ap, ◌∙◌, true≢false, arith, length-append}
use Rattle.std.specs.Prelude.{reverse}
use Rattle.std.specs.List.{prefix_len}
use Rattle.std.proofs.Math.Seq.{take-append_seam, drop-append_seam, get_or-append_seam}
use Rattle.std.proofs.lemmas.Bool.{eqb-true, eq-eqb, ne_eqb}
use Rattle.std.proofs.lemmas.List.{reverse-append}
use Rattle.promql_text.specs.Texts.{Text}
use Rattle.promql_label.specs.Repeats.{backslashed, is_literal_brace, escaped_repeats}
use Rattle.promql_label.specs.RepeatPlaces.{byte_at, bytes_from}
use Rattle.promql_label.proofs.regex_answers.Escaping.{escaped_from, from_start, low_char, mark}

-- a text ends in an odd number of backslashes
abbrev ends_odd : Text → Bool
ends_odd p = prefix_len (λ b. b == 92) (reverse p) % 2 == 1

parity-at : (n : ℕ) (b : Bool) → (n % 2 == 1) ≡ b → ((1 + n) % 2 == 1) ≡ not b
parity-at n true odd = let is : n % 2 ≡ 1 = eqb-true (n % 2) 1 odd in ne_eqb ((1 + n) % 2) 1 (λ e. absurd (omega arith))
parity-at n false even =
    let is : n % 2 ≡ 1 → ⊥ = λ e. let odd = eq-eqb (n % 2) 1 e in absurd (true≢false (sym odd ∙ even)) in
    eq-eqb ((1 + n) % 2) 1 (omega arith)

one_more : (n : ℕ) (t : Bool) → (cond t (1 + n) 0 % 2 == 1) ≡ (not (n % 2 == 1) && t)
one_more n true = parity-at n (n % 2 == 1) refl ∙ sym (and-true (not (n % 2 == 1)))
  where
    and-true : (b : Bool) → (b && true) ≡ b
    and-true true = refl
    and-true false = refl
one_more n false = sym (and-false (not (n % 2 == 1)))
  where
    and-false : (b : Bool) → (b && false) ≡ false
    and-false true = refl
    and-false false = refl

ends_odd-more : (p : Text) (b : ℕ) → ends_odd (p ++ b ∷ []) ≡ (not (ends_odd p) && b == 92)
ends_odd-more p b =
    ap (λ r. prefix_len (λ x. x == 92) r % 2 == 1) (reverse-append p (b ∷ []))
    ∙ one_more (prefix_len (λ x. x == 92) (reverse p)) (b == 92)

-- the place after p
before_place : (p : Text) (b : ℕ) (z : Text) → drop (length p + 1) (p ++ b ∷ z) ≡ z
before_place p b z =
    ap (λ n. drop n (p ++ b ∷ z)) (sym (length-append p (b ∷ [])))
    ∙ ap (drop (length (p ++ b ∷ []))) (sym (append_assoc p (b ∷ []) z))
    ∙ drop-append_seam (p ++ b ∷ []) z

here : (p : Text) (b : ℕ) (z : Text) → byte_at (p ++ b ∷ z) (length p) ≡ mark (ends_odd p) b z ++ b ∷ []
here p b z =
    let made : Text → ℕ → Text → Text = λ q c r. cond (not (ends_odd q) && is_literal_brace c r) (92 ∷ []) [] ++ c ∷ [] in
    ap (λ q. made q (get_or (p ++ b ∷ z) (length p) 0) (drop (length p + 1) (p ++ b ∷ z))) (take-append_seam p (b ∷ z))
    ∙ ap (λ c. made p c (drop (length p + 1) (p ++ b ∷ z))) (get_or-append_seam p b z 0)
    ∙ ap (made p b) (before_place p b z)

from_place : (p z : Text) → escaped_from (ends_odd p) z ≡ bytes_from (p ++ z) (length p) (length z)
from_place p [] = refl
from_place p (b ∷ z) =
    let rest : Text = bytes_from (p ++ b ∷ z) (length p + 1) (length z) in
    let marks : Text = mark (ends_odd p) b z in
    let whole = from_place (p ++ b ∷ []) z in
    low_char (ends_odd p) b z
    ∙ ap (λ t. marks ++ (b ∷ escaped_from t z)) (sym (ends_odd-more p b))
    ∙ ap (λ t. marks ++ (b ∷ t)) (
    whole
    ∙ ap (λ u. bytes_from u (length (p ++ b ∷ [])) (length z)) (append_assoc p (b ∷ []) z)
    ∙ ap (λ k. bytes_from (p ++ b ∷ z) k (length z)) (length-append p (b ∷ []))
    )
    ∙ sym (append_assoc marks (b ∷ []) rest)
    ∙ ap (λ w. w ++ rest) (sym (here p b z))

by_bytes : (taken : Bool) (z : Text) → escaped_from taken z ≡ backslashed taken z
by_bytes taken [] = refl
by_bytes taken (b ∷ z) = low_char taken b z ∙ ap (λ t. mark taken b z ++ (b ∷ t)) (by_bytes (not taken && b == 92) z)

pub by_backslashes : (z : Text) → escaped_repeats z ≡ backslashed false z
by_backslashes z = sym (from_start z) ∙ by_bytes false z

pub by_places : (z : Text) → escaped_repeats z ≡ bytes_from z 0 (length z)
by_places z = sym (from_start z) ∙ from_place [] z
