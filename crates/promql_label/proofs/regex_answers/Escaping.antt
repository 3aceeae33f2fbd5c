-- The escaped form of a pattern, character by character.
use Rattle.std.proofs.Common.{◌≡◌, ℕ, suc, ◌<◌, ◌≤◌, Bool, true, false, cond, not, ◌&&◌, ◌==◌, [], ◌∷◌, ◌++◌, length, get_or, append-nil, refl, sym, ap, ◌∙◌, ⊎_elim, arith}
use Rattle.std.specs.Char.{encode_utf8}
use Rattle.std.proofs.lemmas.Bool.{cond_both, eqb-true, ne_eqb}
use Rattle.std.proofs.lemmas.Str.{encode_ascii, length-encode, len_utf8_bounds}
use Rattle.std.proofs.str.Laws.{order}
use Rattle.promql_text.proofs.quoting.Quotes.{bytes_high}
use Rattle.promql_text.specs.Texts.{Text}
use Rattle.promql_label.specs.Repeats.{opens_count, is_literal_brace, with_backslash, escaped_repeats}

-- the escaped form, from a place on where `taken` says whether a backslash takes the next byte
abbrev pub escaped_from : Bool → Text → Text
escaped_from taken [] = []
escaped_from true (b ∷ z) = b ∷ escaped_from false z
escaped_from false (b ∷ z) = with_backslash b z ++ escaped_from (b == 92) z

-- a backslash that takes nothing is no brace
loose_backslash : (b : ℕ) (z : Text) → (b == 92) ≡ true → with_backslash b z ≡ b ∷ []
loose_backslash b z slash = rw (eqb-true b 92 slash) refl

-- from the start on it is the escaped form
pub from_start : (z : Text) → escaped_from false z ≡ escaped_repeats z
from_start [] = refl
from_start (b ∷ []) = append-nil (with_backslash b [])
from_start (b ∷ c ∷ z) =
    let whole = from_start z in
    let rest = from_start (c ∷ z) in
    cond_both (b == 92) _ _ (λ made. with_backslash b (c ∷ z) ++ escaped_from (b == 92) (c ∷ z) ≡ made)
    (λ slash. ap (λ t. with_backslash b (c ∷ z) ++ escaped_from t (c ∷ z)) slash
    ∙ ap (λ m. m ++ (c ∷ escaped_from false z)) (loose_backslash b (c ∷ z) slash) ∙ ap (λ t. b ∷ c ∷ t) whole)
    (λ other. ap (λ t. with_backslash b (c ∷ z) ++ escaped_from t (c ∷ z)) other ∙ ap (λ t. with_backslash b (c ∷ z) ++ t) rest)

-- the backslash that comes before a character
abbrev pub mark : Bool → ℕ → Text → Text
mark taken c z = cond (not taken && is_literal_brace c z) (92 ∷ []) []

abbrev AreHigh : Text → Type 0
AreHigh w = (k : ℕ) → k < length w → 128 ≤ get_or w k 0

-- bytes past ASCII stay as they are
high_stay : (w z : Text) → AreHigh w → escaped_from false (w ++ z) ≡ w ++ escaped_from false z
high_stay [] z high = refl
high_stay (b ∷ w) z high =
    let is_high : 128 ≤ b = high 0 (omega arith) in
    ap (λ t. cond (t && not (opens_count (w ++ z))) (92 ∷ b ∷ []) (b ∷ []) ++ escaped_from (b == 92) (w ++ z)) (ne_eqb b 123 (omega arith))
    ∙ ap (λ t. b ∷ escaped_from t (w ++ z)) (ne_eqb b 92 (omega arith))
    ∙ ap (λ t. b ∷ t) (high_stay w z (λ k lt. high (suc k) (omega arith)))

high_from : (taken : Bool) (w z : Text) → 0 < length w → AreHigh w → escaped_from taken (w ++ z) ≡ w ++ escaped_from false z
high_from taken [] z some high = absurd (omega arith)
high_from false (b ∷ w) z some high = high_stay (b ∷ w) z high
high_from true (b ∷ w) z some high = ap (λ t. b ∷ t) (high_stay w z (λ k lt. high (suc k) (omega arith)))

pub low_char : (taken : Bool) (c : ℕ) (z : Text) → escaped_from taken (c ∷ z) ≡ mark taken c z ++ (c ∷ escaped_from (not taken && c == 92) z)
low_char true c z = refl
low_char false c z =
    cond_both (is_literal_brace c z) _ _ (λ e. e ++ escaped_from (c == 92) z ≡ mark false c z ++ (c ∷ escaped_from (c == 92) z))
    (λ loose. ap (λ t. cond t (92 ∷ []) [] ++ (c ∷ escaped_from (c == 92) z)) (sym loose))
    (λ kept. ap (λ t. cond t (92 ∷ []) [] ++ (c ∷ escaped_from (c == 92) z)) (sym kept))

false_after : (taken : Bool) → (not taken && false) ≡ false
false_after true = refl
false_after false = refl

-- the escaped form of a text that begins with a character
pub escaped_char : (taken : Bool) (c : ℕ) (z : Text) →
    escaped_from taken (encode_utf8 c ++ z) ≡ mark taken c z ++ (encode_utf8 c ++ escaped_from (not taken && c == 92) z)
escaped_char taken c z =
    ⊎_elim
    (λ (low : c < 128). ap (λ e. escaped_from taken (e ++ z)) (encode_ascii c low) ∙ low_char taken c z
    ∙ ap (λ e. mark taken c z ++ (e ++ escaped_from (not taken && c == 92) z)) (sym (encode_ascii c low)))
    (λ (high : 128 ≤ c). high_from taken (encode_utf8 c) z (omega (arith, length-encode c, len_utf8_bounds c)) (bytes_high c high)
    ∙ ap (λ t. encode_utf8 c ++ escaped_from t z) (sym (false_after taken))
    ∙ ap (λ t. encode_utf8 c ++ escaped_from (not taken && t) z) (sym (ne_eqb c 92 (omega arith)))
    ∙ ap (λ t. cond t (92 ∷ []) [] ++ (encode_utf8 c ++ escaped_from (not taken && c == 92) z)) (sym (false_after taken))
    ∙ ap (λ t. cond (not taken && (t && not (opens_count z))) (92 ∷ []) [] ++ (encode_utf8 c ++ escaped_from (not taken && c == 92) z)) (sym (ne_eqb c 123 (omega arith))))
    (order c 128)
