-- The escape of a text is that of its characters, one after another.
use Rattle.std.proofs.Common.{◌≡◌, ℕ, ◌<◌, [], ◌∷◌, ◌++◌, length, sym, ap, ◌∙◌, refl, append_assoc, append-nil, arith}
use Rattle.std.specs.Char.{encode_utf8}
use Rattle.promql_text.specs.Texts.{Text}
use Rattle.promql_text.specs.Quoting.{escaped_text, escaped_byte}
use Rattle.promql_text.proofs.quoting.Quotes.{escaped_plain}

pub escaped_text-append : (s t : Text) → escaped_text (s ++ t) ≡ escaped_text s ++ escaped_text t
escaped_text-append [] t = refl
escaped_text-append (b ∷ s) t = ap (λ u. escaped_byte b ++ u) (escaped_text-append s t) ∙ sym (append_assoc (escaped_byte b) (escaped_text s) (escaped_text t))

pub escaped_text-empty : (s : Text) → length s ≡ 0 → escaped_text s ≡ []
escaped_text-empty [] e = refl
escaped_text-empty (b ∷ s) e = absurd (omega arith)

-- a character that isn't escaped stays as it is
pub escaped_text-other : (c : ℕ) → (c < 128 → escaped_byte c ≡ c ∷ []) → escaped_text (encode_utf8 c) ≡ encode_utf8 c
escaped_text-other c plain = ap escaped_text (sym (append-nil (encode_utf8 c))) ∙ escaped_plain c [] plain ∙ append-nil (encode_utf8 c)
