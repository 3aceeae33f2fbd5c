-- The bytes of a text as it is shown.
use Rattle.std.proofs.Common.{◌≡◌, ℕ, [], ◌∷◌, ◌++◌, refl, sym, ap, ◌∙◌, append_assoc}
use Rattle.std.specs.Str.{IsUtf8, chars}
use Rattle.std.proofs.lemmas.Str.{chars_from_encodes, encodes-append}
use Rattle.promql_text.specs.Texts.{Text}
use Rattle.promql_span.specs.Visible.{visible, visible_char}
use lib.Utf8.{encodes}

-- a character more
pub shown_more : (c : ℕ) (cs : Text) → encodes (visible (c ∷ cs)) ≡ encodes (visible_char c) ++ encodes (visible cs)
shown_more c cs = encodes-append (visible_char c) (visible cs)

pub shown_together : (cs ds : Text) → visible (cs ++ ds) ≡ visible cs ++ visible ds
shown_together [] ds = refl
shown_together (c ∷ cs) ds = ap (λ l. visible_char c ++ l) (shown_together cs ds) ∙ sym (append_assoc (visible_char c) (visible cs) (visible ds))

-- a text of these bytes has the characters that are shown
pub chars_shown : (s bytes : Text) → IsUtf8 bytes → bytes ≡ encodes (visible (chars s)) → chars bytes ≡ visible (chars s)
chars_shown s bytes text is = sym (chars_from_encodes (visible (chars s)) bytes text (sym is))
