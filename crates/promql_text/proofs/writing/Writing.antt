-- A text that is written part by part, under any options: what is written so far, and what is still to be written, make it up.
use Rattle.std.proofs.Common.{◌≡◌, [], ◌++◌, sym, ap, ◌∙◌, append_assoc, append-nil}
use Rattle.std.specs.Fmt.{HasWrittenStyled, IsFlush}
use Rattle.std.specs.declared.fmt.Formatter.{Formatter}
use Rattle.std.proofs.Output.{has_written_styled_append, has_written_styled_nil, has_written_styled_of_eq}
use Rattle.promql_text.specs.Texts.{Text}

-- between f and g a text was written that with the rest makes the whole
abbrev pub Writing : {W : Type 0} → (W → Text → W → Type 0) → Formatter W → Text → Formatter W → Text → Type 0
Writing took f whole g rest = (w : Text) × (HasWrittenStyled took f w g × (w ++ rest ≡ whole))

module _ {W : Type 0} (took : W → Text → W → Type 0) (f : Formatter W) (whole : Text) where
  pub writing_flush : (g : Formatter W) (rest : Text) → Writing took f whole g rest → IsFlush g
  writing_flush g rest (w, (so_far, e)) = so_far.flush

  pub writing_start : (rest : Text) → IsFlush f → rest ≡ whole → Writing took f whole f rest
  writing_start rest flush is = ([], (has_written_styled_nil took f flush, is))

  pub writing_more : (g : Formatter W) (rest part : Text) (h : Formatter W) (less : Text) → Writing took f whole g rest
      → HasWrittenStyled took g part h → rest ≡ part ++ less → Writing took f whole h less
  writing_more g rest part h less (w, (so_far, e)) now is =
      (w ++ part, (has_written_styled_append _ _ _ _ _ _ so_far now, append_assoc w part less ∙ ap (λ r. w ++ r) (sym is) ∙ e))

  pub writing_end : (g : Formatter W) (rest : Text) → Writing took f whole g rest → rest ≡ [] → HasWrittenStyled took f whole g
  writing_end g rest (w, (so_far, e)) is = has_written_styled_of_eq _ _ _ _ _ (sym (append-nil w) ∙ ap (λ r. w ++ r) (sym is) ∙ e) so_far

  -- what is still to be written, in other words
  pub writing_as : (g : Formatter W) (rest less : Text) → Writing took f whole g rest → rest ≡ less → Writing took f whole g less
  writing_as g rest less (w, (so_far, e)) is = (w, (so_far, ap (λ r. w ++ r) (sym is) ∙ e))
