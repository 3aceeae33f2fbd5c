use Rattle.std.proofs.Common.{◌∙◌, None, codes, map, refl, sym, ap}
use Rattle.std.proofs.Output.{has_written_styled_of_eq}
use Rattle.promql_label.specs.NextText.{text_of}
use Rattle.promql_text.specs.Texts.{joined_text}
use Rattle.promql_label.proofs.order.RisingTexts.{rising_is_sorted}
use Rattle.promql_label.proofs.sorted.write_sorted.Goals as goal

pub returns-then-is_in_order : goal.returns-then-is_in_order
returns-then-is_in_order g c = λ flush ok.
    has_written_styled_of_eq _ _ _ _ _
    (ap (joined_text (codes ",")) (sym (rising_is_sorted None (map text_of c.args.matchers.now) (sym c.is_in_order.ensures ∙ c.if-is_in_order.true))))
    (c.write_joined.ensures.styled text_of (λ m options. refl) flush ok)
