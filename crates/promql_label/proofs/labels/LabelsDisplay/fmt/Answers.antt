use Rattle.std.proofs.Common.{◌∙◌, codes, string_bytes, map, sym, ap}
use Rattle.std.proofs.Output.{has_written_styled_of_eq}
use Rattle.std.proofs.lemmas.Simd.{map-map}
use Rattle.promql_label.specs.Labels.{label_text}
use Rattle.promql_text.proofs.writing.AllOptions.{writes_at_plain}
use Rattle.promql_text.specs.Texts.{joined_text}
use Rattle.promql_label.proofs.labels.LabelsDisplay.fmt.Goals as goal

pub returns-clause-styled : goal.returns-clause-styled
returns-clause-styled g c = λ flush ok. has_written_styled_of_eq _ _ _ _ _
    (ap (λ labels. joined_text (codes ", ") (map (λ label. label_text (string_bytes label)) labels)) c.deref.ensures.value
    ∙ ap (joined_text (codes ", ")) (sym (map-map label_text string_bytes c.args.self.now.labels.items)))
    (c.write_joined_by.ensures.styled (λ label. label_text (string_bytes label)) (λ _ _ _ _ writes. writes) flush ok)

pub returns-clause-writes : goal.returns-clause-writes
returns-clause-writes g c = writes_at_plain g.W.Write.write_str_gives _ _ _ _ (returns-clause-styled g c)
