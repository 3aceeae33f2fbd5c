use Rattle.std.proofs.Common.{◌∙◌, false}
use Rattle.std.specs.Str.{bytes_eq}
use Rattle.promql_label.specs.LabelSets.{has_text}
use Rattle.promql_label.proofs.label_lists.LabelSets.{set_after, without}
use Rattle.promql_label.proofs.common_labels.take_label.Goals as goal

pub returns-in_ok-push-clause-left : goal.returns-in_ok-push-clause-left
returns-in_ok-push-clause-left c = λ t.
    set_after c.args.label.now c.args.left.now c.remove.new.self false c.remove.ensures.updates t
    ∙ without (bytes_eq c.args.label.now t) (has_text c.args.left.now t)

pub returns-else-remove-clause-left : goal.returns-else-remove-clause-left
returns-else-remove-clause-left c = λ t.
    set_after c.args.label.now c.args.left.now c.remove.new.self false c.remove.ensures.updates t
    ∙ without (bytes_eq c.args.label.now t) (has_text c.args.left.now t)
