use Rattle.std.proofs.Common.{◌∙◌, sym}
use Rattle.promql_label.specs.Labels.{labels_of}
use Rattle.promql_label.proofs.label_lists.CommonLabels.{joint-common}
use Rattle.promql_label.proofs.labels.Labels.is_joint.Goals as goal

pub returns-clause-common : goal.returns-clause-common
returns-clause-common c =
    let joint = joint-common (labels_of c.args.self.now) (labels_of c.args.other.now) in
    (λ e. joint.0 (sym c.has_any_of.ensures ∙ e), λ some. c.has_any_of.ensures ∙ joint.1 some)
