use Rattle.std.proofs.Common.{◌∙◌, string_bytes, rules, tests}
use Rattle.std.proofs.lemmas.Iterator.{YieldsList-from_slice}
use Rattle.std.proofs.lemmas.Iterator.Search.{any_from_yields_List}
use Rattle.promql_label.specs.Labels.{is_among, labels_of}
use Rattle.promql_label.proofs.label_lists.CommonLabels.{list_any-texts}
use Rattle.promql_label.proofs.labels.Labels.has_any_of.Goals as goal

pub returns : goal.returns
returns c =
    let others = labels_of c.args.other.now in
    let labels = c.args.self.now.labels.items in
    any_from_yields_List (λ x. is_among others (string_bytes x)) _ _ c.any.result c.any.ensures.ran (YieldsList-from_slice labels cc) (λ x b q k. search (rules, tests))
    ∙ list_any-texts (is_among others) labels
