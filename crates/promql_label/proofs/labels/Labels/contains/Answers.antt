use Rattle.std.proofs.Common.{◌∙◌, string_bytes, rules, tests}
use Rattle.std.specs.Str.{bytes_eq}
use Rattle.std.proofs.lemmas.Iterator.{YieldsList-from_slice}
use Rattle.std.proofs.lemmas.Iterator.Search.{any_from_yields_List}
use Rattle.promql_label.proofs.label_lists.CommonLabels.{list_any-texts}
use Rattle.promql_label.proofs.labels.Labels.contains.Goals as goal

pub returns : goal.returns
returns c =
    let label = c.args.label.now in
    let labels = c.args.self.now.labels.items in
    any_from_yields_List (λ x. bytes_eq label (string_bytes x)) _ _ c.any.result c.any.ensures.ran (YieldsList-from_slice labels cc) (λ x b q k. search (rules, tests))
    ∙ list_any-texts (bytes_eq label) labels
