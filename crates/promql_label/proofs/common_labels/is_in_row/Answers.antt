use Rattle.std.proofs.Common.{◌∙◌, Bor, rules}
use Rattle.std.proofs.lemmas.Fn.{always_returns_same}
use Rattle.promql_text.specs.Texts.{Text}
use Rattle.promql_label.specs.SortedTexts.{text_order}
use Rattle.promql_label.proofs.order.LabelRows.{found_in_row}
use Rattle.promql_label.proofs.common_labels.is_in_row.Goals as goal

pub returns : goal.returns
returns c =
    let label = c.args.label.now in
    let search_is = c.binary_search_by.ensures in
    c.is_ok.ensures.value
    ∙ found_in_row c.args.row.now label c.binary_search_by.result c.requires search_is.bound
    (search_is.position (λ (text : Bor Text). text_order text.now label) (always_returns_same _ _ _ (λ a r q k. search rules)))
