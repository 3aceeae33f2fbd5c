use Rattle.promql_rewrite.proofs.renamed.RenamedSeries.{label_selects}
use Rattle.promql_rewrite.proofs.laws.renamed_selectors_select.Goals as goal

pub returns : goal.returns
returns c = λ from to s series old. label_selects from to series old s
