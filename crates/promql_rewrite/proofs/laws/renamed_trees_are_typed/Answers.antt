use Rattle.promql_rewrite.proofs.renamed.ClashingLabels.{apart_listed}
use Rattle.promql_rewrite.proofs.renamed.RenamedTrees.{label_typed, metric_typed}
use Rattle.promql_rewrite.proofs.renamed.RenamedTypes.{height_renamed, type_renamed}
use Rattle.promql_rewrite.proofs.names.SomeNames.{some_name}
use Rattle.promql_rewrite.proofs.laws.renamed_trees_are_typed.Goals as goal

pub returns : goal.returns
returns c = record { types = type_renamed; heights = height_renamed; labels = λ from to t old new apart. label_typed from to t old new (apart_listed from to t old new apart); metrics = metric_typed; names = some_name }
