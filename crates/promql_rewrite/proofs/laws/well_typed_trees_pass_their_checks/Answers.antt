use Rattle.promql_rewrite.proofs.well_typed.PassingNodes.{nodes_pass, pass_nodes}
use Rattle.promql_rewrite.proofs.well_typed.TypedNodes.{passes_typed, typed_passes}
use Rattle.promql_rewrite.proofs.laws.well_typed_trees_pass_their_checks.Goals as goal

pub returns : goal.returns
returns c = λ t. ((λ h. nodes_pass t (typed_passes t h)), (λ h. passes_typed c.checked_trees_are_typed.ensures t (pass_nodes t h)))
