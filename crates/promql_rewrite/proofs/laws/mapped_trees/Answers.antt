use Rattle.promql_rewrite.proofs.mapped.MappedTrees.{same_heights, same_kinds, same_trees, same_types}
use Rattle.promql_rewrite.proofs.mapped.MappedTyped.{typed_again}
use Rattle.promql_rewrite.proofs.laws.mapped_trees.Goals as goal

pub returns : goal.returns
returns c = record { types = same_types; heights = same_heights; kinds = same_kinds; typed = typed_again; same = same_trees }
