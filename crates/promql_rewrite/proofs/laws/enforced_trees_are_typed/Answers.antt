use Rattle.promql_rewrite.proofs.enforcement.EnforcedChecks.{type_enforced}
use Rattle.promql_rewrite.proofs.enforcement.EnforcedTypes.{height_enforced, typed_enforced}
use Rattle.promql_rewrite.proofs.laws.enforced_trees_are_typed.Goals as goal

pub returns : goal.returns
returns c = record { types = type_enforced; heights = height_enforced; typed = λ c t other. typed_enforced c other t }
