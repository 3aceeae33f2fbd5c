use Rattle.std.proofs.Common.{◌∙◌}
use Rattle.promql_kind.specs.ModifierViews.{matching_of}
use Rattle.promql_kind.proofs.Equal.{matching_Decides}
use Rattle.promql_kind.proofs.SameModifiersDecide.{matching_eq-Decides}
use Rattle.promql_ast.proofs.equality.SameTests.{same_test}
use Rattle.promql_ast.proofs.binary.is_same_matching.Goals as goal

pub returns : goal.returns
returns c =
    c.eq.ensures
    ∙ same_test _ _ (matching_Decides c.args.a.now c.args.b.now)
    (matching_eq-Decides (matching_of c.args.a.now) (matching_of c.args.b.now))
