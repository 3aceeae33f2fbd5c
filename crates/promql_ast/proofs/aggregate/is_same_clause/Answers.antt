use Rattle.std.proofs.Common.{◌∙◌}
use Rattle.promql_kind.specs.ModifierViews.{clause_of}
use Rattle.promql_kind.proofs.Equal.{clause_Decides}
use Rattle.promql_kind.proofs.SameModifiersDecide.{clause_eq-Decides}
use Rattle.promql_ast.proofs.equality.SameTests.{same_test}
use Rattle.promql_ast.proofs.aggregate.is_same_clause.Goals as goal

pub returns : goal.returns
returns c =
    c.eq.ensures
    ∙ same_test _ _ (clause_Decides c.args.a.now c.args.b.now)
    (clause_eq-Decides (clause_of c.args.a.now) (clause_of c.args.b.now))
