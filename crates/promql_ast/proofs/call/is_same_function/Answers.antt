use Rattle.std.proofs.Common.{◌∙◌}
use Rattle.promql_kind.specs.Functions.{signature_of}
use Rattle.promql_kind.proofs.Equal.{function_Decides}
use Rattle.promql_kind.proofs.SameModifiersDecide.{signature_eq-Decides}
use Rattle.promql_ast.proofs.equality.SameTests.{same_test}
use Rattle.promql_ast.proofs.call.is_same_function.Goals as goal

pub returns : goal.returns
returns c =
    c.eq.ensures
    ∙ same_test _ _ (function_Decides c.args.a.now c.args.b.now)
    (signature_eq-Decides (signature_of c.args.a.now) (signature_of c.args.b.now))
