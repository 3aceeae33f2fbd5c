use Rattle.std.proofs.Common.{◌∙◌, ap, drop}
use Rattle.std.proofs.lemmas.List.{drop_all}
use Rattle.promql_ast.specs.View.{trees_of}
use Rattle.promql_ast.specs.check.CallChecks.{types_fault}
use Rattle.promql_ast.proofs.checking.Typing.{typed_none}
use Rattle.promql_ast.proofs.check_call.check_types.Goals as goal

pub returns : goal.returns
returns c =
    c.loop-arg.invariant.0
    ∙ ap (λ z. types_fault c.args.name.now (drop c.loop-arg.at c.args.types.now) (trees_of z)) (drop_all _ _ c.loop-arg-test.false)
    ∙ typed_none c.args.name.now (drop c.loop-arg.at c.args.types.now)
