use Rattle.std.proofs.Common.{◌≡◌, arith, true}
use Rattle.std.proofs.lemmas.Grind.{common_steps}
use Rattle.promql_ast.specs.View.{tree_of, trees_of}
use Rattle.promql_when.specs.Last.{all_constant, is_constant}
use Rattle.promql_when.proofs.TreeLists.{all_are, constant_later}
use Rattle.promql_when.proofs.last.+constant.Goals as goal

pub args_are_constant-loop-arg-preserved : goal.args_are_constant-loop-arg-preserved
args_are_constant-loop-arg-preserved t c =
    let yes : is_constant (tree_of c.arg-item.result.value) ≡ true = grind (arith, common_steps) in
    constant_later (λ b. tree_of b.value) c.args.args.now c.loop-arg.arg-index c.arg-item.result c.loop-arg-test.true c.arg-item.is yes (all_constant (trees_of c.args.args.now)) c.loop-arg.invariant

pub args_are_constant-returns : goal.args_are_constant-returns
args_are_constant-returns t c = all_are (λ b. tree_of b.value) c.args.args.now c.loop-arg.arg-index (all_constant (trees_of c.args.args.now)) c.loop-arg-test.false c.loop-arg.invariant
