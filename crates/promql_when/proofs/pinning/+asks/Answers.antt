use Rattle.std.proofs.Common.{◌≡◌, arith, false}
use Rattle.std.proofs.lemmas.Grind.{common_steps}
use Rattle.promql_ast.specs.View.{children_of, tree_of, trees_of}
use Rattle.promql_when.specs.Pinned.{any_asks_grid, asks_grid}
use Rattle.promql_when.proofs.TreeLists.{asks_later, none_asks}
use Rattle.promql_when.proofs.pinning.+asks.Goals as goal

pub args_ask_grid-loop-arg-preserved : goal.args_ask_grid-loop-arg-preserved
args_ask_grid-loop-arg-preserved t c =
    let no : asks_grid (tree_of c.arg-item.result.value) ≡ false = grind (arith, common_steps) in
    asks_later (λ b. tree_of b.value) c.args.args.now c.loop-arg.arg-index c.arg-item.result c.loop-arg-test.true c.arg-item.is no (any_asks_grid (trees_of c.args.args.now)) c.loop-arg.invariant

pub args_ask_grid-returns : goal.args_ask_grid-returns
args_ask_grid-returns t c = none_asks (λ b. tree_of b.value) c.args.args.now c.loop-arg.arg-index (any_asks_grid (trees_of c.args.args.now)) c.loop-arg-test.false c.loop-arg.invariant

pub children_ask_grid-loop-child-preserved : goal.children_ask_grid-loop-child-preserved
children_ask_grid-loop-child-preserved t c =
    let no : asks_grid (tree_of c.child-item.result) ≡ false = grind (arith, common_steps) in
    asks_later tree_of c.args.children.now c.loop-child.child-index c.child-item.result c.loop-child-test.true c.child-item.is no (any_asks_grid (children_of c.args.children.now)) c.loop-child.invariant

pub children_ask_grid-returns : goal.children_ask_grid-returns
children_ask_grid-returns t c = none_asks tree_of c.args.children.now c.loop-child.child-index (any_asks_grid (children_of c.args.children.now)) c.loop-child-test.false c.loop-child.invariant
