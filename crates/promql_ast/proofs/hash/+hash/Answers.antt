use Rattle.std.proofs.Common.{arith}
use Rattle.promql_ast.specs.View.{tree_of}
use Rattle.promql_ast.proofs.equality.FedTrees.{fed_all}
use Rattle.promql_ast.proofs.nodes.NodeParts.{tree_of_call, tree_of_extension}
use Rattle.promql_ast.proofs.hash.+hash.Goals as goal

pub hash_args-returns : goal.hash_args-returns
hash_args-returns g t c =
    fed_all g.H.Hasher.write (λ b. tree_of b.value) c.args.state.now c.write_usize.new.self _ c.args.args.now c.loop-arg.arg-index c.loop-arg-test.false
    c.write_usize.ensures c.loop-arg.invariant

pub hash_children-returns : goal.hash_children-returns
hash_children-returns g t c =
    fed_all g.H.Hasher.write tree_of c.args.state.now c.write_usize.new.self _ c.args.children.now c.loop-child.child-index c.loop-child-test.false
    c.write_usize.ensures c.loop-child.invariant

-- ---- calls and extensions

pub ExprHash::hash-returns-in-Call : goal.ExprHash::hash-returns-in-Call
ExprHash::hash-returns-in-Call g t c = grind (arith, tree_of_call)

pub ExprHash::hash-returns-in-Extension : goal.ExprHash::hash-returns-in-Extension
ExprHash::hash-returns-in-Extension g t c = grind (arith, tree_of_extension)
