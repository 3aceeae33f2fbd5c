use Rattle.std.proofs.Common.{◌≡◌, drop, fold}
use Rattle.promql_ast.specs.TreeFeed.{each_feed}
use Rattle.promql_ast.specs.View.{children_of, trees_of}
use Rattle.promql_ast.proofs.hash.+hash.Given as goal

abbrev pub invariant-hash_args-loop-arg : goal.invariant-hash_args-loop-arg
invariant-hash_args-loop-arg g l =
    fold g.H.Hasher.write l.state (each_feed (trees_of (drop l.arg-index l.args)))
    ≡ fold g.H.Hasher.write l.initial.state (each_feed (trees_of l.args))

abbrev pub invariant-hash_children-loop-child : goal.invariant-hash_children-loop-child
invariant-hash_children-loop-child g l =
    fold g.H.Hasher.write l.state (each_feed (children_of (drop l.child-index l.children)))
    ≡ fold g.H.Hasher.write l.initial.state (each_feed (children_of l.children))
