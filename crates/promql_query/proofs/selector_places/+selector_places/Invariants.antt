use Rattle.std.proofs.Common.{Global}
use Rattle.std.specs.declared.boxed.Box.{Box}
use Rattle.promql_ast.specs.View.{tree_of}
use Rattle.promql_ast.specs.declared.expr.Expr.{Expr}
use Rattle.promql_query.proofs.SelectorWalks.{AreLeft}
use Rattle.promql_query.proofs.selector_places.+selector_places.Given as goal

abbrev pub invariant-walk_args-loop-arg : goal.invariant-walk_args-loop-arg
invariant-walk_args-loop-arg l = AreLeft (λ (b : Box Expr Global). tree_of b.value) l.args l.arg-index l.initial.walk l.walk

abbrev pub invariant-walk_children-loop-child : goal.invariant-walk_children-loop-child
invariant-walk_children-loop-child l = AreLeft tree_of l.children l.child-index l.initial.walk l.walk
