use Rattle.std.proofs.Common.{None, arith, subst, sym}
use Rattle.std.proofs.lemmas.List.{drop_all}
use Rattle.promql_ast.specs.View.{children_of, trees_of}
use Rattle.promql_rewrite.specs.FoundReasons.{FoundAmong}
use Rattle.promql_rewrite.proofs.reasons.+reason.Goals as goal

pub reason_in_args-returns : goal.reason_in_args-returns
reason_in_args-returns t c =
    c.loop-arg.invariant None (subst (λ args. FoundAmong None (trees_of args)) (sym (drop_all c.loop-arg.arg-index c.args.args.now (omega arith))) (record { found = tt }))

pub reason_in_children-returns : goal.reason_in_children-returns
reason_in_children-returns t c =
    c.loop-child.invariant None (subst (λ children. FoundAmong None (children_of children)) (sym (drop_all c.loop-child.child-index c.args.children.now (omega arith))) (record { found = tt }))
