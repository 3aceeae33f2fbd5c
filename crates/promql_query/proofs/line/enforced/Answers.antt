use Rattle.std.proofs.Common.{inl, inr, refl, subst, sym}
use Rattle.std.specs.Prelude.{Err, Ok, option_map}
use Rattle.promql_ast.specs.View.{tree_of}
use Rattle.promql_query.specs.BatchSteps.{IsAsked}
use Rattle.promql_query.proofs.line.enforced.Goals as goal

pub returns-in-Ok-clause-ok : goal.returns-in-Ok-clause-ok
returns-in-Ok-clause-ok c =
    subst (λ m. IsAsked c.args.limits.now (option_map (λ s. s.now) m) (tree_of c.args.expr) (Ok (tree_of c.in-Ok.enforced.expr))) (sym c.in-Some.is)
    (tree_of c.in-Ok.enforced.expr, c.in-Ok.ensures.ok, inl (c.in-Ok.ensures.short, refl))

pub returns-in-Err-TooLong-clause-err : goal.returns-in-Err-TooLong-clause-err
returns-in-Err-TooLong-clause-err c =
    let found = rw c.in-Err-TooLong.field-0-is at c.in-Err-TooLong.ensures.err in
    subst (λ m. IsAsked c.args.limits.now (option_map (λ s. s.now) m) (tree_of c.args.expr) (Err c.long_line.result)) (sym c.in-Some.is)
    (inr (found.0, found.1, c.long_line.ensures found.0 found.2 found.3))
