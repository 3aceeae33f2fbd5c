use Rattle.std.proofs.Common.{◌+◌, length, subst, refl, ◌∙◌, ap}
use Rattle.std.specs.Prelude.{All, Ok}
use Rattle.std.proofs.lemmas.List.Elements.{All-append}
use Rattle.promql_ast.specs.View.{tree_of, trees_of}
use Rattle.promql_syntax.specs.Building.{build, build_all}
use Rattle.promql_syntax.proofs.building.BuiltForms.{goes_on, with_tree, with_fault, with_trees, with_no_trees}
use Rattle.promql_syntax.proofs.grammar.build.append_argument.Goals as goal
use Rattle.promql_grammar.specs.Grammar.{yield}
use Rattle.promql_syntax.specs.FaultTokens.{Builds, subexpressions, subexpressions_of}
use Rattle.promql_syntax.specs.ParsesExpr.{IsFaultIn, IsPlaced}
use Rattle.promql_syntax.proofs.answer.FaultPlacing.{in_first, in_second, parts_built}
use Rattle.promql_syntax.proofs.building.MoreArguments.{appended, appended_trees, more_arguments_of, no_arguments_of}

pub returns-in-Err-clause-built : goal.returns-in-Err-clause-built
returns-in-Err-clause-built c = λ builds n k ds d args parsed.
    no_arguments_of _ c.args.args c.args.parsed ds d c.max-height.ensures args parsed
    (λ on fits. appended (λ l. IsFaultIn n l c.in-Err.error.value) k ds d (in_first n (subexpressions_of (1 + (length (yield d) + k)) ds) (subexpressions k d) c.in-Err.error.value (subst (λ r. IsPlaced n (subexpressions_of (1 + (length (yield d) + k)) ds) r) c.in-Err.is (args.placed on fits)))) _ refl (λ on. with_no_trees c.args.args (build_all ds) c.in-Err.error c.in-Err.is (args.built on))

pub returns-in_ok-push-in-Ok-last-clause-built : goal.returns-in_ok-push-in-Ok-last-clause-built
returns-in_ok-push-in-Ok-last-clause-built c = λ builds n k ds d args parsed.
    more_arguments_of _ c.args.args c.args.parsed ds d c.max-height.ensures args parsed (λ on fits. appended (All Builds) k ds d (All-append Builds (subexpressions_of (1 + (length (yield d) + k)) ds) (subexpressions k d)
    (parts_built n (subexpressions_of (1 + (length (yield d) + k)) ds) c.args.args.value c.in-Ok.args c.in-Ok.is (args.placed on fits))
    (parts_built n (subexpressions k d) c.args.parsed.value c.in-Ok-last.arg c.in-Ok-last.is (parsed.placed (goes_on builds _ _ c.in-Ok.is on) fits)))) _ _ (ap Ok (ap trees_of c.in_ok-push-in-Ok-last.ensures.items ∙ appended_trees (λ b. tree_of b.value) c.in-Ok.args.args.items c.in-Ok-last.arg))
    (λ on. with_trees c.args.args (build_all ds) c.in-Ok.args c.in-Ok.is (args.built on))
    (λ on. with_tree c.args.parsed (build d) c.in-Ok-last.arg c.in-Ok-last.is (parsed.built (goes_on builds _ _ c.in-Ok.is on)))

pub returns-in-Err-last-clause-built : goal.returns-in-Err-last-clause-built
returns-in-Err-last-clause-built c = λ builds n k ds d args parsed.
    more_arguments_of _ c.args.args c.args.parsed ds d c.max-height.ensures args parsed
    (λ on fits. appended (λ l. IsFaultIn n l c.in-Err-last.error.value) k ds d (in_second n (subexpressions_of (1 + (length (yield d) + k)) ds) (subexpressions k d) c.in-Err-last.error.value
    (parts_built n (subexpressions_of (1 + (length (yield d) + k)) ds) c.args.args.value c.in-Ok.args c.in-Ok.is (args.placed on fits))
    (subst (λ r. IsPlaced n (subexpressions k d) r) c.in-Err-last.is (parsed.placed (goes_on builds _ _ c.in-Ok.is on) fits)))) _ _ refl
    (λ on. with_trees c.args.args (build_all ds) c.in-Ok.args c.in-Ok.is (args.built on))
    (λ on. with_fault c.args.parsed (build d) c.in-Err-last.error c.in-Err-last.is (parsed.built (goes_on builds _ _ c.in-Ok.is on)))
