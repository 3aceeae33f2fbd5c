use Rattle.std.proofs.Common.{◌+◌, refl, ◌∙◌, ap, arith, [], ◌∷◌}
use Rattle.std.specs.Prelude.{Ok}
use Rattle.promql_ast.specs.Tree as tree
use Rattle.promql_ast.specs.View.{tree_of}
use Rattle.promql_grammar.specs.Grammar as grammar
use Rattle.promql_syntax.specs.Asking.{gives}
use Rattle.promql_syntax.specs.Building.{build}
use Rattle.promql_syntax.proofs.building.Ending.{then_value, then_fault}
use Rattle.promql_syntax.proofs.building.BuiltForms.{is_expr_of, with_tree, with_fault, ends_given}
use Rattle.promql_syntax.specs.FaultTokens.{subexpressions}
use Rattle.promql_syntax.proofs.answer.FaultPlacing.{parts_built, passed_on, whole_placed}
use Rattle.promql_syntax.proofs.grammar.build.build_paren.Goals as goal

pub returns-in_ok-expr-in-Ok-clause-built : goal.returns-in_ok-expr-in-Ok-clause-built
returns-in_ok-expr-in-Ok-clause-built c =
    λ builds n k d inner.
    is_expr_of builds n k c.parsed_node.result (grammar.paren d) _ _ (c.parsed_node.ensures.value ∙ ap (λ e. Ok (tree_of e)) c.in_ok-expr-in-Ok.ensures.ok) c.parsed_node.ensures.tall (let same = inner.tall in omega arith)
    (λ on. then_value (build d) (λ t. gives (tree.paren t)) (tree_of c.in-Ok.expr.value) _ (with_tree c.args.inner (build d) c.in-Ok.expr c.in-Ok.is (inner.built on)) (ends_given _ _ refl))
    (λ on built fits. whole_placed n k (grammar.paren d) (subexpressions (1 + k) d) c.parsed_node.result.value tt (parts_built n (subexpressions (1 + k) d) c.args.inner.value c.in-Ok.expr c.in-Ok.is (inner.placed on fits)) built)

pub returns-in-Err-clause-built : goal.returns-in-Err-clause-built
returns-in-Err-clause-built c = λ builds n k d inner.
    is_expr_of builds n k _ (grammar.paren d) _ _ c.parsed_error.ensures.value c.parsed_error.ensures.tall (let same = inner.tall in omega arith)
    (λ on. then_fault (build d) (λ t. gives (tree.paren t)) _ (with_fault c.args.inner (build d) c.in-Err.error c.in-Err.is (inner.built on)))
    (λ on built fits. passed_on n (subexpressions (1 + k) d) ((k, (grammar.paren d)) ∷ []) _ _ c.in-Err.error c.in-Err.is c.parsed_error.ensures.is (inner.placed on fits))
