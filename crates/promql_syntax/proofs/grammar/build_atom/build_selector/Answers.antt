use Rattle.std.proofs.Common.{subst, sym, ◌∙◌, ap, Some, None}
use Rattle.promql_ast.specs.Selectors.{selector}
use Rattle.promql_ast.specs.Tree as tree
use Rattle.promql_ast.specs.View.{tree_of}
use Rattle.promql_grammar.specs.Grammar as grammar
use Rattle.promql_grammar.specs.GrammarParts as part
use Rattle.promql_grammar.specs.declared.token_kinds.TokenKind.{TokenKind}
use Rattle.promql_syntax.specs.ParsesPart.{IsBuiltBy}
use Rattle.promql_syntax.specs.ParsesExpr.{tree_result}
use Rattle.promql_label.specs.MatcherViews.{plain_matchers_of}
use Rattle.promql_syntax.specs.Asking.{EndsIn}
use Rattle.promql_syntax.specs.Building.{build, selector_tree}
use Rattle.promql_syntax.specs.PartBuilding.{braces_value}
use Rattle.promql_syntax.proofs.building.Ending.{ends_held, then_value, then_fault}
use Rattle.promql_syntax.proofs.building.BuiltForms.{if_ok_both, selector_ends}
use Rattle.promql_syntax.proofs.grammar.build_atom.build_selector.Goals as goal

pub returns-in_ok-expr-in-Ok-clause-built : goal.returns-in_ok-expr-in-Ok-clause-built
returns-in_ok-expr-in-Ok-clause-built c =
    if_ok_both {R = λ parsed. (kind : TokenKind) (braces : part.Braces) → IsBuiltBy plain_matchers_of c.args.matchers (braces_value braces) → EndsIn (build (grammar.selector kind c.args.name.now (Some braces))) (tree_result parsed)} _ c.check_node.ensures.value c.check_node.ensures.tall (λ parsed value tall. λ kind braces matchers.
    let ends = rw c.in-Ok.is at (ends_held plain_matchers_of _ (braces_value braces) matchers) in
    subst (EndsIn (build (grammar.selector kind c.args.name.now (Some braces)))) (sym value)
    (then_value (braces_value braces) (λ cs. selector_tree (Some c.args.name.now) cs) (plain_matchers_of c.in-Ok.matchers) _ ends
    (selector_ends _ (Some c.args.name.now) _ (ap tree_of c.in_ok-expr-in-Ok.ensures.ok ∙ c.new_vector_selector.ensures ∙ ap (λ n. tree.vector (selector (Some n) (plain_matchers_of c.in-Ok.matchers) None None)) c.in_ok-name-in-Ok.ensures.ok))))

pub returns-in-Err-clause-built : goal.returns-in-Err-clause-built
returns-in-Err-clause-built c = λ kind braces matchers.
    let ends = rw c.in-Err.is at (ends_held plain_matchers_of _ (braces_value braces) matchers) in
    subst (EndsIn (build (grammar.selector kind c.args.name.now (Some braces)))) (sym c.parsed_error.ensures.value) (then_fault (braces_value braces) (λ cs. selector_tree (Some c.args.name.now) cs) _ ends)
