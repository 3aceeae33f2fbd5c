use Rattle.std.proofs.Common.{subst, sym, ◌∙◌, ap, None}
use Rattle.promql_ast.specs.View.{tree_of}
use Rattle.promql_grammar.specs.Grammar as grammar
use Rattle.promql_grammar.specs.GrammarParts as part
use Rattle.promql_syntax.specs.ParsesPart.{IsBuiltBy}
use Rattle.promql_syntax.specs.ParsesExpr.{tree_result}
use Rattle.promql_label.specs.MatcherViews.{plain_matchers_of}
use Rattle.promql_syntax.specs.Asking.{EndsIn}
use Rattle.promql_syntax.specs.Building.{build, selector_tree}
use Rattle.promql_syntax.specs.PartBuilding.{braces_value}
use Rattle.promql_syntax.proofs.building.Ending.{ends_held, then_value, then_fault}
use Rattle.promql_syntax.proofs.building.BuiltForms.{if_ok_both, selector_ends}
use Rattle.promql_syntax.proofs.grammar.build_atom.build_braces.Goals as goal

pub returns-in_ok-expr-in-Ok-clause-built : goal.returns-in_ok-expr-in-Ok-clause-built
returns-in_ok-expr-in-Ok-clause-built c =
    if_ok_both {R = λ parsed. (braces : part.Braces) → IsBuiltBy plain_matchers_of c.args.matchers (braces_value braces) → EndsIn (build (grammar.nameless braces)) (tree_result parsed)} _ c.check_node.ensures.value c.check_node.ensures.tall (λ parsed value tall. λ braces matchers.
    let ends = rw c.in-Ok.is at (ends_held plain_matchers_of _ (braces_value braces) matchers) in
    subst (EndsIn (build (grammar.nameless braces))) (sym value)
    (then_value (braces_value braces) (λ cs. selector_tree None cs) (plain_matchers_of c.in-Ok.matchers) _ ends (selector_ends _ None _ (ap tree_of c.in_ok-expr-in-Ok.ensures.ok ∙ c.new_vector_selector.ensures))))

pub returns-in-Err-clause-built : goal.returns-in-Err-clause-built
returns-in-Err-clause-built c = λ braces matchers.
    let ends = rw c.in-Err.is at (ends_held plain_matchers_of _ (braces_value braces) matchers) in
    subst (EndsIn (build (grammar.nameless braces))) (sym c.parsed_error.ensures.value) (then_fault (braces_value braces) (λ cs. selector_tree None cs) _ ends)
