use Rattle.std.proofs.Common.{◌∙◌, sym, rules}
use Rattle.promql_label.specs.MatcherViews.{plain_matcher_of}
use Rattle.promql_ast.specs.View.{tree_of}
use Rattle.promql_rewrite.specs.MappedSelectors.{selectors_in}
use Rattle.promql_rewrite.specs.declared.mapping.SelectorKind.TheVariants.{Series}
use Rattle.promql_rewrite.proofs.enforcement.EnforcedLengths.{added_up, enforced_bytes}
use Rattle.promql_rewrite.proofs.mapped.KindedSelectors.{selectors_are}
use Rattle.promql_rewrite.proofs.mapped.MappedTrees.{same_trees}
use Rattle.promql_rewrite.proofs.enforced_len.enforced_len.Goals as goal

pub returns-clause-same : goal.returns-clause-same
returns-clause-same c =
    let t = tree_of c.args.expr.now in
    let u = tree_of c.map_expr.new.expr in
    let up = added_up (selectors_in Series t) (selectors_in Series u) _ c.map_expr.new.mapper c.in_ok-map_expr.ensures.selectors in
    same_trees u t c.in_ok-map_expr.ensures.outline (selectors_are u ∙ up.0 ∙ sym (selectors_are t))

pub returns-clause-len : goal.returns-clause-len
returns-clause-len c =
    let t = tree_of c.args.expr.now in
    let u = tree_of c.map_expr.new.expr in
    let up = added_up (selectors_in Series t) (selectors_in Series u) _ c.map_expr.new.mapper c.in_ok-map_expr.ensures.selectors in
    enforced_bytes (plain_matcher_of c.args.matcher.now) t u c.len.result c.len-2.result c.map_expr.new.mapper.total c.saturating_add.result
    (search rules) (search rules) (same_trees u t c.in_ok-map_expr.ensures.outline (selectors_are u ∙ up.0 ∙ sym (selectors_are t))) up.1 c.saturating_add.ensures
