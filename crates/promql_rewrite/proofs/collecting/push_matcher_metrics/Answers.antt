use Rattle.std.proofs.Common.{ap, filter, map, string_bytes, sym}
use Rattle.std.specs.Prelude.{List}
use Rattle.promql_label.specs.MatcherViews.{plain_matcher_of}
use Rattle.promql_label.specs.PlainMatchers.{PlainMatcher, value_of}
use Rattle.promql_label.proofs.label_lists.MatcherSearch.{held_of}
use Rattle.promql_rewrite.specs.Collecting.{is_metric_name}
use Rattle.promql_rewrite.proofs.names.AppendedLists.{appended_as, appended_both, passed_both}
use Rattle.promql_ast.proofs.nodes.ChangedLists.{on_ok}
use Rattle.promql_rewrite.proofs.collecting.push_matcher_metrics.Goals as goal

pub returns : goal.returns
returns c =
    let old = map string_bytes c.args.names.now.items in
    let cs : List PlainMatcher = map plain_matcher_of c.args.matchers.now.matchers.items in
    let ds : List PlainMatcher = held_of c.args.matchers.now.or_matchers.items in
    on_ok c.push_group_values.result _ _
    (λ more.
    appended_as old _ _ _ (sym (passed_both value_of is_metric_name cs ds))
    (appended_both old _ _ (map value_of (filter is_metric_name cs)) (map value_of (filter is_metric_name ds)) _ _
    (ap (λ ms. map value_of (filter is_metric_name (map plain_matcher_of ms))) c.deref.ensures.value)
    (ap (λ gs. map value_of (filter is_metric_name (held_of gs))) c.deref-2.ensures.value) c.in_ok-push_values.ensures more))
    c.push_group_values.ensures
