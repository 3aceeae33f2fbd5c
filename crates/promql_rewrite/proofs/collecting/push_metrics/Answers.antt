use Rattle.std.proofs.Common.{filter, map, option_map, option_to_list, refl, string_bytes}
use Rattle.promql_label.specs.MatcherViews.{plain_matchers_of}
use Rattle.promql_label.specs.PlainMatchers.{every, value_of}
use Rattle.promql_rewrite.specs.Collecting.{is_metric_name}
use Rattle.promql_rewrite.proofs.names.AppendedLists.{appended_both}
use Rattle.promql_ast.proofs.nodes.ChangedLists.{on_ok}
use Rattle.promql_rewrite.proofs.collecting.push_metrics.Goals as goal

pub returns : goal.returns
returns c =
    let selector = c.args.selector.now in
    on_ok c.push_matcher_metrics.result _ _
    (λ more.
    appended_both (map string_bytes c.args.names.now.items) _ _ (option_to_list (option_map string_bytes selector.name))
    (map value_of (filter is_metric_name (every (plain_matchers_of selector.matchers)))) _ _ refl refl c.in_ok-push_optional.ensures more)
    c.push_matcher_metrics.ensures
