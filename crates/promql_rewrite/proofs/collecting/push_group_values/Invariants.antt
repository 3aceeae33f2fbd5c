use Rattle.std.proofs.Common.{◌≡◌, ◌++◌, filter, map, string_bytes}
use Rattle.promql_label.specs.PlainMatchers.{value_of}
use Rattle.promql_label.proofs.label_lists.MatcherSearch.{held_from, held_of}
use Rattle.promql_rewrite.specs.Collecting.{is_metric_name}
use Rattle.promql_rewrite.proofs.collecting.push_group_values.Given as goal

abbrev pub invariant-loop-group : goal.invariant-loop-group
invariant-loop-group l =
    map string_bytes l.names.items ++ map value_of (filter is_metric_name (held_from l.groups l.group-index))
    ≡ map string_bytes l.initial.names.items ++ map value_of (filter is_metric_name (held_of l.groups))
