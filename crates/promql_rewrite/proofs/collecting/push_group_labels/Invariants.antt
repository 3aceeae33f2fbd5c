use Rattle.std.proofs.Common.{◌≡◌, ◌++◌, filter, map, string_bytes}
use Rattle.promql_label.specs.PlainMatchers.{name_of}
use Rattle.promql_label.proofs.label_lists.MatcherSearch.{held_from, held_of}
use Rattle.promql_rewrite.specs.Collecting.{is_label_matcher}
use Rattle.promql_rewrite.proofs.collecting.push_group_labels.Given as goal

abbrev pub invariant-loop-group : goal.invariant-loop-group
invariant-loop-group l =
    map string_bytes l.names.items ++ map name_of (filter is_label_matcher (held_from l.groups l.group-index))
    ≡ map string_bytes l.initial.names.items ++ map name_of (filter is_label_matcher (held_of l.groups))
