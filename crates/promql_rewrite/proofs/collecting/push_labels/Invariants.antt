use Rattle.std.proofs.Common.{◌≡◌, ◌++◌, drop, map, string_bytes}
use Rattle.promql_rewrite.proofs.collecting.push_labels.Given as goal

abbrev pub invariant-loop-label : goal.invariant-loop-label
invariant-loop-label l =
    map string_bytes l.names.items ++ map string_bytes (drop l.label-index l.labels)
    ≡ map string_bytes l.initial.names.items ++ map string_bytes l.labels
