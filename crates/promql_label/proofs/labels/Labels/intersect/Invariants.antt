use Rattle.std.proofs.Common.{◌≡◌, map, string_bytes, take}
use Rattle.promql_label.specs.Labels.{common, labels_of}
use Rattle.promql_label.proofs.labels.Labels.intersect.Given as goal

-- the labels so far, intersected
abbrev pub invariant-loop-own : goal.invariant-loop-own
invariant-loop-own l = labels_of l.both ≡ common (map string_bytes (take l.own-index l.own-items)) (labels_of l.other)
