use Rattle.std.proofs.Common.{◌≡◌, map, string_bytes, take}
use Rattle.promql_text.specs.Texts.{Text}
use Rattle.promql_label.specs.LabelSets.{has_text}
use Rattle.promql_label.specs.Labels.{is_among}
use Rattle.promql_label.proofs.common_labels.to_set.Given as goal

-- the set has the labels so far
abbrev pub invariant-texts : goal.invariant-texts
invariant-texts l = (t : Text) → has_text l.set t ≡ is_among (map string_bytes (take l.label-index l.labels)) t
