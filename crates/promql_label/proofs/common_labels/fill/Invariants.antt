use Rattle.std.proofs.Common.{◌≡◌, length, map, string_bytes, take}
use Rattle.promql_label.specs.LabelRows.{label_texts}
use Rattle.promql_label.proofs.common_labels.fill.Given as goal

-- the row begins with the labels so far
abbrev pub invariant-texts : goal.invariant-texts
invariant-texts l = record {
  len : length l.row ≡ length l.labels;
  texts : label_texts (take l.i l.row) ≡ map string_bytes (take l.i l.labels);
}
