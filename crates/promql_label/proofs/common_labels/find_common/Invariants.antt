use Rattle.std.proofs.Common.{◌≡◌, ◌&&◌, map, not, string_bytes, take}
use Rattle.promql_text.specs.Texts.{Text}
use Rattle.promql_label.specs.LabelSets.{has_text}
use Rattle.promql_label.specs.Labels.{common, is_among}
use Rattle.promql_label.proofs.common_labels.find_common.Given as goal

-- the common labels so far, and the others that are left: those that were not looked at
abbrev pub invariant-search : goal.invariant-search
invariant-search l = record {
  both : map string_bytes l.both.items ≡ common (map string_bytes (take l.label-index l.labels)) (map string_bytes l.others);
  left : (t : Text) → has_text l.left t ≡ (is_among (map string_bytes l.others) t && not (is_among (map string_bytes (take l.label-index l.labels)) t));
}
