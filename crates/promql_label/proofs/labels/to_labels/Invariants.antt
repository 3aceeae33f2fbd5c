use Rattle.std.proofs.Common.{◌≡◌, map, string_bytes, take}
use Rattle.promql_label.proofs.labels.to_labels.Given as goal

abbrev pub invariant-loop-text : goal.invariant-loop-text
invariant-loop-text g l = map string_bytes l.labels.items ≡ map g.T.AsStr.text (take l.text-index l.texts)
