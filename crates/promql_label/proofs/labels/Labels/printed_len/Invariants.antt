use Rattle.std.proofs.Common.{◌≡◌, codes, string_bytes, take}
use Rattle.std.specs.List.{join_by}
use Rattle.promql_text.specs.PrintedLen.{printed_len}
use Rattle.promql_label.specs.Labels.{label_text}
use Rattle.promql_label.proofs.labels.Labels.printed_len.Given as goal

abbrev pub invariant-loop-i : goal.invariant-loop-i
invariant-loop-i l = l.total ≡ printed_len (join_by (λ label. label_text (string_bytes label)) (codes ", ") (take l.i l.label-items))
