use Rattle.std.proofs.Common.{◌≡◌, take}
use Rattle.std.specs.List.{join_by}
use Rattle.promql_text.specs.PrintedLen.{printed_len}
use Rattle.promql_label.specs.NextText.{text_of}
use Rattle.promql_label.proofs.printed_len.row_len.Given as goal

abbrev pub invariant-loop-i : goal.invariant-loop-i
invariant-loop-i l = l.total ≡ printed_len (join_by text_of l.separator (take l.i l.matchers))
