use Rattle.std.proofs.Common.{◌≡◌, ◌+◌, drop}
use Rattle.std.specs.List.{prefix_len}
use Rattle.promql_text.specs.Durations.{is_no_digit}
use Rattle.promql_text.proofs.duration.word_len.Given as goal

abbrev pub invariant-loop-i : goal.invariant-loop-i
invariant-loop-i l = l.i + prefix_len is_no_digit (drop l.i l.text) ≡ prefix_len is_no_digit l.text
