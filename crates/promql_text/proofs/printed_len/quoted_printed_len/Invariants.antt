use Rattle.std.proofs.Common.{◌≡◌, ◌+◌, ◌≤◌, length}
use Rattle.std.specs.Str.Iter.{chars_rest}
use Rattle.promql_text.specs.Quoting.{escaped_text, quoted_text}
use Rattle.promql_text.specs.PrintedLen.{usize_max, cap_usize, printed_len}
use Rattle.promql_text.proofs.printed_len.quoted_printed_len.Given as goal

-- the total so far, and the escape of what is left, are the whole
abbrev pub invariant-loop-c : goal.invariant-loop-c
invariant-loop-c l = record {
  whole : cap_usize (l.total + length (escaped_text (chars_rest l.c-iterator))) ≡ printed_len (quoted_text l.text);
  fits : l.total ≤ usize_max;
}
