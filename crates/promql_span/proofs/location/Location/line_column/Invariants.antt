use Rattle.std.proofs.Common.{◌≡◌, ◌+◌, ◌≤◌, length}
use Rattle.std.specs.List.{count_by}
use Rattle.std.specs.Str.{IsUtf8, chars}
use Rattle.std.specs.Str.Iter.{chars_rest}
use Rattle.promql_span.specs.Locations.{is_line_feed, location_of}
use Rattle.promql_span.proofs.Columns.{column_from, one}
use Rattle.promql_span.proofs.location.Location.line_column.Given as goal

-- what was counted, and what is to be counted of the rest, is the whole
abbrev pub invariant-loop-c : goal.invariant-loop-c
invariant-loop-c l = record {
  line : l.location.line + count_by is_line_feed (chars (chars_rest l.c-iterator)) ≡ (location_of l.text l.offset).line;
  column : column_from one l.location.column (chars (chars_rest l.c-iterator)) ≡ (location_of l.text l.offset).column;
  text : IsUtf8 (chars_rest l.c-iterator);
  line_fits : l.location.line + length (chars_rest l.c-iterator) ≤ 1 + length l.text;
  column_fits : l.location.column + length (chars_rest l.c-iterator) ≤ 1 + length l.text;
}
