use Rattle.std.proofs.Common.{◌≡◌, ◌+◌, ◌≤◌, length}
use Rattle.std.specs.Str.{IsUtf8, chars}
use Rattle.std.specs.Str.Iter.{chars_rest}
use Rattle.promql_span.specs.Locations.{column_utf16_of}
use Rattle.promql_span.proofs.Columns.{column_from, len_utf16}
use Rattle.promql_span.proofs.location.Location.column_utf16.Given as goal

-- what was counted, and what is to be counted of the rest, is the whole
abbrev pub invariant-loop-c : goal.invariant-loop-c
invariant-loop-c l = record {
  column : column_from len_utf16 l.column (chars (chars_rest l.c-iterator)) ≡ column_utf16_of (chars l.text) l.offset;
  text : IsUtf8 (chars_rest l.c-iterator);
  fits : l.column + length (chars_rest l.c-iterator) ≤ 1 + length l.text;
  rest_fits : length (chars_rest l.c-iterator) ≤ length l.text;
}
