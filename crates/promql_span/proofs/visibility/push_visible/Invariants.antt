use Rattle.std.proofs.Common.{◌≡◌, ◌++◌, ◌≤◌, string_bytes}
use Rattle.std.specs.Char.Escape.{escape_unicode}
use Rattle.std.specs.Char.Iter.{escape_end, escape_rest}
use Rattle.std.specs.Prelude.{encode_utf8_all}
use Rattle.promql_span.proofs.visibility.push_visible.Given as goal

-- what was appended, and what is to be appended for the rest, is the whole
abbrev pub invariant-loop-escape : goal.invariant-loop-escape
invariant-loop-escape l = record {
  bound : escape_end l.escape-iterator ≤ 10;
  bytes : string_bytes l.out ++ encode_utf8_all (escape_rest l.escape-iterator) ≡ string_bytes l.initial.out ++ encode_utf8_all (escape_unicode l.fn.c);
}
