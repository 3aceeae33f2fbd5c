use Rattle.std.proofs.Common.{◌≡◌, ◌++◌, map, string_bytes}
use Rattle.std.specs.Str.{IsUtf8, chars}
use Rattle.std.specs.Str.Iter.{chars_rest}
use Rattle.promql_span.specs.Snippets.{blank}
use Rattle.promql_span.proofs.snippets.push_blank.Given as goal

-- what was appended, and what is to be appended for the rest, is the whole
abbrev pub invariant-loop-c : goal.invariant-loop-c
invariant-loop-c l = record {
  text : IsUtf8 (chars_rest l.c-iterator);
  bytes : string_bytes l.out ++ map blank (chars (chars_rest l.c-iterator)) ≡ string_bytes l.initial.out ++ map blank (chars l.before);
}
