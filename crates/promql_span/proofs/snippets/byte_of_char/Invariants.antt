use Rattle.std.proofs.Common.{◌≡◌, drop}
use Rattle.std.specs.Str.{IsCharBoundary, IsUtf8, chars}
use Rattle.std.specs.Str.Iter.{chars_rest}
use Rattle.promql_span.proofs.snippets.byte_of_char.Given as goal

-- what is left of the text, and how many of its characters are to be passed
abbrev pub invariant-loop-c : goal.invariant-loop-c
invariant-loop-c l = record {
  text : IsUtf8 (chars_rest l.c-iterator);
  rest : drop l.at l.text ≡ chars_rest l.c-iterator;
  place : IsCharBoundary l.text l.at;
  back : drop l.left (chars (chars_rest l.c-iterator)) ≡ drop l.index (chars l.text);
}
