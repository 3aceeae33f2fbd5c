use Rattle.std.proofs.Common.{◌≡◌, ◌++◌, string_bytes}
use Rattle.std.specs.Prelude.{encode_utf8_all}
use Rattle.std.specs.Str.{IsUtf8, chars}
use Rattle.std.specs.Str.Iter.{chars_rest}
use Rattle.promql_span.specs.Visible.{visible}
use Rattle.promql_span.proofs.visibility.visible.Given as goal

-- what was appended, and what is to be appended for the rest, is the whole
abbrev pub invariant-loop-c : goal.invariant-loop-c
invariant-loop-c l = record {
  text : IsUtf8 (chars_rest l.c-iterator);
  bytes : string_bytes l.shown ++ encode_utf8_all (visible (chars (chars_rest l.c-iterator))) ≡ encode_utf8_all (visible (chars l.text));
}
