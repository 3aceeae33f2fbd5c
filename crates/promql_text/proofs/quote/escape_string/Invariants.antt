use Rattle.std.proofs.Common.{◌≡◌, ◌++◌}
use Rattle.std.specs.String.{string_bytes}
use Rattle.std.specs.Str.Iter.{chars_rest}
use Rattle.promql_text.specs.Quoting.{escaped_text}
use Rattle.promql_text.proofs.quote.escape_string.Given as goal

-- what is written, and the escape of what is left, are the escape of all
abbrev pub invariant-loop-c : goal.invariant-loop-c
invariant-loop-c l = string_bytes l.out ++ escaped_text (chars_rest l.c-iterator) ≡ escaped_text l.s
