use Rattle.std.proofs.Common.{◌≡◌, ◌++◌, string_bytes}
use Rattle.std.specs.Str.Iter.{chars_rest}
use Rattle.promql_label.specs.Repeats.{escaped_repeats}
use Rattle.promql_label.proofs.regex_answers.Escaping.{escaped_from}
use Rattle.promql_label.proofs.repeats.escape_repeats.Given as goal

-- what is written, and the escaped form of what is left, are the escaped form of all
abbrev pub invariant-loop-c : goal.invariant-loop-c
invariant-loop-c l = string_bytes l.escaped ++ escaped_from l.taken (chars_rest l.rest) ≡ escaped_repeats l.pattern
