use Rattle.std.specs.Fmt.{IsFlush}
use Rattle.std.specs.Str.Iter.{chars_rest}
use Rattle.promql_text.specs.Quoting.{escaped_text}
use Rattle.promql_text.proofs.writing.Writing.{Writing}
use Rattle.promql_text.proofs.quoted.write_escaped.Given as goal

-- what is written, and the escape of what is left, are the escape of all
abbrev pub invariant-loop-c : goal.invariant-loop-c
invariant-loop-c g l =
    IsFlush l.initial.f → Writing g.W.Write.write_str_gives l.initial.f (escaped_text l.text) l.f (escaped_text (chars_rest l.c-iterator))
