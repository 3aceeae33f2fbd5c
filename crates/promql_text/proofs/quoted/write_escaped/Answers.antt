use Rattle.std.proofs.Common.{refl, ap, ◌∙◌}
use Rattle.std.specs.Char.{encode_utf8}
use Rattle.std.specs.Str.Iter.{chars_rest}
use Rattle.promql_text.specs.Quoting.{escaped_text}
use Rattle.promql_text.proofs.quoting.Escapes.{escaped_text-append, escaped_text-empty}
use Rattle.promql_text.proofs.writing.Writing.{writing_flush, writing_start, writing_more, writing_end}
use Rattle.promql_text.proofs.quoted.write_escaped.Goals as goal

pub loop-c-init : goal.loop-c-init
loop-c-init g c = λ flush. writing_start g.W.Write.write_str_gives _ _ _ flush cc

pub loop-c-preserved : goal.loop-c-preserved
loop-c-preserved g c = λ flush.
    let took = g.W.Write.write_str_gives in
    let so_far = c.loop-c.invariant flush in
    let now = c.in_ok-write_escaped_char.ensures (writing_flush took _ _ _ _ so_far) refl in
    let left = chars_rest c.next.new.self in
    writing_more took _ _ _ _ _ _ _ so_far now (ap escaped_text c.in-Some.ensures.steps.0 ∙ escaped_text-append (encode_utf8 c.in-Some.c) left)

pub returns : goal.returns
returns g c = λ flush ok.
    writing_end g.W.Write.write_str_gives _ _ _ _ (c.loop-c.invariant flush) (escaped_text-empty (chars_rest c.loop-c.c-iterator) c.in-None.ensures.steps.0.0)
