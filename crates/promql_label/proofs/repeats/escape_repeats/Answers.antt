use Rattle.std.proofs.Common.{arith}
use Rattle.std.specs.Str.Iter.{chars_rest}
use Rattle.std.proofs.lemmas.Grind.{common_steps}
use Rattle.promql_label.proofs.regex_answers.Escaping.{escaped_char, from_start}
use Rattle.promql_label.proofs.repeats.escape_repeats.Goals as goal

pub loop-c-preserved-then-not-taken-2 : goal.loop-c-preserved-then-not-taken-2
loop-c-preserved-then-not-taken-2 c =
    let e = escaped_char c.loop-c.taken c.in-Some.c (chars_rest c.next.new.self) in
    grind (arith, common_steps, e)

pub loop-c-preserved : goal.loop-c-preserved
loop-c-preserved c =
    let e = escaped_char c.loop-c.taken c.in-Some.c (chars_rest c.next.new.self) in
    grind (arith, common_steps, e)

pub loop-c-init : goal.loop-c-init
loop-c-init c =
    let e = from_start c.args.pattern.now in
    grind (arith, common_steps, e)

pub returns : goal.returns
returns c = grind (arith, common_steps)
