use Rattle.std.proofs.Common.{arith}
use Rattle.std.specs.Str.Iter.{chars_rest}
use Rattle.std.proofs.lemmas.Grind.{common_steps}
use Rattle.promql_text.proofs.quoting.Quotes.{escaped_plain}
use Rattle.promql_text.proofs.quote.escape_string.Goals as goal

pub loop-c-preserved : goal.loop-c-preserved
loop-c-preserved c =
    let e = escaped_plain c.in-Some.c (chars_rest c.next.new.self) (λ low. c.in-None-escape_of.ensures) in
    grind (arith, common_steps, e)
