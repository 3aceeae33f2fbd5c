use Rattle.std.proofs.Common.{◌≡◌, arith, ap, length, ◌∙◌, length-append}
use Rattle.std.specs.Char.{encode_utf8}
use Rattle.std.specs.Str.Iter.{chars_rest}
use Rattle.promql_text.specs.Quoting.{escaped_text}
use Rattle.promql_text.proofs.quoting.Escapes.{escaped_text-append, escaped_text-empty}
use Rattle.promql_text.proofs.writing.PrintedLengths.{quoted_length}
use Rattle.promql_text.proofs.printed_len.quoted_printed_len.Goals as goal

pub loop-c-init : goal.loop-c-init
loop-c-init c =
    let all : chars_rest c.into_iter-c-iterator.result ≡ c.args.text.now = cc in
    record { whole = omega (arith, quoted_length c.args.text.now, ap (λ t. length (escaped_text t)) all); fits = omega arith }

pub loop-c-preserved : goal.loop-c-preserved
loop-c-preserved c =
    let left = chars_rest c.next.new.self in
    let cut = ap escaped_text c.in-Some.ensures.steps.0 ∙ escaped_text-append (encode_utf8 c.in-Some.c) left in
    record { whole = omega (arith, c.loop-c.invariant.whole, ap length cut, length-append (escaped_text (encode_utf8 c.in-Some.c)) (escaped_text left), c.escaped_len.ensures, c.saturating_add-total.ensures); fits = omega (arith, c.saturating_add-total.ensures) }

pub returns : goal.returns
returns c = omega (arith, c.loop-c.invariant.fits, c.loop-c.invariant.whole, quoted_length c.args.text.now, ap length (escaped_text-empty (chars_rest c.loop-c.c-iterator) c.in-None.ensures.steps.0.0))
