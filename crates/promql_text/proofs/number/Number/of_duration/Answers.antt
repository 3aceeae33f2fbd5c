use Rattle.std.proofs.Common.{◌≡◌, ◌+◌, ◌*◌, ap, ◌∙◌, arith}
use Rattle.std.specs.Duration.{as_nanos}
use Rattle.promql_text.specs.Numbers.{seconds_of}
use Rattle.promql_text.specs.declared.number.Number.TheVariants.{Finite}
use Rattle.promql_text.proofs.number.Number.of_duration.Goals as goal

pub returns : goal.returns
returns c =
    let nanos : c.from-whole.result * 1000000000 + c.from.result ≡ as_nanos c.args.duration.now = omega arith in
    ap Finite (c.seconds.ensures ∙ ap seconds_of nanos)
