use Rattle.std.proofs.Common.{◌*◌, ◌^◌, ◌∙◌, ap}
use Rattle.promql_text.specs.DurationReaders.{cap_u128}
use Rattle.promql_text.proofs.durations.RoundedQuotients.{capped_zeros}
use Rattle.promql_text.proofs.seconds.with_zeros.Goals as goal

pub returns : goal.returns
returns c =
    c.saturating_mul.ensures
    ∙ ap (λ p. cap_u128 (c.args.n * p)) (c.saturating_pow.ensures ∙ ap (λ z. cap_u128 (10 ^ z)) c.min.ensures)
    ∙ capped_zeros c.args.n c.args.zeros
