use Rattle.std.proofs.Common.{inr, refl}
use Rattle.promql_query.proofs.line.long_line.Goals as goal

pub returns : goal.returns
returns c = λ u is long. inr (record { len = c.args.len; most = c.args.limits.now.max_output }, (is, refl, long), refl)
