use Rattle.std.proofs.Common.{[], arith, refl}
use Rattle.promql_span.proofs.TokenMeasures.{tokens_are_few}
use Rattle.promql_span.proofs.inspection.Inspection.new.Goals as goal

pub returns : goal.returns
returns c = λ limits text. record { fits = omega (arith, tokens_are_few text); measured = ([], refl, refl, c.new.ensures _ _); otherwise = refl }
