use Rattle.std.proofs.Common.{ap, arith, map, sym}
use Rattle.std.specs.Prelude.{slice_get}
use Rattle.promql_token.specs.Cursor.{tokens_up_to_fault}
use Rattle.promql_span.proofs.TokenMeasures.{tokens_are_few}
use Rattle.promql_target.specs.Refusals.{kinds, refusal_at}
use Rattle.promql_target.proofs.refusal.FoundRefusal.new.Goals as goal

pub returns : goal.returns
returns c = λ target text. record {
  fits = omega (arith, tokens_are_few text);
  first = ap (λ place. slice_get (map (refusal_at text) (kinds target 0 place (tokens_up_to_fault text))) 0) (sym c.start.ensures);
}
