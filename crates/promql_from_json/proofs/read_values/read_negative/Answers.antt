use Rattle.promql_from_json.proofs.ErrorPlaces.{one_here}
use Rattle.promql_from_json.specs.declared.from_error.Expected.TheVariants.{Millis}
use Rattle.promql_from_json.proofs.read_values.read_negative.Goals as goal

pub returns-in_default-clause-place : goal.returns-in_default-clause-place
returns-in_default-clause-place c = λ other. c.here.ensures _ _ (one_here Millis _ other)
