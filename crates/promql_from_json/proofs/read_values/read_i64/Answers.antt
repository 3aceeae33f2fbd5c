use Rattle.promql_from_json.proofs.ErrorPlaces.{one_here}
use Rattle.promql_from_json.specs.declared.from_error.Expected.TheVariants.{Millis}
use Rattle.promql_from_json.proofs.read_values.read_i64.Goals as goal

pub returns-in-None-clause-place : goal.returns-in-None-clause-place
returns-in-None-clause-place c = λ other. c.here.ensures _ _ (one_here Millis _ other)
