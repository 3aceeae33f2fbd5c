use Rattle.promql_from_json.specs.declared.from_error.Expected.TheVariants.{Number}
use Rattle.promql_from_json.proofs.ErrorPlaces.{word_here}
use Rattle.promql_from_json.proofs.read_values.number_of_text.Goals as goal

pub returns-in_default-clause-place : goal.returns-in_default-clause-place
returns-in_default-clause-place c = λ other. c.here.ensures _ _ (word_here Number _ other)

pub returns-clause-place : goal.returns-clause-place
returns-clause-place c = λ other. c.here-else-eq.ensures _ _ (word_here Number _ other)
