use Rattle.std.proofs.Common.{refl}
use Rattle.promql_from_json.specs.FormMisfits.{here, one}
use Rattle.promql_from_json.specs.declared.from_error.Expected.TheVariants.{Cardinality}
use Rattle.promql_from_json.proofs.read_modifiers.read_cardinality.Goals as goal

pub returns-in_default-clause-place : goal.returns-in_default-clause-place
returns-in_default-clause-place c = λ other. c.here.ensures (one Cardinality) _ (here (one Cardinality) _ Cardinality 0 refl other)
