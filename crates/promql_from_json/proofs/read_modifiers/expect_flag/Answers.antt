use Rattle.promql_from_json.specs.FormMisfits.{differs}
use Rattle.promql_from_json.proofs.read_modifiers.expect_flag.Goals as goal

pub returns-in_default-clause-place : goal.returns-in_default-clause-place
returns-in_default-clause-place c = λ other. c.here.ensures _ _ (differs _ _ other)
