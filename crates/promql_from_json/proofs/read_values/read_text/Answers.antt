use Rattle.std.proofs.Common.{rules}
use Rattle.serde_json.specs.declared.value.Value.{the_lemmas}
use Rattle.promql_from_json.specs.FormMisfits.{here}
use Rattle.promql_from_json.specs.declared.from_error.Expected.TheVariants.{Text}
use Rattle.promql_from_json.proofs.read_values.read_text.Goals as goal

pub returns-in_default-clause-place : goal.returns-in_default-clause-place
returns-in_default-clause-place c = λ f asks. c.here.ensures f _ (here f _ Text 0 asks (search (rules, the_lemmas, c.in_default.not-String)))
