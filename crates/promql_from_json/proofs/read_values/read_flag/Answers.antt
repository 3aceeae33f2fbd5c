use Rattle.std.proofs.Common.{rules}
use Rattle.serde_json.specs.declared.value.Value.{the_lemmas}
use Rattle.promql_from_json.proofs.ErrorPlaces.{one_here}
use Rattle.promql_from_json.specs.declared.from_error.Expected.TheVariants.{Flag}
use Rattle.promql_from_json.proofs.read_values.read_flag.Goals as goal

pub returns-in_default-clause-place : goal.returns-in_default-clause-place
returns-in_default-clause-place c = c.here.ensures _ _ (one_here Flag _ (search (rules, the_lemmas, c.in_default.not-Bool)))
