use Rattle.std.proofs.Common.{◌∙◌, sym}
use Rattle.promql_from_json.proofs.ErrorPlaces.{offset_in}
use Rattle.promql_from_json.specs.FormMisfits.{one}
use Rattle.promql_from_json.specs.declared.from_error.Expected.TheVariants.{Millis}
use Rattle.promql_from_json.proofs.read_values.read_offset.Goals as goal

pub returns-in-None-clause-place : goal.returns-in-None-clause-place
returns-in-None-clause-place c = offset_in (one Millis) _ c.read_negative.result (sym c.as_u64.ensures ∙ c.in-None.is) c.read_negative.ensures.err c.read_negative.ensures.place
