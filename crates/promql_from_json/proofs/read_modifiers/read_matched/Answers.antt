use Rattle.std.proofs.Common.{refl, codes}
use Rattle.promql_from_json.specs.FormMisfits.{by_row, labels, modifier, one}
use Rattle.promql_from_json.specs.declared.from_error.Expected.TheVariants.{Flag}
use Rattle.promql_from_json.proofs.read_modifiers.read_matched.Goals as goal

pub returns-in-Err-clause-place : goal.returns-in-Err-clause-place
returns-in-Err-clause-place c = λ d names on. c.inside.ensures.place modifier (one Flag) d _ (by_row modifier (one Flag) _ (codes "on") refl) on c.in-Err.ensures.place

pub returns-in-Err-read_labels-clause-place : goal.returns-in-Err-read_labels-clause-place
returns-in-Err-read_labels-clause-place c = λ d names on. c.inside-in-Err-read_labels.ensures.place modifier labels d _ (by_row modifier labels _ (codes "labels") refl) names c.in-Err-read_labels.ensures.place
