use Rattle.std.proofs.Common.{refl, codes}
use Rattle.promql_from_json.specs.FormMisfits.{by_row, labels, node_named, one}
use Rattle.promql_from_json.specs.declared.from_error.Expected.TheVariants.{Flag}
use Rattle.promql_from_json.proofs.read_modifiers.read_grouping.Goals as goal

pub returns-in-Err-clause-place : goal.returns-in-Err-clause-place
returns-in-Err-clause-place c = λ n d grouping without. c.inside.ensures.place (node_named (codes "aggregation") n) (one Flag) d _ (by_row (node_named (codes "aggregation") n) (one Flag) _ (codes "without") refl) without c.in-Err.ensures.place

pub returns-in-Err-read_labels-clause-place : goal.returns-in-Err-read_labels-clause-place
returns-in-Err-read_labels-clause-place c = λ n d grouping without. c.inside-in-Err-read_labels.ensures.place (node_named (codes "aggregation") n) labels d _ (by_row (node_named (codes "aggregation") n) labels _ (codes "grouping") refl) grouping c.in-Err-read_labels.ensures.place
