use Rattle.std.proofs.Common.{refl, codes}
use Rattle.promql_from_json.specs.FormMisfits.{matcher, one}
use Rattle.promql_from_json.specs.declared.from_error.Expected.TheVariants.{Pattern}
use Rattle.promql_from_json.proofs.ErrorPlaces.{one_here, at_member, pattern_asked}
use Rattle.promql_label.specs.Answers.{Allows, rejected}
use Rattle.serde_json.specs.Data.{string}
use Rattle.promql_from_json.proofs.read_labels.new_matcher.Goals as goal

pub returns-clause-place : goal.returns-clause-place
returns-clause-place c = λ d typed has.
    let fault = rw c.in-Err-Pattern.field-0-is at c.in-Err-Pattern.ensures.fault in
    let allowed : Allows c.args.value.now rejected = rw c.in_ok-value.ensures.ok at fault.1 in
    c.at-in-Err-Pattern.ensures matcher d (at_member matcher (one Pattern) d (string c.args.value.now) (codes "value") Pattern
    (pattern_asked d c.args.id fault.0 typed) has (one_here Pattern _ (c.args.value.now, refl, allowed)))
