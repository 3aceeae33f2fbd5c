use Rattle.std.proofs.Common.{◌≡◌, ◌∙◌, ap, arith, take}
use Rattle.std.specs.List.{slice_range}
use Rattle.std.specs.Str.{chars}
use Rattle.promql_span.proofs.LineParts.{front_is_up_to, whole_is_up_to}
use Rattle.promql_span.proofs.snippets.up_to.Goals as goal

pub returns-in-Some : goal.returns-in-Some
returns-in-Some c =
    let s = c.args.text.now in
    let found = c.in-Some.ensures.cases in
    let front : slice_range s 0 c.in-Some.at ≡ take c.in-Some.at s = grind arith in
    ap chars (c.range.ensures.value ∙ front) ∙ front_is_up_to c.args.stop s c.in-Some.at found.0 c.utf8.text found.3 found.1

pub returns-in-None : goal.returns-in-None
returns-in-None c = whole_is_up_to c.args.stop c.args.text.now c.utf8.text c.in-None.ensures.cases
