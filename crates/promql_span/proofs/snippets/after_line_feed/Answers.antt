use Rattle.std.proofs.Common.{◌∙◌, ap, drop, sym}
use Rattle.std.specs.Str.{chars}
use Rattle.promql_span.proofs.LineParts.{after_is_last, whole_is_last}
use Rattle.promql_span.proofs.snippets.after_line_feed.Goals as goal

pub returns-in-Some : goal.returns-in-Some
returns-in-Some c =
    let s = c.args.text.now in
    let found = c.in-Some.ensures.cases in
    ap chars c.range_from.ensures.value ∙ ap (λ n. chars (drop n s)) (sym found.1.1.ends) ∙ after_is_last s c.in-Some.at found.0 c.utf8.text found.3 found.1

pub returns-in-None : goal.returns-in-None
returns-in-None c = whole_is_last c.args.text.now c.utf8.text c.in-None.ensures.cases
