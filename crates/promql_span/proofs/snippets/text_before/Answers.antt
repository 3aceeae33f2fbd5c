use Rattle.std.proofs.Common.{◌≡◌, ◌∙◌, ap, arith, take}
use Rattle.std.specs.List.{slice_range}
use Rattle.std.specs.Str.{chars}
use Rattle.promql_span.proofs.Columns.{cut_before}
use Rattle.promql_span.proofs.snippets.text_before.Goals as goal

pub returns-clause-value : goal.returns-clause-value
returns-clause-value c =
    let s = c.args.text.now in
    let at = c.floor_char_boundary.result in
    let front : slice_range s 0 at ≡ take at s = grind arith in
    let found = c.floor_char_boundary.ensures in
    ap chars (c.range.ensures.value ∙ front) ∙ cut_before s at c.args.offset c.utf8.text found.boundary found.bound found.nearest
