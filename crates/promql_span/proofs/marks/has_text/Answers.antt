use Rattle.std.proofs.lemmas.Str.Pattern.{contains_text}
use Rattle.promql_span.proofs.TextMarks.{has_text_if}
use Rattle.promql_span.proofs.marks.has_text.Goals as goal

pub returns : goal.returns
returns c = has_text_if c.args.text.now c.args.query.now c.contains.result (contains_text c.contains.result c.args.text.now c.args.query.now c.contains.ensures.cases)
