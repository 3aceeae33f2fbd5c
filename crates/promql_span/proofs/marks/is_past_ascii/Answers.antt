use Rattle.promql_span.proofs.TextMarks.{past_ascii_if}
use Rattle.promql_span.proofs.marks.is_past_ascii.Goals as goal

pub returns : goal.returns
returns c = past_ascii_if c.args.query.now c.is_ascii.result c.is_ascii.ensures.cases
