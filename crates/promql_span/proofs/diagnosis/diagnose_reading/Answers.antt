use Rattle.promql_span.proofs.ErrorPlacing.{reading_found}
use Rattle.promql_span.proofs.diagnosis.diagnose_reading.Goals as goal

pub span_of-span-requires : goal.span_of-span-requires
span_of-span-requires c = rw (c.first_error-error.ensures, c.from.ensures) (reading_found c.args.text.now c.args.error _ c.reading_finding-found.ensures)
