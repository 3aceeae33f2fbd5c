use Rattle.promql_span.proofs.ErrorPlacing.{found_place}
use Rattle.promql_span.proofs.diagnosis.span_of.Goals as goal

pub returns-in_default : goal.returns-in_default
returns-in_default c = found_place c.args.text.now c.args.error.now c.args.found _ c.in_default.not-Memory c.in_default.not-Lex c.in_default.not-Empty c.requires (c.found_span.ensures c.args.error.now)
