use Rattle.std.proofs.Common.{rules}
use Rattle.promql_text.proofs.writing.PrintedLengths.{whole_duration_at}
use Rattle.promql_text.proofs.printed_len.duration_printed_len.Goals as goal

pub returns-then-nanos-eq0-2 : goal.returns-then-nanos-eq0-2
returns-then-nanos-eq0-2 c = whole_duration_at _ _ _ (search rules) c.if-nanos-eq0.false c.if-nanos-eq0-2.true c.whole_len.ensures.value c.whole_len.ensures.short
