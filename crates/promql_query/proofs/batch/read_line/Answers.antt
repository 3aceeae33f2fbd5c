use Rattle.std.proofs.Common.{◌-◌, length, ap, ◌∙◌}
use Rattle.std.specs.List.{slice_get}
use Rattle.promql_query.proofs.LinesRead.{last_read}
use Rattle.promql_query.proofs.batch.read_line.Goals as goal

pub returns-in-Some-clause-ok : goal.returns-in-Some-clause-ok
returns-in-Some-clause-ok g c =
    last_read _ _ c.clear.new.self.items c.read_until.new.buf.items c.in-Some.field-0.now c.clear.ensures.items
    (c.in-Some.ensures.value ∙ ap (λ line. slice_get line (length line - 1)) c.deref.ensures.value)
    c.in-Some.field-0-test.1 c.in-Ok.ensures.stops c.in-Ok.ensures.bytes c.in-Ok.ensures.none_lost
