use Rattle.std.proofs.Common.{◌≡◌, IfOk, subst, sym}
use Rattle.promql_token.specs.Cursor.{tokens_left}
use Rattle.promql_span.specs.Differences as spec
use Rattle.promql_span.proofs.differences.kind_at.Goals as goal

pub returns-in-8 : goal.returns-in-8
returns-in-8 c =
    subst (λ id. IfOk c.call_difference.result (λ kind. kind ≡ spec.kind_at c.args.before (id, c.args.token.now) (tokens_left c.args.rest)))
    (sym c.in-8.is) (c.call_difference.ensures c.args.before)
