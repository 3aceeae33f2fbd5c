use Rattle.std.proofs.Common.{subst, sym}
use Rattle.promql_span.specs.Inspections.{IsInspected}
use Rattle.promql_span.proofs.inspection.inspect_all_tokens.Goals as goal

pub loop-token-init : goal.loop-token-init
loop-token-init c =
    subst (λ left. IsInspected c.args.limits.now c.args.query.now left c.new-inspection.result) (sym c.new-tokens.ensures.pieces)
    (c.new-inspection.ensures c.args.limits.now c.args.query.now)
