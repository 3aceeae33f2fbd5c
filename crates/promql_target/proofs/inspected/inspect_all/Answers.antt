use Rattle.std.proofs.Common.{subst, sym}
use Rattle.promql_span.specs.Inspections.{IsInspected}
use Rattle.promql_target.specs.Searching.{IsSearched}
use Rattle.promql_target.proofs.inspected.inspect_all.Goals as goal

pub loop-token-init : goal.loop-token-init
loop-token-init c =
    let q = c.args.query.now in (
      subst (λ left. IsInspected c.args.limits.now q left c.new-inspection.result) (sym c.new-tokens.ensures.pieces) (c.new-inspection.ensures c.args.limits.now q),
      subst (λ left. IsSearched c.args.target q left c.new-found.result) (sym c.new-tokens.ensures.pieces) (c.new-found.ensures c.args.target q),
    )
