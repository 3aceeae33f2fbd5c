use Rattle.std.proofs.Common.{subst, sym}
use Rattle.promql_target.specs.Searching.{IsSearched}
use Rattle.promql_target.proofs.refusal.first_refusal.Goals as goal

pub loop-token-init : goal.loop-token-init
loop-token-init c =
    subst (λ left. IsSearched c.args.target c.args.query.now left c.new-found.result) (sym c.new-tokens.ensures.pieces) (c.new-found.ensures c.args.target c.args.query.now)
