use Rattle.std.proofs.Common.{subst}
use Rattle.promql_c.specs.CallResults.{ShowsSome}
use Rattle.promql_c.specs.Calls.{IsEnforceOf}
use Rattle.promql_c.proofs.call_enforce.Goals as goal

pub returns : goal.returns
returns c =
    subst (λ limits. ShowsSome (IsEnforceOf limits c.args.query.now c.args.matcher.now) c.enforce.result c.args.buffer.now c.enforce.new.buffer)
    c.limits.ensures
    c.enforce.ensures
