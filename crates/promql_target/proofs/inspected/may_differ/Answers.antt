use Rattle.promql_target.proofs.NoDifferences.{no_difference}
use Rattle.promql_target.proofs.inspected.may_differ.Goals as goal

pub returns-in-Rules : goal.returns-in-Rules
returns-in-Rules c none = no_difference c.args.limits.now c.in-Rules.is c.args.query.now
