use Rattle.std.proofs.Common.{subst}
use Rattle.promql_query.specs.Rejecting.{IsTold}
use Rattle.promql_query.proofs.rejected_query.expectation_of.Goals as goal

pub returns-in_ok-make_expectation-in-Some : goal.returns-in_ok-make_expectation-in-Some
returns-in_ok-make_expectation-in-Some c = (
  c.in-Some.unexpected,
  subst (IsTold c.args.query.now c.args.rejection.now) c.in-Some.is c.in_ok-unexpected.ensures,
  c.in_ok-make_expectation-in-Some.ensures,
)
