use Rattle.promql_ast.proofs.checking.GivenTimes.{at_by_times, offset_by_times}
use Rattle.promql_ast.proofs.laws.times_are_given_once.Goals as goal

pub returns : goal.returns
returns c = record { at = at_by_times; offset = offset_by_times }
