use Rattle.promql_from_json.proofs.ErrorPlaces.{one_here}
use Rattle.promql_from_json.specs.declared.from_error.Expected.TheVariants.{MatchOp}
use Rattle.promql_from_json.proofs.read_labels.read_match_op.Goals as goal

pub returns-in_default-clause-place : goal.returns-in_default-clause-place
returns-in_default-clause-place c = λ other. c.here.ensures _ _ (one_here MatchOp _ other)
