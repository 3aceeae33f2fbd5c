use Rattle.promql_token.proofs.one_reading.SpansToFault.{spans_to_fault}
use Rattle.promql_token.proofs.laws.spans_to_fault.Goals as goal

pub returns : goal.returns
returns c = spans_to_fault
