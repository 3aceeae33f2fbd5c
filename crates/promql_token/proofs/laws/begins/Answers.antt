use Rattle.promql_token.proofs.beginnings.ScannedForms.{begins, faults}
use Rattle.promql_token.proofs.laws.begins.Goals as goal

pub returns : goal.returns
returns c = record { token = begins; fault = faults }
