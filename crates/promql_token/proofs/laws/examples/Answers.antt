use Rattle.promql_token.proofs.cursors.WorkedTokens.{read_faults, read_tokens, worked_faults, worked_tokens}
use Rattle.promql_token.proofs.laws.examples.Goals as goal

pub returns : goal.returns
returns c = record { tokens = worked_tokens; faults = worked_faults; tokens_read = read_tokens; faults_read = read_faults }
