use Rattle.promql_token.proofs.one_reading.OneReading.{only_tokens, steps_to_end, steps_to_fault}
use Rattle.promql_token.proofs.laws.only_tokens.Goals as goal

pub returns : goal.returns
returns c = record { tokens = only_tokens; to_end = steps_to_end; to_fault = steps_to_fault }
