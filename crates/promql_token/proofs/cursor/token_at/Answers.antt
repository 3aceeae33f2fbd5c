use Rattle.std.proofs.Common.{rules}
use Rattle.promql_token.proofs.one_reading.Items.{Here, here, token_ends, ends_here, token_place, fault_place, token_value, fault_value}
use Rattle.promql_token.proofs.cursor.token_at.Goals as goal
use Rattle.promql_token.proofs.cursor.token_at.Goals.{After-scan_token}

facts : (c : After-scan_token) → Here c.args.text.now c.args.at c.args.state c.trivia_len-trivia.result c.scan_token.result
facts c = here _ _ _ _ _ _ _ c.utf8.text c.requires c.as_bytes-bytes.ensures.value c.trivia_len-trivia.ensures.value c.after_trivia.ensures c.scan_token.ensures

pub overflow_add-result : goal.overflow_add-result
overflow_add-result c = let at = (fault_place (facts (goal.at.overflow_add-result c).After-scan_token) _ _ c.in-Err.is).0 in search rules

pub returns-in-Ok-clause-value : goal.returns-in-Ok-clause-value
returns-in-Ok-clause-value c = token_value (facts (goal.at.returns-in-Ok-clause-value c).After-scan_token) _ _ c.in-Ok.is

pub returns-in-Ok-clause-front : goal.returns-in-Ok-clause-front
returns-in-Ok-clause-front c = ends_here (facts (goal.at.returns-in-Ok-clause-front c).After-scan_token)

pub returns-in-Ok-clause-place : goal.returns-in-Ok-clause-place
returns-in-Ok-clause-place c = token_place (facts (goal.at.returns-in-Ok-clause-place c).After-scan_token) _ _ c.in-Ok.is

pub returns-in-Ok-clause-moves : goal.returns-in-Ok-clause-moves
returns-in-Ok-clause-moves c = (token_ends (facts (goal.at.returns-in-Ok-clause-moves c).After-scan_token) _ _ c.in-Ok.is).1

pub returns-in-Err-clause-value : goal.returns-in-Err-clause-value
returns-in-Err-clause-value c = fault_value (facts (goal.at.returns-in-Err-clause-value c).After-scan_token) _ _ c.in-Err.is

pub returns-in-Err-clause-fault : goal.returns-in-Err-clause-fault
returns-in-Err-clause-fault c = fault_place (facts (goal.at.returns-in-Err-clause-fault c).After-scan_token) _ _ c.in-Err.is
