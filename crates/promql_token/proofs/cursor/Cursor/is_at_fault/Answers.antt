use Rattle.std.proofs.Common.{◌∙◌}
use Rattle.promql_token.proofs.cursors.CursorTokens.{at_fault_or_end}
use Rattle.promql_token.proofs.cursor.Cursor.is_at_fault.Goals as goal

pub returns : goal.returns
returns c none = c.is_err.ensures.value ∙ at_fault_or_end c.args.self.now c.token_at.result c.token_at.ensures.value none
