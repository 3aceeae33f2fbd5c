use Rattle.std.proofs.Common.{rules, string_bytes}
use Rattle.promql_programs.proofs.enforce_task.enforced_answer.Goals as goal

-- the line is what was enforced, and a line feed comes after it
pub returns-clause-ok : goal.returns-clause-ok
returns-clause-ok c = (string_bytes c.in_ok-line.line, c.in_ok-line.ensures.ok, search rules)
