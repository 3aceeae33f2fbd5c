use Rattle.promql_ast.proofs.checking.FirstFaults.{first_rejects}
use Rattle.promql_ast.proofs.laws.checks_find_the_first_fault.Goals as goal

pub returns : goal.returns
returns c = first_rejects
