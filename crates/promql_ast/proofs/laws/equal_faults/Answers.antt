use Rattle.promql_ast.proofs.equality.SameFaults.{context_Decides, node_Decides, fault_Decides, error_Decides, at_Decides}
use Rattle.promql_ast.proofs.laws.equal_faults.Goals as goal

pub returns : goal.returns
returns c = record {
  contexts = context_Decides;
  nodes = node_Decides;
  checks = fault_Decides;
  errors = error_Decides;
  times = at_Decides;
}
