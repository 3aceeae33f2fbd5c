use Rattle.promql_ast.proofs.laws.nodes_are_printed.Goals as goal
use Rattle.promql_ast.proofs.nodes.NodesPrinted.{text_is}

pub returns : goal.returns
returns c = text_is
