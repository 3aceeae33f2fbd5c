use Rattle.promql_ast.proofs.laws.nodes_are_laid_out.Goals as goal
use Rattle.promql_ast.proofs.layouts.NodesLaidOut.{layout_is, lines_are}

pub returns : goal.returns
returns c = record { layouts = layout_is; lines = lines_are }
