use Rattle.promql_ast.proofs.laws.depths_of_layouts.Goals as goal
use Rattle.promql_ast.proofs.layouts.NodeDepths.{deepests_at, layout_depth_is, lines_depth_is}

pub returns : goal.returns
returns c = record { layouts = layout_depth_is; lines = lines_depth_is; arguments = deepests_at }
