use Rattle.promql_ast.specs.NodeView.{tree_of_node}
use Rattle.promql_ast.proofs.layouts.Layouts.{keeps_lines}
use Rattle.promql_ast.proofs.layout.pretty.AnyPrettier.format.Goals as goal

pub returns-clause-keeps : goal.returns-clause-keeps
returns-clause-keeps g c = keeps_lines (tree_of_node c.node.result) (g.T.LayoutNode.tree c.args.self.now) c.args.level c.args.max (g.T.Display.output c.args.self.now) c.format.result c.node.ensures (g.met.T.LayoutNode.shows c.args.self.now) c.format.ensures.text
