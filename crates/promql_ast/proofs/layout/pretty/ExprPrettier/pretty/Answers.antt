use Rattle.promql_ast.specs.Layout.{layout_of}
use Rattle.promql_ast.specs.Text.{text}
use Rattle.promql_ast.specs.View.{tree_of}
use Rattle.promql_ast.proofs.layouts.Layouts.{keeps_alike, laid_alike}
use Rattle.promql_ast.proofs.layout.pretty.ExprPrettier.pretty.Goals as goal

pub returns-clause-keeps : goal.returns-clause-keeps
returns-clause-keeps c =
    let t = tree_of c.args.self.now in
    keeps_alike (layout_of t c.args.level c.args.max) (text t) c.pretty_counted.result (laid_alike t c.args.level c.args.max) c.pretty_counted.ensures.text
