use Rattle.std.proofs.Common.{◌∙◌, ap}
use Rattle.promql_ast.specs.Arguments.{append_tree}
use Rattle.promql_ast.specs.View.{tree_of, trees_of}
use Rattle.promql_ast.proofs.nodes.Args.{appended_trees}
use Rattle.promql_ast.proofs.call.FunctionArgs.append_args.Goals as goal

pub returns : goal.returns
returns c =
    ap trees_of c.in_ok-push.ensures.items ∙ appended_trees (λ b. tree_of b.value) c.args.self.args.items c.in_ok-new.field-0
    ∙ ap (λ e. append_tree (trees_of c.args.self.args.items) (tree_of e)) c.in_ok-new.ensures.ok
