use Rattle.std.proofs.Common.{◌∙◌, ap, length}
use Rattle.promql_ast.specs.View.{tree_of}
use Rattle.promql_ast.proofs.nodes.Args.{count_trees}
use Rattle.promql_ast.proofs.call.FunctionArgs.len.Goals as goal

pub returns : goal.returns
returns c = ap length c.as_slice.ensures.value ∙ count_trees (λ b. tree_of b.value) c.args.self.now.args.items
