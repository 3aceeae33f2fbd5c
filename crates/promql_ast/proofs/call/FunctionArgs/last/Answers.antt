use Rattle.std.proofs.Common.{◌∙◌, sym, ap, length, slice_get, Some, ◌-◌}
use Rattle.promql_ast.specs.View.{tree_of}
use Rattle.promql_ast.proofs.nodes.Args.{last_at}
use Rattle.promql_ast.proofs.call.FunctionArgs.last.Goals as goal

pub returns-in-Some : goal.returns-in-Some
returns-in-Some c =
    ap (λ e. Some (tree_of e)) c.deref-in-Some.ensures
    ∙ sym (last_at (λ b. tree_of b.value) c.args.self.now.args.items c.in-Some.arg.now
    (ap (λ xs. slice_get xs (length xs - 1)) (sym c.deref.ensures.value) ∙ sym c.in-Some.ensures.value))
