use Rattle.std.proofs.Common.{string_bytes, subst}
use Rattle.std.proofs.lemmas.Result.{IfOk-weaker}
use Rattle.std.specs.Prelude.{Ok}
use Rattle.promql_ast.specs.View.{tree_of}
use Rattle.promql_query.specs.TreeTexts.{PrintsTree}
use Rattle.promql_query.proofs.tree_text.tree_text.Goals as goal

pub returns-clause-ok : goal.returns-clause-ok
returns-clause-ok c =
    let limits = c.args.limits.now in let format = c.args.format in
    IfOk-weaker c.show_tree-text.result _ _
    (λ s prints. (
      tree_of c.in_ok-read_form.field-0,
      c.in_ok-read_form.ensures.ok,
      subst (λ t. PrintsTree limits format t (Ok (string_bytes s))) c.in_ok-expr.ensures.ok prints,
    ))
    c.show_tree-text.ensures.ok
