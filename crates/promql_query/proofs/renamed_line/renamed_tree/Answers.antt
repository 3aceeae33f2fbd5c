use Rattle.std.proofs.Common.{◌≡◌, ◌≤◌, None, length, subst, sym}
use Rattle.promql_ast.specs.View.{tree_of}
use Rattle.promql_rewrite.specs.Renaming.{renamed}
use Rattle.promql_query.specs.RenamedLines.{new_name, rename_fault, renaming}
use Rattle.promql_query.specs.declared.renamed_line.TheConstants.{MAX_NEW_NAME}
use Rattle.promql_query.proofs.Renamings.{label_may, metric_may}
use Rattle.promql_query.proofs.renamed_line.renamed_tree.Goals as goal

pub returns-in-Ok-clause-ok : goal.returns-in-Ok-clause-ok
returns-in-Ok-clause-ok c =
    let t = tree_of c.args.expr in let from = c.args.from.now in let to = c.args.to.now in
    subst
    (λ named. (length (new_name (renaming named from to)) ≤ MAX_NEW_NAME) × (rename_fault (renaming named from to) t ≡ None) × (tree_of c.in-Ok.expr ≡ renamed (renaming named from to) t))
    (sym c.in-Metric.is) (c.requires, metric_may _ _ from to t c.in-Ok.ensures.name, c.in-Ok.ensures.ok)

pub returns-in-Ok-rename_label-clause-ok : goal.returns-in-Ok-rename_label-clause-ok
returns-in-Ok-rename_label-clause-ok c =
    let t = tree_of c.args.expr in let from = c.args.from.now in let to = c.args.to.now in
    subst
    (λ named. (length (new_name (renaming named from to)) ≤ MAX_NEW_NAME) × (rename_fault (renaming named from to) t ≡ None) × (tree_of c.in-Ok-rename_label.expr ≡ renamed (renaming named from to) t))
    (sym c.in-Label.is) (c.requires, label_may _ _ _ from to t c.in-Ok-rename_label.ensures.name c.in-Ok-rename_label.ensures.clash, c.in-Ok-rename_label.ensures.ok)
