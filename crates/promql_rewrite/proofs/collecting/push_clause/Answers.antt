use Rattle.std.proofs.Common.{[], ◌∙◌, ap, map, option_map, string_bytes, sym, unwrap_or}
use Rattle.promql_kind.specs.ModifierViews.{clause_of}
use Rattle.promql_kind.specs.Modifiers.{clause_labels}
use Rattle.promql_rewrite.proofs.names.AppendedLists.{appended_as}
use Rattle.promql_ast.proofs.nodes.ChangedLists.{on_ok}
use Rattle.promql_rewrite.proofs.collecting.push_clause.Goals as goal

pub returns-in-Some : goal.returns-in-Some
returns-in-Some c =
    on_ok c.push_labels.result _ _
    (appended_as (map string_bytes c.args.names.now.items) _ _ _
    (ap (map string_bytes) c.deref.ensures.value ∙ c.labels.ensures ∙ ap (λ o. unwrap_or (option_map clause_labels (option_map clause_of o)) []) (sym c.in-Some.is)))
    c.push_labels.ensures
