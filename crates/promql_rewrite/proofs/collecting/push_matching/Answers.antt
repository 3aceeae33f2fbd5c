use Rattle.std.proofs.Common.{[], ◌++◌, ◌∙◌, ap, append-nil, map, option_map, refl, string_bytes, sym, unwrap_or}
use Rattle.promql_label.specs.Labels.{labels_of}
use Rattle.promql_kind.specs.ModifierViews.{cardinality_of, clause_of}
use Rattle.promql_kind.specs.Modifiers.{clause_labels, grouping}
use Rattle.promql_rewrite.proofs.names.AppendedLists.{appended_both}
use Rattle.promql_ast.proofs.nodes.ChangedLists.{on_ok}
use Rattle.promql_rewrite.proofs.collecting.push_matching.Goals as goal

pub returns-in-Some : goal.returns-in-Some
returns-in-Some c =
    let m = c.args.modifier.now in
    on_ok c.push_labels.result _ _
    (λ more.
    appended_both (map string_bytes c.args.names.now.items) _ _ (unwrap_or (option_map clause_labels (option_map clause_of m.matching)) []) (unwrap_or (grouping (cardinality_of m.card)) []) _ _ refl
    (ap (map string_bytes) c.deref.ensures.value ∙ ap (λ o. unwrap_or o []) (sym (ap (option_map (λ ls. labels_of ls.now)) c.in-Some.is) ∙ c.labels.ensures))
    c.in_ok-push_clause.ensures more)
    c.push_labels.ensures

pub returns-in-None : goal.returns-in-None
returns-in-None c =
    let m = c.args.modifier.now in
    let own = unwrap_or (option_map clause_labels (option_map clause_of m.matching)) [] in
    c.in_ok-push_clause.ensures
    ∙ ap (λ s. map string_bytes c.args.names.now.items ++ s)
    (sym (append-nil own) ∙ ap (λ o. own ++ unwrap_or o []) (sym (ap (option_map (λ ls. labels_of ls.now)) c.in-None.is) ∙ c.labels.ensures))
