use Rattle.std.proofs.Common.{[], ◌∙◌, ap, map, option_map, string_bytes, sym, unwrap_or}
use Rattle.promql_label.specs.Labels.{is_among}
use Rattle.promql_kind.specs.ModifierViews.{clause_of}
use Rattle.promql_kind.specs.Modifiers.{clause_labels}
use Rattle.promql_rewrite.proofs.clashing.is_in_clause.Goals as goal

pub returns-in-Some : goal.returns-in-Some
returns-in-Some c =
    c.is_in.ensures
    ∙ ap (λ ls. is_among ls c.args.label.now)
    (ap (map string_bytes) c.deref.ensures.value ∙ c.labels.ensures ∙ ap (λ o. unwrap_or (option_map clause_labels (option_map clause_of o)) []) (sym c.in-Some.is))
