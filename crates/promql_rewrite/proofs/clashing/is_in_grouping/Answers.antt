use Rattle.std.proofs.Common.{[], ◌∙◌, ap, map, option_map, string_bytes, sym, unwrap_or}
use Rattle.promql_label.specs.Labels.{is_among, labels_of}
use Rattle.promql_rewrite.proofs.clashing.is_in_grouping.Goals as goal

pub returns-in-Some : goal.returns-in-Some
returns-in-Some c =
    c.is_in.ensures
    ∙ ap (λ ls. is_among ls c.args.label.now)
    (ap (map string_bytes) c.deref.ensures.value ∙ ap (λ o. unwrap_or o []) (sym (ap (option_map (λ ls. labels_of ls.now)) c.in-Some.is) ∙ c.labels.ensures))

pub returns-in-None : goal.returns-in-None
returns-in-None c =
    ap (λ o. is_among (unwrap_or o []) c.args.label.now) (sym (ap (option_map (λ ls. labels_of ls.now)) c.in-None.is) ∙ c.labels.ensures)
