use Rattle.std.proofs.Common.{[], ◌∷◌, ◌++◌, sym, ap, ◌∙◌, append-nil, append_assoc, subst}
use Rattle.serde_json.specs.View.{members_view}
use Rattle.serde_json.proofs.Views.{Entry}
use Rattle.promql_c.specs.SeriesText.{series_of_members}
use Rattle.promql_c.proofs.SeriesLabels.{AreLabels, no_series, one_more, series_is}
use Rattle.promql_c.proofs.reading.labels_of.Goals as goal

pub returns-in_default : goal.returns-in_default
returns-in_default c =
    let done = c.loop-name.invariant.0 in
    let e : Entry = (c.in-Some.name.now, c.in-Some.value.now) in
    let all = c.loop-name.invariant.1 ∙ ap (λ es. done ++ es) c.in-Some.ensures.steps in
    no_series done e c.next.new.self c.in_default.ensures ∙ sym (ap (λ es. series_of_members (members_view es)) all)

pub loop-name-preserved : goal.loop-name-preserved
loop-name-preserved c =
    let done = c.loop-name.invariant.0 in
    let e : Entry = (c.in-Some.name.now, c.in-Some.value.now) in
    let left = c.next.new.self in
    let all = c.loop-name.invariant.1 ∙ ap (λ es. done ++ es) c.in-Some.ensures.steps in (
      done ++ e ∷ [],
      all ∙ sym (append_assoc done (e ∷ []) left),
      one_more done e c.loop-name.labels.items c.push.new.self.items _ c.in_ok-push.ensures.items c.as_str-in-loop-name.ensures.value c.in-Some-as_str.ensures c.loop-name.invariant.2,
    )

pub returns : goal.returns
returns c =
    let labels = c.loop-name.labels.items in
    let done = c.loop-name.invariant.0 in
    let all = c.loop-name.invariant.1 ∙ ap (λ es. done ++ es) c.in-None.ensures.steps.0 ∙ append-nil done in
    series_is c.args.members.now.entries labels (subst (λ es. AreLabels es labels) (sym all) c.loop-name.invariant.2)
