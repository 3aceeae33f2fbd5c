use Rattle.std.proofs.Common.{◌+◌, ◌++◌, ap, drop, length, map, ◌∙◌}
use Rattle.serde_json.specs.View.{view}
use Rattle.promql_json.specs.JsonParts.{list}
use Rattle.promql_label.specs.MatcherViews.{plain_matcher_of}
use Rattle.promql_places.specs.PlacedForms.{placed_groups, placed_matchers}
use Rattle.promql_places.proofs.PlacedFormSteps.{array_of, groups_end, groups_values, plain_groups}
use Rattle.promql_places.proofs.matcher_places.groups_value.Goals as goal

pub loop-group-preserved : goal.loop-group-preserved
loop-group-preserved c =
    let gs = c.args.groups.now in let i = c.loop-group.group-index in
    let now = c.loop-group.places.rest.now in let next = c.group_value.new.places.rest.now in
    let made = c.in_ok-group_value.ensures.value ∙ ap (λ ms. list (placed_matchers (map plain_matcher_of ms) now)) c.deref.ensures.value in
    let rest = c.in_ok-group_value.ensures.rest ∙ ap (λ ms. drop (length ms) now) c.deref.ensures.value in
    ap (λ l. map view l ++ placed_groups (plain_groups (drop (i + 1) gs)) next) c.in_ok-push.ensures.items
    ∙ groups_values gs i c.group-item.result c.loop-group.list.items c.in_ok-group_value.field-0 now next _ c.loop-group-test.true c.group-item.is
    made rest c.loop-group.invariant

pub returns : goal.returns
returns c =
    array_of c.loop-group.list
    ∙ ap list (groups_end c.args.groups.now c.loop-group.group-index c.loop-group.list.items c.loop-group.places.rest.now _ c.loop-group-test.false c.loop-group.invariant)
