use Rattle.std.proofs.Common.{◌+◌, ◌++◌, ap, drop, map, ◌∙◌}
use Rattle.serde_json.specs.View.{view}
use Rattle.promql_json.specs.JsonParts.{list}
use Rattle.promql_when.specs.Found.{found_of}
use Rattle.promql_query.specs.WindowsText.{window_values}
use Rattle.promql_query.proofs.PlacedWindows.{all_made, array_of, one_more}
use Rattle.promql_query.proofs.windows_text.windows_value.Goals as goal

pub loop-selector-preserved : goal.loop-selector-preserved
loop-selector-preserved c =
    let found = c.args.found.now in let i = c.loop-selector.selector-index in let places = c.args.places.now in
    ap (λ l. map view l ++ window_values (found_of (drop (i + 1) found)) c.after_first-rest.result.now) c.in_ok-push.ensures.items
    ∙ one_more found i c.loop-selector.list.items c.loop-selector.rest.now (window_values (found_of found) places) c.selector-item.result c.in_ok-window_value.field-0
    c.first_place-place.result c.after_first-rest.result.now c.loop-selector-test.true c.selector-item.is c.first_place-place.ensures c.after_first-rest.ensures c.in_ok-window_value.ensures
    c.loop-selector.invariant

pub returns : goal.returns
returns c =
    array_of c.loop-selector.list
    ∙ ap list (all_made c.args.found.now c.loop-selector.selector-index c.loop-selector.list.items c.loop-selector.rest.now
    (window_values (found_of c.args.found.now) c.args.places.now) c.loop-selector-test.false c.loop-selector.invariant)
