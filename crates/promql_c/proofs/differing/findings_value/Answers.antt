use Rattle.std.proofs.Common.{◌∷◌, [], ap, map, ◌∙◌}
use Rattle.std.proofs.lemmas.List.{map-append}
use Rattle.serde_json.specs.View.{view}
use Rattle.promql_json.specs.JsonParts.{list}
use Rattle.promql_places.proofs.PlacedFormSteps.{array_of}
use Rattle.promql_c.proofs.FindingRows.{front, none_left, one_more}
use Rattle.promql_c.proofs.differing.findings_value.Goals as goal

pub loop-rest-preserved : goal.loop-rest-preserved
loop-rest-preserved c =
    one_more c.args.findings.now c.loop-rest.rest.now _ (map view c.loop-rest.list.items) (map view c.push.new.self.items) c.finding-item.result (view c.in_ok-value.value)
    (front c.loop-rest.rest.now c.finding-item.result c.in-len1-up.len_at_least c.finding-item.is)
    (ap (map view) c.in_ok-push.ensures.items ∙ map-append view c.loop-rest.list.items (c.in_ok-value.value ∷ [])) c.in_ok-value.ensures c.loop-rest.invariant

pub returns : goal.returns
returns c =
    let have = c.loop-rest.invariant in
    (have.0, none_left (map (λ row. row.0) have.0) c.loop-rest.rest.now c.args.findings.now c.in_default.len_below have.1, array_of c.loop-rest.list ∙ ap list have.2)
