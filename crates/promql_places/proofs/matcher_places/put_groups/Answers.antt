use Rattle.std.proofs.Common.{◌<◌, ◌∙◌, ap, arith, codes, length}
use Rattle.serde_json.specs.Data.{put}
use Rattle.serde_json.specs.View.{members_view}
use Rattle.promql_places.proofs.PlacedFormSteps.{some_groups}
use Rattle.promql_places.proofs.matcher_places.put_groups.Goals as goal

pub returns-in_ok-put : goal.returns-in_ok-put
returns-in_ok-put c =
    let before = members_view c.args.members.now.entries in
    let some : 0 < length c.args.groups.now = grind arith in
    c.in_ok-put.ensures.ok ∙ ap (λ d. put (codes "or_matchers") d before) c.in_ok-groups_value.ensures ∙ some_groups c.args.groups.now c.args.places.now.rest.now before some
