use Rattle.std.proofs.Common.{◌≡◌, ◌<◌, ◌∙◌, List, [], ◌∷◌, Vec, Global, length, map, codes, ap, refl, arith}
use Rattle.serde_json.specs.Data.{Members, put}
use Rattle.serde_json.specs.View.{members_view}
use Rattle.promql_label.specs.MatcherViews.{plain_matcher_of}
use Rattle.promql_label.specs.declared.matcher.Matcher.{Matcher}
use Rattle.promql_json.specs.JsonParts as spec
use Rattle.promql_walk.proofs.json_parts.put_groups.Goals as goal

some_groups : (gs : List (Vec Matcher Global)) (ms : Members) → 0 < length gs →
    put (codes "or_matchers") (spec.list (map spec.group_json (map (λ g. map plain_matcher_of g.items) gs))) ms ≡ spec.with_groups (map spec.group_json (map (λ g. map plain_matcher_of g.items) gs)) ms
some_groups [] ms h = absurd (omega arith)
some_groups (g ∷ gs) ms h = refl

pub returns-in_ok-put : goal.returns-in_ok-put
returns-in_ok-put c =
    let before = members_view c.args.members.now.entries in
    let some : 0 < length c.args.groups.now = grind arith in
    c.in_ok-put.ensures.ok ∙ ap (λ d. put (codes "or_matchers") d before) c.in_ok-groups_json.ensures ∙ some_groups c.args.groups.now before some
