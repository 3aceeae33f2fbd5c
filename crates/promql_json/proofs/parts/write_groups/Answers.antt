use Rattle.std.proofs.Common.{◌≡◌, ◌<◌, List, [], ◌∷◌, ◌++◌, Vec, Global, length, map, ap, refl, arith, codes}
use Rattle.std.proofs.lemmas.Result.{IfOk-equal}
use Rattle.promql_label.specs.MatcherViews.{plain_matcher_of}
use Rattle.promql_label.specs.declared.matcher.Matcher.{Matcher}
use Rattle.promql_json.specs.JsonParts.{group_json, list}
use Rattle.promql_json.specs.JsonTokens.{groups_member, member}
use Rattle.promql_json.proofs.JsonTokens.{ok_after}
use Rattle.promql_json.proofs.parts.write_groups.Goals as goal

some_groups : (gs : List (Vec Matcher Global)) → 0 < length gs →
    member (codes "or_matchers") (list (map group_json (map (λ g. map plain_matcher_of g.items) gs))) ≡ groups_member (map (λ g. map plain_matcher_of g.items) gs)
some_groups [] h = absurd (omega arith)
some_groups (g ∷ gs) h = refl

pub returns : goal.returns
returns c =
    let some : 0 < length c.args.groups.now = grind arith in
    IfOk-equal c.write_group_list.result _ _ _ (ok_after c.write_group_list.result _ _ _ _ _ c.in_ok-key.ensures c.write_group_list.ensures)
    (ap (λ ts. c.args.out.now ++ ts) (some_groups c.args.groups.now some))
