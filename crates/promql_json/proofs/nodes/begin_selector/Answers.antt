use Rattle.std.proofs.Common.{[], ◌∷◌, codes, map, option_map, refl, string_bytes}
use Rattle.std.proofs.lemmas.Result.{IfOk-equal}
use Rattle.json.specs.Token as token
use Rattle.serde_json.specs.Data.{string}
use Rattle.promql_label.specs.MatcherViews.{plain_matcher_of}
use Rattle.promql_ast.specs.Shifts.{shift_of}
use Rattle.promql_json.specs.JsonParts.{group_json, or_null, shift_millis, whole}
use Rattle.promql_json.specs.JsonTokens.{member, tokens}
use Rattle.promql_json.proofs.JsonTokens.{ok_after}
use Rattle.promql_json.proofs.nodes.begin_selector.Goals as goal

pub returns : goal.returns
returns c =
    let r = c.write_groups.result in
    let node = c.args.node.now in
    let plain = rw c.deref.ensures.value at c.in_ok-write_group.ensures in
    let groups = rw c.deref-2.ensures.value at c.write_groups.ensures in
    IfOk-equal r _ _ _
    (ok_after r c.args.out.now _ _ (token.begin_object ∷ token.key (codes "matchers") ∷ []) _ c.in_ok-begin_with.ensures
    (ok_after r c.begin_with.new.self _ _ (tokens (group_json (map plain_matcher_of node.matchers.matchers.items))) _ plain
    (ok_after r c.write_group.new.out _ _ (member (codes "name") (or_null string (option_map string_bytes node.name))) _ c.in_ok-write_name.ensures
    (ok_after r c.write_name.new.out _ _ (member (codes "offset") (whole (shift_millis (option_map shift_of node.offset)))) _ c.in_ok-write_offset.ensures groups)))) refl
