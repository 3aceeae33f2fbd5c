use Rattle.std.proofs.Common.{[], ◌∷◌, codes, refl, string_bytes}
use Rattle.std.proofs.lemmas.Result.{IfOk-equal}
use Rattle.json.specs.Token as token
use Rattle.serde_json.specs.Data.{string}
use Rattle.promql_label.specs.MatcherViews.{operator_of}
use Rattle.promql_label.specs.PlainMatchers.{operator_text}
use Rattle.promql_json.specs.JsonTokens.{member}
use Rattle.promql_json.proofs.JsonTokens.{ok_after}
use Rattle.promql_json.proofs.parts.write_matcher.Goals as goal

pub returns : goal.returns
returns c =
    let r = c.end_object.result in
    let name = rw c.as_str.ensures.value at c.in_ok-string_member.ensures in
    let op = rw c.operator_text.ensures at c.in_ok-string_member-2.ensures in
    let value = rw c.as_str-2.ensures.value at c.in_ok-string_member-3.ensures in
    IfOk-equal r _ _ _
    (ok_after r c.args.out.now _ _ (token.begin_object ∷ []) _ c.in_ok-begin_object.ensures
    (ok_after r c.begin_object.new.self _ _ (member (codes "name") (string (string_bytes c.args.matcher.now.name))) _ name
    (ok_after r c.string_member.new.self _ _ (member (codes "type") (string (operator_text (operator_of c.args.matcher.now.op)))) _ op
    (ok_after r c.string_member-2.new.self _ _ (member (codes "value") (string (string_bytes c.args.matcher.now.value))) _ value c.end_object.ensures)))) refl
