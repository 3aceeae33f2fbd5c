use Rattle.std.proofs.Common.{[], ◌∷◌, codes, refl}
use Rattle.std.proofs.lemmas.Result.{IfOk-equal}
use Rattle.json.specs.Token as token
use Rattle.serde_json.specs.Data.{string}
use Rattle.promql_json.specs.JsonParts.{number_json}
use Rattle.promql_json.specs.JsonTokens.{member}
use Rattle.promql_json.proofs.JsonTokens.{ok_after}
use Rattle.promql_json.proofs.nodes.write_number_literal.Goals as goal

pub returns : goal.returns
returns c =
    let r = c.end_object.result in
    IfOk-equal r _ _ _
    (ok_after r c.args.out.now _ _ (token.begin_object ∷ []) _ c.in_ok-begin_object.ensures
    (ok_after r c.begin_object.new.self _ _ (member (codes "type") (string (codes "numberLiteral"))) _ c.in_ok-string_member.ensures
    (ok_after r c.string_member.new.self _ _ (member (codes "val") (number_json c.args.node.now.val)) _ c.in_ok-write_number.ensures c.end_object.ensures))) refl
