use Rattle.std.proofs.Common.{[], ◌∷◌, codes, map, refl}
use Rattle.std.proofs.lemmas.Result.{IfOk-equal}
use Rattle.json.specs.Token as token
use Rattle.serde_json.specs.Data.{boolean, string}
use Rattle.promql_kind.specs.ValueTypes.{type_text}
use Rattle.promql_json.specs.JsonParts.{list, whole}
use Rattle.promql_json.specs.FormNames.{type_json}
use Rattle.promql_json.specs.JsonTokens.{member, tokens}
use Rattle.promql_json.proofs.JsonTokens.{ok_after}
use Rattle.promql_json.proofs.parts.write_function.Goals as goal

pub returns : goal.returns
returns c =
    let r = c.end_object.result in
    let f = c.args.function.now in
    let types = rw c.deref.ensures.value at c.in_ok-write_types.ensures in
    let gives = rw c.type_name.ensures at c.in_ok-string_member-2.ensures in
    IfOk-equal r _ _ _
    (ok_after r c.args.out.now _ _ (token.key (codes "func") ∷ []) _ c.in_ok-key.ensures
    (ok_after r c.key.new.self _ _ (token.begin_object ∷ token.key (codes "argTypes") ∷ []) _ c.in_ok-begin_with.ensures
    (ok_after r c.begin_with.new.self _ _ (tokens (list (map type_json f.arg_types.items))) _ types
    (ok_after r c.write_types.new.out _ _ (member (codes "experimental") (boolean f.experimental)) _ c.in_ok-bool_member.ensures
    (ok_after r c.bool_member.new.self _ _ (member (codes "name") (string f.name.now)) _ c.in_ok-string_member.ensures
    (ok_after r c.string_member.new.self _ _ (member (codes "returnType") (string (type_text f.return_type))) _ gives
    (ok_after r c.string_member-2.new.self _ _ (member (codes "variadic") (whole f.variadic)) _ c.in_ok-write_variadic.ensures c.end_object.ensures))))))) refl
