use Rattle.std.proofs.Common.{codes, option_map, refl}
use Rattle.std.proofs.lemmas.Result.{IfOk-equal}
use Rattle.serde_json.specs.Data.{boolean, string}
use Rattle.promql_kind.specs.ModifierViews.{clause_of}
use Rattle.promql_json.specs.FormNames.{is_excluding}
use Rattle.promql_json.specs.JsonTokens.{member}
use Rattle.promql_json.proofs.JsonTokens.{ok_after}
use Rattle.promql_json.proofs.parts.end_aggregate.Goals as goal

pub returns : goal.returns
returns c =
    let r = c.end_object.result in
    let without = rw c.is_without.ensures at c.in_ok-bool_member.ensures in
    IfOk-equal r _ _ _
    (ok_after r c.args.out.now _ _ (member (codes "type") (string (codes "aggregation"))) _ c.in_ok-string_member.ensures
    (ok_after r c.string_member.new.self _ _ (member (codes "without") (boolean (is_excluding (option_map clause_of c.args.clause.now)))) _ without c.end_object.ensures)) refl
