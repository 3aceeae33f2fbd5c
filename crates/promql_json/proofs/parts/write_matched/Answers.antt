use Rattle.std.proofs.Common.{[], ◌∷◌, codes, option_map, refl}
use Rattle.std.proofs.lemmas.Result.{IfOk-equal}
use Rattle.json.specs.Token as token
use Rattle.serde_json.specs.Data.{boolean}
use Rattle.promql_kind.specs.Modifiers.{is_on}
use Rattle.promql_kind.specs.ModifierViews.{clause_of, matching_of}
use Rattle.promql_json.specs.JsonParts.{labels_json}
use Rattle.promql_json.specs.FormNames.{optional_labels}
use Rattle.promql_json.specs.JsonTokens.{member}
use Rattle.promql_json.proofs.JsonTokens.{ok_after}
use Rattle.promql_json.proofs.parts.write_matched.Goals as goal

pub returns : goal.returns
returns c =
    let r = c.end_object.result in
    let on = rw c.is_matching_on.ensures at c.in_ok-bool_member.ensures in
    IfOk-equal r _ _ _
    (ok_after r c.args.out.now _ _ (token.key (codes "include") ∷ []) _ c.in_ok-key.ensures
    (ok_after r c.key.new.self _ _ (token.begin_array ∷ token.end_array ∷ []) _ c.in_ok-empty_array.ensures
    (ok_after r c.empty_array.new.self _ _ (member (codes "labels") (labels_json (optional_labels (option_map clause_of c.args.modifier.now.matching)))) _ c.in_ok-write_clause.ensures
    (ok_after r c.write_clause.new.out _ _ (member (codes "on") (boolean (is_on (matching_of c.args.modifier.now)))) _ on c.end_object.ensures)))) refl
