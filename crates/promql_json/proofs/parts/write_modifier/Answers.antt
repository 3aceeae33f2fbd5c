use Rattle.std.proofs.Common.{[], ◌∷◌, codes, refl}
use Rattle.std.proofs.lemmas.Result.{IfOk-equal}
use Rattle.json.specs.Token as token
use Rattle.promql_kind.specs.ModifierViews.{cardinality_of, fills_of}
use Rattle.promql_json.specs.JsonParts.{cardinality_json, fills_json}
use Rattle.promql_json.specs.JsonTokens.{tokens}
use Rattle.promql_json.proofs.JsonTokens.{ok_after}
use Rattle.promql_json.proofs.parts.write_modifier.Goals as goal

pub returns : goal.returns
returns c =
    let r = c.write_matched.result in
    IfOk-equal r _ _ _
    (ok_after r c.args.out.now _ _ (token.begin_object ∷ token.key (codes "card") ∷ []) _ c.in_ok-begin_with.ensures
    (ok_after r c.begin_with.new.self _ _ (tokens (cardinality_json (cardinality_of c.args.modifier.now.card))) _ c.in_ok-write_cardinality.ensures
    (ok_after r c.write_cardinality.new.out _ _ (token.key (codes "fillValues") ∷ []) _ c.in_ok-key.ensures
    (ok_after r c.key.new.self _ _ (tokens (fills_json (fills_of c.args.modifier.now.fill_values))) _ c.in_ok-write_fills.ensures c.write_matched.ensures)))) refl
