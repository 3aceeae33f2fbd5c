-- How far selectors read, as JSON, has no float.
use Rattle.std.proofs.Common.{◌≡◌, refl, List, [], ◌∷◌}
use Rattle.std.specs.Prelude.{false, ℤ, pos, negsuc}
use Rattle.std.proofs.lemmas.Bool.{or_from}
use Rattle.serde_json.specs.Written.{has_float}
use Rattle.promql_ast.specs.Selectors.{Selector}
use Rattle.promql_json.specs.JsonParts.{whole}
use Rattle.promql_when.specs.declared.reach.Reach.{Reach}
use Rattle.promql_c.specs.ReachesText.{reach_value, reaches_value}

whole_no_float : (z : ℤ) → has_float (whole z) ≡ false
whole_no_float (pos n) = refl
whole_no_float (negsuc n) = refl

reach_no_float : (r : Selector × Reach) → has_float (reach_value r) ≡ false
reach_no_float (s, r) = or_from _ _ (whole_no_float r.window.first) (or_from _ _ (whole_no_float r.window.last) refl)

pub reaches_no_float : (rs : List (Selector × Reach)) → has_float (reaches_value rs) ≡ false
reaches_no_float [] = refl
reaches_no_float (r ∷ rs) = or_from (has_float (reach_value r)) _ (reach_no_float r) (reaches_no_float rs)
