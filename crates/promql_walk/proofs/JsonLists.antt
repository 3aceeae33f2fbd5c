-- The objects of a list of arguments, one by one.
use Rattle.std.proofs.Common.{◌≡◌, refl, ap, List, [], ◌∷◌, map, Global}
use Rattle.std.specs.declared.boxed.Box.{Box}
use Rattle.serde_json.specs.Data.{item}
use Rattle.serde_json.specs.View.{items_of}
use Rattle.promql_ast.specs.View.{tree_of, trees_of}
use Rattle.promql_ast.specs.declared.expr.Expr.{Expr}
use Rattle.promql_json.specs.Json.{json_value, args_items}

pub args_items_of : (bs : List (Box Expr Global)) → args_items (trees_of bs) ≡ items_of (map (λ b. json_value (tree_of b.value)) bs)
args_items_of [] = refl
args_items_of (b ∷ bs) = ap (item (json_value (tree_of b.value))) (args_items_of bs)
