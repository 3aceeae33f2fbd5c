-- The text of how far from the time of evaluation a tree reads (docs/guide/bindings.md, "When a query reads").
use Rattle.std.specs.Prelude.{◌≡◌, List, [], ◌∷◌, map, None}
use Rattle.serde_json.specs.Data.{Data, boolean, string}
use Rattle.serde_json.specs.Written.{compact_text}
use Rattle.promql_text.specs.Texts.{Text}
use Rattle.promql_ast.specs.Selectors.{Selector}
use Rattle.promql_ast.specs.Text as one_line
use Rattle.promql_ast.specs.Tree.{Tree, vector}
use Rattle.promql_json.specs.JsonParts.{list, whole}
use Rattle.promql_when.specs.Reached.{evaluation, reach, reach_overflow}
use Rattle.promql_when.specs.declared.reach.Reach.{Reach}
use Rattle.promql_when.specs.declared.times.Times.{Times}

-- the selector without its range, as it prints, the first and the last millisecond of its reach, and whether they are the same at every time
abbrev pub reach_value : Selector × Reach → Data
reach_value (s, r) = list (string (one_line.text (vector s)) ∷ whole r.window.first ∷ whole r.window.last ∷ boolean r.is_fixed ∷ [])

abbrev pub reaches_value : List (Selector × Reach) → Data
reaches_value rs = list (map reach_value rs)

-- the reach of each selector of the tree, in the order of a walk; 64 bits hold all of them
abbrev pub IsReachesText : Times → Tree → Text → Type 0
IsReachesText ts t text = (reach_overflow ts t evaluation ≡ None) × (text ≡ compact_text (reaches_value (reach ts t evaluation)))
