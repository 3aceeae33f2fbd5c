-- The JSON form of a tree (docs/reference/json.md, "Nodes" and "What has no form").
use Rattle.std.specs.Prelude.{◌^◌, ◌||◌, ℤ, pos, neg_ℤ, int_lt, int_le, List, [], ◌∷◌, false, map, not, if◌then◌else◌, Option, Some, None, option_and_then, Result, Ok, Err, codes}
use Rattle.std.specs.Option.{option_map_or, option_or}
use Rattle.serde_json.specs.Data.{Data, null, boolean, string as text, array, object, Items, no_items, item, Members, no_members, put}
use Rattle.promql_text.specs.Texts.{Text}
use Rattle.promql_token.specs.Ids.{text_of}
use Rattle.promql_label.specs.PlainMatchers.{plain_matchers}
use Rattle.promql_kind.specs.Modifiers.{clause_labels, is_including}
use Rattle.promql_ast.specs.Fold.{folded, all_within}
use Rattle.promql_ast.specs.OptionalModifiers.{returns_bool}
use Rattle.promql_ast.specs.Selectors.{Selector, selector}
use Rattle.promql_ast.specs.Shifts.{Moment, Shift}
use Rattle.promql_ast.specs.Tree.{Tree, aggregate, unary, binary, paren, subquery, number, string, vector, matrix, call, extension, MaybeTree, absent, present, Trees, no_trees, first_tree}
use Rattle.promql_json.specs.declared.error.JsonError.{JsonError}
use Rattle.promql_json.specs.declared.error.JsonError.TheVariants.{NumberTooWide, Extension}
use Rattle.promql_json.specs.JsonParts.{members, or_null, whole, number_json, labels_json, group_json, with_groups, matching_json, millis, shift_millis, start_or_end, timestamp, with_mode, function_json}

-- ---- "Nodes"

abbrev pub shift_rows : Option Shift → Option Moment → List (Text × Data)
shift_rows offset at =
    (codes "offset", whole (shift_millis offset)) ∷ (codes "startOrEnd", start_or_end at) ∷ (codes "timestamp", timestamp at) ∷ []

abbrev pub selector_members : Selector → Members
selector_members (selector name (plain_matchers plain groups) offset at) =
    with_groups (map group_json groups) (members ((codes "name", or_null text name) ∷ (codes "matchers", group_json plain) ∷ shift_rows offset at))

-- the object of a node with this type and these other members
abbrev pub typed : Text × Members → Data
typed node = object (put (codes "type") (text node.0) node.1)

abbrev pub node_of : Text → List (Text × Data) → Text × Members
node_of name rows = (name, members rows)

abbrev mutual
  -- a node's type, and the other members of its object
  pub node_parts : Tree → Text × Members
  node_parts (aggregate op e p m) = node_of (codes "aggregation") (
      (codes "op", text (text_of op))
      ∷ (codes "expr", typed (node_parts e))
      ∷ (codes "param", param_json p)
      ∷ (codes "grouping", labels_json (option_map_or clause_labels m []))
      ∷ (codes "without", boolean (option_map_or (λ c. not (is_including c)) m false)) ∷ [])
  node_parts (unary e) = node_of (codes "unaryExpr") ((codes "op", text (codes "-")) ∷ (codes "expr", typed (node_parts e)) ∷ [])
  node_parts (binary op l r m) = node_of (codes "binaryExpr") (
      (codes "op", text (text_of op))
      ∷ (codes "lhs", typed (node_parts l))
      ∷ (codes "rhs", typed (node_parts r))
      ∷ (codes "bool", boolean (returns_bool m))
      ∷ (codes "matching", or_null matching_json m) ∷ [])
  node_parts (paren e) = node_of (codes "parenExpr") ((codes "expr", typed (node_parts e)) ∷ [])
  node_parts (subquery e offset at range step) = node_of (codes "subquery") (
      (codes "expr", typed (node_parts e))
      ∷ (codes "range", whole (millis range))
      ∷ (codes "step", or_null (λ n. whole (millis n)) step) ∷ shift_rows offset at)
  node_parts (number n) = node_of (codes "numberLiteral") ((codes "val", number_json n) ∷ [])
  node_parts (string s) = node_of (codes "stringLiteral") ((codes "val", text s) ∷ [])
  node_parts (vector s) = (codes "vectorSelector", selector_members s)
  node_parts (matrix s range mode) =
      (codes "matrixSelector", with_mode mode (put (codes "range") (whole (millis range)) (selector_members s)))
  node_parts (call f args) = node_of (codes "call") ((codes "func", function_json f) ∷ (codes "args", array (args_items args)) ∷ [])
  node_parts (extension name gives es) = ([], no_members)

  pub param_json : MaybeTree → Data
  param_json absent = null
  param_json (present e) = typed (node_parts e)

  pub args_items : Trees → Items
  args_items no_trees = no_items
  args_items (first_tree e es) = item (typed (node_parts e)) (args_items es)

-- the object of a tree that has one
abbrev pub json_value : Tree → Data
json_value t = typed (node_parts t)

-- ---- "What has no form"

-- of a number outside the whole numbers from -2^63 to 2^64 - 1
abbrev pub width_fault : ℤ → Option JsonError
width_fault z = if int_lt z (neg_ℤ (pos (2 ^ 63))) || int_le (pos (2 ^ 64)) z then Some NumberTooWide else None

-- what is at fault in a node by itself
abbrev pub own_fault : Tree → Option JsonError
own_fault (subquery e offset at range step) =
    option_or (width_fault (shift_millis offset))
    (option_or (width_fault (millis range)) (option_and_then (λ n. width_fault (millis n)) step))
own_fault (vector (selector name ms offset at)) = width_fault (shift_millis offset)
own_fault (matrix (selector name ms offset at) range mode) = option_or (width_fault (shift_millis offset)) (width_fault (millis range))
own_fault (extension name gives es) = Some Extension
own_fault _ = None

-- the first fault at a tree's nodes, in the order in which a walk comes to them
abbrev pub first_fault : Tree → Option JsonError
first_fault = folded None option_or (λ t. option_or (own_fault t))

-- this holds of each node of a tree
abbrev pub AtEachNode : (Tree → Type 0) → Tree → Type 0
AtEachNode P = folded (Unit {0}) (λ A B. A × B) (λ t below. P t × below)

-- the JSON form of an expression: the fault, or the value
abbrev pub json : Tree → Result Data JsonError
json t = option_map_or Err (first_fault t) (Ok (json_value t))

-- of a node by itself, whose object has no `type`
abbrev pub node_json : Tree → Result Data JsonError
node_json t = option_map_or Err (first_fault t) (Ok (object (node_parts t).1))

-- of a list of arguments by itself
abbrev pub args_json : Trees → Result Data JsonError
args_json ts =
    option_map_or Err (all_within None option_or (λ t. option_or (own_fault t)) ts)
    (Ok (object (members ((codes "args", array (args_items ts)) ∷ []))))
