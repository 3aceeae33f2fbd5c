-- Private: the tokens of the JSON form of a tree, in the order in which they are written. No contract of a public function
-- speaks of it.
use Rattle.std.specs.Prelude.{ℕ, List, [], ◌∷◌, ◌++◌, Option, codes, map}
use Rattle.json.specs.Token.{Token}
use Rattle.json.specs.Tree.{json_tokens, items_tokens}
use Rattle.serde_json.specs.Data.{Data, boolean, string as text}
use Rattle.serde_json.specs.View.{items_of}
use Rattle.serde_json.specs.Written.{outline, items_outline}
use Rattle.promql_text.specs.Texts.{Text}
use Rattle.promql_label.specs.PlainMatchers.{PlainMatcher, plain_matchers}
use Rattle.promql_ast.specs.OptionalModifiers.{returns_bool}
use Rattle.promql_ast.specs.Selectors.{Selector, selector}
use Rattle.promql_ast.specs.Shifts.{Moment, Shift}
use Rattle.promql_ast.specs.Tree.{Tree, aggregate, unary, binary, paren, subquery, number, string, vector, matrix, call, extension, MaybeTree, absent, present, Trees, no_trees, first_tree}
use Rattle.promql_ast.specs.declared.range_mode.RangeMode.{RangeMode}
use Rattle.promql_ast.specs.declared.range_mode.RangeMode.TheVariants.{Plain, Smoothed, Anchored}
use Rattle.promql_json.specs.JsonParts.{list, or_null, whole, number_json, labels_json, group_json, matching_json, millis, shift_millis, start_or_end, timestamp, function_json}
use Rattle.promql_json.specs.FormNames.{is_excluding, optional_labels, token_json}

abbrev pub tokens : Data → List Token
tokens d = json_tokens (outline d)

-- the items, and the bracket after them
abbrev pub rest_of_list : List Data → List Token
rest_of_list ds = items_tokens (items_outline (items_of ds))

-- a member of an object
abbrev pub member : Text → Data → List Token
member name d = Token.key name ∷ tokens d

-- the end of a node's object whose last key is `type`
abbrev pub end_of : Text → List Token
end_of type_name = member (codes "type") (text type_name) ++ Token.end_object ∷ []

abbrev pub groups_member : List (List PlainMatcher) → List Token
groups_member [] = []
groups_member (g ∷ gs) = member (codes "or_matchers") (list (map group_json (g ∷ gs)))

abbrev pub mode_member : RangeMode → List Token
mode_member Plain = []
mode_member Smoothed = member (codes "rangeMode") (text (codes "smoothed"))
mode_member Anchored = member (codes "rangeMode") (text (codes "anchored"))

-- the keys up to `or_matchers` of a selector's object
abbrev pub begin_of : Selector → List Token
begin_of (selector name (plain_matchers plain groups) offset at) =
    Token.begin_object ∷ (member (codes "matchers") (group_json plain)
    ++ (member (codes "name") (or_null text name)
    ++ (member (codes "offset") (whole (shift_millis offset)) ++ groups_member groups)))

abbrev pub moment_of_selector : Selector → Option Moment
moment_of_selector (selector name ms offset at) = at

abbrev pub moment_members : Option Moment → List Token
moment_members at = member (codes "startOrEnd") (start_or_end at) ++ member (codes "timestamp") (timestamp at)

-- the keys after `expr` of a subquery's object
abbrev pub end_of_subquery : Option Shift → Option Moment → ℕ → Option ℕ → List Token
end_of_subquery offset at range step =
    member (codes "offset") (whole (shift_millis offset))
    ++ (member (codes "range") (whole (millis range))
    ++ (member (codes "startOrEnd") (start_or_end at)
    ++ (member (codes "step") (or_null (λ n. whole (millis n)) step)
    ++ (member (codes "timestamp") (timestamp at) ++ end_of (codes "subquery")))))

abbrev mutual
  -- with the key `type`
  pub tree_tokens : Tree → List Token
  tree_tokens (aggregate op e p m) =
      Token.begin_object ∷ (Token.key (codes "expr") ∷ (tree_tokens e
      ++ (member (codes "grouping") (labels_json (optional_labels m))
      ++ (member (codes "op") (token_json op)
      ++ (Token.key (codes "param") ∷ (param_tokens p
      ++ (member (codes "type") (text (codes "aggregation"))
      ++ (member (codes "without") (boolean (is_excluding m)) ++ Token.end_object ∷ []))))))))
  tree_tokens (unary e) =
      Token.begin_object ∷ (Token.key (codes "expr") ∷ (tree_tokens e
      ++ (member (codes "op") (text (codes "-")) ++ end_of (codes "unaryExpr"))))
  tree_tokens (binary op l r m) =
      Token.begin_object ∷ (member (codes "bool") (boolean (returns_bool m))
      ++ (Token.key (codes "lhs") ∷ (tree_tokens l
      ++ (member (codes "matching") (or_null matching_json m)
      ++ (member (codes "op") (token_json op)
      ++ (Token.key (codes "rhs") ∷ (tree_tokens r ++ end_of (codes "binaryExpr"))))))))
  tree_tokens (paren e) = Token.begin_object ∷ (Token.key (codes "expr") ∷ (tree_tokens e ++ end_of (codes "parenExpr")))
  tree_tokens (subquery e offset at range step) =
      Token.begin_object ∷ (Token.key (codes "expr") ∷ (tree_tokens e ++ end_of_subquery offset at range step))
  tree_tokens (number n) =
      Token.begin_object ∷ (member (codes "type") (text (codes "numberLiteral")) ++ (member (codes "val") (number_json n) ++ Token.end_object ∷ []))
  tree_tokens (string s) =
      Token.begin_object ∷ (member (codes "type") (text (codes "stringLiteral")) ++ (member (codes "val") (text s) ++ Token.end_object ∷ []))
  tree_tokens (vector s) = begin_of s ++ (moment_members (moment_of_selector s) ++ end_of (codes "vectorSelector"))
  tree_tokens (matrix s range mode) =
      begin_of s ++ (member (codes "range") (whole (millis range))
      ++ (mode_member mode ++ (moment_members (moment_of_selector s) ++ end_of (codes "matrixSelector"))))
  tree_tokens (call f args) =
      Token.begin_object ∷ (Token.key (codes "args") ∷ (Token.begin_array ∷ (rest_of_args args
      ++ (member (codes "func") (function_json f) ++ end_of (codes "call")))))
  tree_tokens (extension name gives es) = Token.begin_object ∷ end_of []

  pub param_tokens : MaybeTree → List Token
  param_tokens absent = Token.null ∷ []
  param_tokens (present e) = tree_tokens e

  -- the arguments, and the bracket after them
  pub rest_of_args : Trees → List Token
  rest_of_args no_trees = Token.end_array ∷ []
  rest_of_args (first_tree e es) = tree_tokens e ++ rest_of_args es
