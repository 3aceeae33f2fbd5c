-- Which trees are read from their form (docs/reference/json.md, "From JSON to a tree").
use Rattle.std.specs.Prelude.{◌≡◌, ◌≢◌, ◌≤◌, ◌&&◌, ℕ, Bool, true, not, [], ◌∷◌, Option, Some, None, IfSome, Ok, FitsSigned}
use Rattle.std.specs.Int.{w64}
use Rattle.std.specs.List.{AllByRecursion}
use Rattle.serde_json.specs.Data.{Data}
use Rattle.promql_text.specs.Values.{IsNumber}
use Rattle.promql_token.specs.Ids.{is_aggregator, is_one_of, is_operator}
use Rattle.promql_token.specs.declared.ids.TheConstants.{T_AT, T_EQL_REGEX, T_NEQ_REGEX}
use Rattle.promql_label.specs.Answers.{Allows, rejected}
use Rattle.promql_label.specs.PlainMatchers.{PlainMatcher, plain_matcher, matches, matches_not, every}
use Rattle.promql_kind.specs.Functions.{function_named, name_of}
use Rattle.promql_kind.specs.Modifiers.{fills, matching}
use Rattle.promql_ast.specs.Height.{height}
use Rattle.promql_ast.specs.Selectors.{selector}
use Rattle.promql_ast.specs.Shifts.{Moment, at_time}
use Rattle.promql_ast.specs.Tree.{Tree, aggregate, binary, subquery, number, vector, matrix, call, extension}
use Rattle.promql_json.specs.Json.{AtEachNode, json}

-- `regex` may not reject the value of a pattern
abbrev pub ReadableMatcher : PlainMatcher → Type 0
ReadableMatcher (plain_matcher (matches w) name value) = ¬ Allows value rejected
ReadableMatcher (plain_matcher (matches_not w) name value) = ¬ Allows value rejected
ReadableMatcher _ = Unit {0}

-- milliseconds of 64 bits with a sign
abbrev pub ReadableMoment : Option Moment → Type 0
ReadableMoment (Some (at_time t)) = FitsSigned w64 t
ReadableMoment _ = Unit {0}

-- an operator between two expressions: all but `=~`, `!~` and `@`
abbrev pub is_binary_operator : ℕ → Bool
is_binary_operator op = is_operator op && not (is_one_of (T_EQL_REGEX ∷ T_NEQ_REGEX ∷ T_AT ∷ []) op)

-- what is asked of a node by itself: operators, numbers, times, functions and patterns of which code can make it
abbrev pub HasReadableParts : Tree → Type 0
HasReadableParts (aggregate op e p m) = is_aggregator op ≡ true
HasReadableParts (binary op l r None) = is_binary_operator op ≡ true
HasReadableParts (binary op l r (Some (matching card clause return_bool (fills x y)))) =
    (is_binary_operator op ≡ true) × IfSome x IsNumber × IfSome y IsNumber
HasReadableParts (subquery e offset at range step) = ReadableMoment at
HasReadableParts (number v) = IsNumber v
HasReadableParts (vector (selector name ms offset at)) = AllByRecursion ReadableMatcher (every ms) × ReadableMoment at
HasReadableParts (matrix (selector name ms offset at) range mode) = AllByRecursion ReadableMatcher (every ms) × ReadableMoment at
HasReadableParts (call f args) = function_named (name_of f) ≡ Some f
HasReadableParts (extension name gives es) = ⊥
HasReadableParts t = Unit {0}

-- at most 512 nodes above one another, and each has such parts
abbrev pub IsReadable : Tree → Type 0
IsReadable t = (height t ≤ 512) × AtEachNode HasReadableParts t

-- no such tree has the form
abbrev pub IsNoForm : Data → Type 0
IsNoForm d = (t : Tree) → IsReadable t → json t ≢ Ok d
