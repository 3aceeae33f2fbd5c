-- The JSON form of what nodes hold beside their parts (docs/reference/json.md, "Parts").
use Rattle.std.specs.Prelude.{ℕ, ◌/◌, ℤ, false, pos, neg_ℤ, List, [], ◌∷◌, map, Option, Some, None, codes}
use Rattle.std.specs.Option.{option_map_or}
use Rattle.serde_json.specs.Data.{Data, null, boolean, number, string, array, object, Members, no_members, put}
use Rattle.serde_json.specs.Find.{of_integer}
use Rattle.serde_json.specs.View.{items_of}
use Rattle.promql_text.specs.NumberText.{number_text}
use Rattle.promql_text.specs.Texts.{Text}
use Rattle.promql_text.specs.declared.number.Number.{Number}
use Rattle.promql_label.specs.PlainMatchers.{PlainMatcher, plain_matcher, PlainMatchers, plain_matchers, operator_text}
use Rattle.promql_kind.specs.Functions.{Signature, signature}
use Rattle.promql_kind.specs.Modifiers.{clause_labels, is_including, Cardinality, one_to_one, many_to_one, one_to_many, many_to_many, Fills, fills, Matching, matching}
use Rattle.promql_kind.specs.ValueTypes.{type_text}
use Rattle.promql_ast.specs.Shifts.{Shift, back, ahead, Moment, at_start, at_end, at_time}
use Rattle.promql_ast.specs.declared.range_mode.RangeMode.{RangeMode}
use Rattle.promql_ast.specs.declared.range_mode.RangeMode.TheVariants.{Plain, Smoothed, Anchored}

-- ---- "Values"

-- the members with these keys and values, in byte order of the keys
abbrev pub members : List (Text × Data) → Members
members [] = no_members
members ((k, d) ∷ more) = put k d (members more)

abbrev pub list : List Data → Data
list ds = array (items_of ds)

abbrev pub or_null : {A : Type 0} → (A → Data) → Option A → Data
or_null f o = option_map_or f o null

abbrev pub whole : ℤ → Data
whole z = number (of_integer z)

abbrev pub number_json : Number → Data
number_json n = string (number_text n)

-- ---- "Labels" and "Matchers"

abbrev pub labels_json : List Text → Data
labels_json ls = list (map string ls)

abbrev pub matcher_json : PlainMatcher → Data
matcher_json (plain_matcher op name value) =
    object (members ((codes "type", string (operator_text op)) ∷ (codes "name", string name) ∷ (codes "value", string value) ∷ []))

abbrev pub group_json : List PlainMatcher → Data
group_json ms = list (map matcher_json ms)

-- `or_matchers` only where there are groups
abbrev pub with_groups : List Data → Members → Members
with_groups [] ms = ms
with_groups (g ∷ gs) ms = put (codes "or_matchers") (list (g ∷ gs)) ms

-- a list of matchers by itself
abbrev pub matchers_json : PlainMatchers → Data
matchers_json (plain_matchers plain groups) = object (with_groups (map group_json groups) (members ((codes "matchers", group_json plain) ∷ [])))

-- ---- "Modifiers"

abbrev pub cardinality_json : Cardinality → Data
cardinality_json one_to_one = string (codes "one-to-one")
cardinality_json (many_to_one ls) = object (members ((codes "many-to-one", labels_json ls) ∷ []))
cardinality_json (one_to_many ls) = object (members ((codes "one-to-many", labels_json ls) ∷ []))
cardinality_json many_to_many = string (codes "many-to-many")

abbrev pub fills_json : Fills → Data
fills_json (fills rhs lhs) = object (members ((codes "rhs", or_null number_json rhs) ∷ (codes "lhs", or_null number_json lhs) ∷ []))

abbrev pub matching_json : Matching → Data
matching_json (matching card clause return_bool values) = object (members (
    (codes "card", cardinality_json card)
    ∷ (codes "include", list [])
    ∷ (codes "labels", labels_json (option_map_or clause_labels clause []))
    ∷ (codes "on", boolean (option_map_or is_including clause false))
    ∷ (codes "fillValues", fills_json values) ∷ []))

-- ---- "Offset and @", "Ranges"

-- whole milliseconds of nanoseconds
abbrev pub millis : ℕ → ℤ
millis n = pos (n / 1_000_000)

-- below zero for a shift ahead, zero without one
abbrev pub shift_millis : Option Shift → ℤ
shift_millis None = pos 0
shift_millis (Some (back n)) = millis n
shift_millis (Some (ahead n)) = neg_ℤ (millis n)

abbrev pub start_or_end : Option Moment → Data
start_or_end (Some at_start) = string (codes "start")
start_or_end (Some at_end) = string (codes "end")
start_or_end _ = null

abbrev pub timestamp : Option Moment → Data
timestamp (Some (at_time t)) = whole t
timestamp _ = null

-- `rangeMode` only where there is one
abbrev pub with_mode : RangeMode → Members → Members
with_mode Plain ms = ms
with_mode Smoothed ms = put (codes "rangeMode") (string (codes "smoothed")) ms
with_mode Anchored ms = put (codes "rangeMode") (string (codes "anchored")) ms

-- ---- "Functions"

abbrev pub function_json : Signature → Data
function_json (signature name args variadic gives experimental) = object (members (
    (codes "name", string name)
    ∷ (codes "argTypes", list (map (λ t. string (type_text t)) args))
    ∷ (codes "variadic", whole variadic)
    ∷ (codes "returnType", string (type_text gives))
    ∷ (codes "experimental", boolean experimental) ∷ []))
