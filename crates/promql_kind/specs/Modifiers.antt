-- Modifiers, as plain data (docs/reference/tree.md, "Modifiers").
use Rattle.std.specs.Prelude.{Bool, true, false, not, ◌==◌, ◌&&◌, List, length, Option, Some, None, is_some, option_map}
use Rattle.std.specs.Option.{option_map_or, option_zip}
use mathlib.Core.Bool.{beq}
use Rattle.promql_text.specs.Numbers.{Exact}
use Rattle.promql_text.specs.declared.number.Number.{Number}
use Rattle.promql_text.specs.declared.number.Number.TheVariants.{Finite, Inf, NegInf, NaN}
use Rattle.promql_label.specs.Labels.{common}
use Rattle.promql_text.specs.Texts.{Text}

-- labels to include, after `by` and `on`, or to exclude, after `without` and `ignoring`
pub data Clause : Type 0 where
  including excluding : List Text → Clause

-- how many elements match how many, with the labels after `group_left` or `group_right`
pub data Cardinality : Type 0 where
  one_to_one many_to_many : Cardinality
  many_to_one one_to_many : List Text → Cardinality

-- the right side's value, and the left side's
pub data Fills : Type 0 where
  fills : Option Number → Option Number → Fills

-- a modifier of a binary expression: cardinality, matching labels, `bool`, fill values
pub data Matching : Type 0 where
  matching : Cardinality → Option Clause → Bool → Fills → Matching

abbrev pub clause_labels : Clause → List Text
clause_labels (including ls) = ls
clause_labels (excluding ls) = ls

abbrev pub is_including : Clause → Bool
is_including (including ls) = true
is_including (excluding ls) = false

-- the labels after the grouping word, where there is one
abbrev pub grouping : Cardinality → Option (List Text)
grouping (many_to_one ls) = Some ls
grouping (one_to_many ls) = Some ls
grouping _ = None

abbrev pub is_grouping : Cardinality → Bool
is_grouping card = is_some (grouping card)

-- the labels that the grouping and the matching list have in common, where both are there
abbrev pub joint_labels : Matching → Option (List Text)
joint_labels (matching card clause return_bool values) =
    option_map (λ (p : List Text × Clause). common p.0 (clause_labels p.1)) (option_zip (grouping card) clause)

abbrev pub is_on : Matching → Bool
is_on (matching card clause return_bool values) = option_map_or is_including clause false

-- there is a label after `on` or `ignoring`
abbrev pub has_matching_labels : Matching → Bool
has_matching_labels (matching card clause return_bool values) = option_map_or (λ m. not (length (clause_labels m) == 0)) clause false

abbrev pub exact_eq : Exact → Exact → Bool
exact_eq a b =
    a.digits == b.digits && (a.zeros == b.zeros && (a.places == b.places && beq a.is_negative b.is_negative))

-- whether two numbers are one; NaN is one with itself
abbrev pub number_eq : Number → Number → Bool
number_eq (Finite a) (Finite b) = exact_eq a b
number_eq Inf Inf = true
number_eq NegInf NegInf = true
number_eq NaN NaN = true
number_eq _ _ = false
