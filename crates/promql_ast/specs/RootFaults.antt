-- What the checks look for at the root of a tree, in order (docs/reference/tree.md, "Checks"): by the law
-- `checks_find_the_first_fault` they reject with the first of these faults that applies.
use Rattle.std.specs.Prelude.{false, not, ◌&&◌, ◌||◌, ◌==◌, if◌then◌else◌, List, [], ◌∷◌, length, slice_get, Option, Some, None, option_map, option_and_then, unwrap_or, codes}
use Rattle.std.specs.Option.{option_map_or}
use Rattle.promql_text.specs.Texts.{Text}
use Rattle.promql_token.specs.Ids.{is_aggregator, is_comparison_operator, is_operator, is_set_operator}
use Rattle.promql_label.specs.PlainMatchers.{all_match_empty, found_value}
use Rattle.promql_kind.specs.Functions.{signature}
use Rattle.promql_kind.specs.Modifiers as kind
use Rattle.promql_kind.specs.Modifiers.{Matching, matching, one_to_one, many_to_many, fills}
use Rattle.promql_kind.specs.declared.value.ValueType.{ValueType}
use Rattle.promql_kind.specs.declared.value.ValueType.TheVariants.{Vector}
use Rattle.promql_ast.specs.Arguments.{count}
use Rattle.promql_ast.specs.Checks.{when, is_scalar, is_vector, is_scalar_or_vector, type_fault}
use Rattle.promql_ast.specs.Faults.{Fault, aggregator_expected, in_aggregation, in_call, binary_operator, bool_modifier, scalar_comparison, label_twice, set_on_scalar, no_grouping, binary_types, vector_matching, unary_type, subquery_type, name_twice, empty_selector}
use Rattle.promql_ast.specs.OptionalModifiers.{returns_bool, is_grouped}
use Rattle.promql_ast.specs.Selectors.{selector}
use Rattle.promql_ast.specs.Tree.{Tree, aggregate, unary, binary, subquery, vector, call, Trees, first_tree}
use Rattle.promql_ast.specs.Types.{type_of}
use Rattle.promql_ast.specs.check.AggregateChecks.{maybe_type, param_type}
use Rattle.promql_ast.specs.check.CallChecks.{arity_fault, is_exempt}

-- "Types of arguments": each argument has its type, and those past the list have the last one
abbrev pub argument_faults : Text → List ValueType → Trees → List (Option Fault)
argument_faults name (k ∷ ks) (first_tree t ts) =
    type_fault k (in_call name) (Some (type_of t)) ∷ argument_faults name (if length ks == 0 then k ∷ [] else ks) ts
argument_faults name _ _ = []

abbrev pub root_faults : Tree → List (Option Fault)
root_faults (aggregate op e p m) =
    when (not (is_aggregator op)) (aggregator_expected op)
    ∷ type_fault Vector in_aggregation (Some (type_of e))
    ∷ option_and_then (λ t. type_fault t in_aggregation (maybe_type p)) (param_type op)
    ∷ []
root_faults (unary e) = when (not (is_scalar_or_vector (type_of e))) (unary_type (type_of e)) ∷ []
root_faults (binary op l r m) =
    when (not (is_operator op)) (binary_operator op)
    ∷ when (returns_bool m && not (is_comparison_operator op)) bool_modifier
    ∷ when (is_comparison_operator op && (is_scalar (type_of l) && (is_scalar (type_of r) && not (returns_bool m)))) scalar_comparison
    ∷ (if option_map_or kind.is_on m false
    then option_map label_twice (option_and_then (λ ls. slice_get ls 0) (option_and_then kind.joint_labels m)) else None)
    ∷ when (is_set_operator op && (is_scalar (type_of l) || is_scalar (type_of r))) (set_on_scalar op)
    ∷ when (is_set_operator op && ((is_vector (type_of l) && is_vector (type_of r)) && is_grouped m)) (no_grouping op)
    ∷ when (not (is_scalar_or_vector (type_of l) && is_scalar_or_vector (type_of r))) binary_types
    ∷ when (not (is_vector (type_of l) && is_vector (type_of r)) && option_map_or kind.has_matching_labels m false) vector_matching
    ∷ []
root_faults (subquery e offset at range step) = when (not (is_vector (type_of e))) (subquery_type (type_of e)) ∷ []
root_faults (vector (selector (Some name) matchers offset at)) = option_map (name_twice name) (found_value matchers (codes "__name__")) ∷ []
root_faults (vector (selector None matchers offset at)) = when (all_match_empty matchers) empty_selector ∷ []
root_faults (call (signature name types variadic gives experimental) ts) =
    arity_fault name variadic (length types) (count ts) ∷ (if is_exempt name ts then [] else argument_faults name types ts)
root_faults t = []

-- "Sets": a set operator matches many elements with many, unless a grouping says otherwise
abbrev pub to_many : Matching → Matching
to_many (matching one_to_one clause return_bool values) = matching many_to_many clause return_bool values
to_many m = m

abbrev pub with_set_matching : Tree → Tree
with_set_matching (binary op l r m) =
    binary op l r (if is_set_operator op then Some (to_many (unwrap_or m (matching one_to_one None false (fills None None)))) else m)
with_set_matching t = t
