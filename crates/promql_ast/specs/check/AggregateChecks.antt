-- The checks of an aggregation, in order (docs/reference/tree.md, "Aggregations").
use Rattle.std.specs.Prelude.{ℕ, not, ◌==◌, if◌then◌else◌, [], ◌∷◌, Option, Some, None, option_and_then}
use Rattle.promql_token.specs.Ids.{is_aggregator, is_one_of}
use Rattle.promql_token.specs.declared.ids.TheConstants.{T_TOPK, T_BOTTOMK, T_QUANTILE, T_LIMITK, T_LIMIT_RATIO, T_COUNT_VALUES}
use Rattle.promql_kind.specs.Modifiers.{Clause}
use Rattle.promql_kind.specs.declared.value.ValueType.{ValueType}
use Rattle.promql_kind.specs.declared.value.ValueType.TheVariants.{Vector, Scalar, String}
use Rattle.promql_ast.specs.Checks.{when, first_fault, unless, type_fault}
use Rattle.promql_ast.specs.Faults.{Fault, aggregator_expected, in_aggregation, Verdict, passes}
use Rattle.promql_ast.specs.Tree.{Tree, aggregate, MaybeTree, absent, present}
use Rattle.promql_ast.specs.Types.{type_of}

-- the type of the parameter, where the aggregator has one
abbrev pub param_type : ℕ → Option ValueType
param_type op =
    if is_one_of (T_TOPK ∷ T_BOTTOMK ∷ T_QUANTILE ∷ T_LIMITK ∷ T_LIMIT_RATIO ∷ []) op then Some Scalar
    else (if op == T_COUNT_VALUES then Some String else None)

abbrev pub maybe_type : MaybeTree → Option ValueType
maybe_type absent = None
maybe_type (present e) = Some (type_of e)

abbrev pub param_fault : Option ValueType → Option ValueType → Option Fault
param_fault expected found = option_and_then (λ t. type_fault t in_aggregation found) expected

abbrev pub aggregate_fault : ℕ → ValueType → Option ValueType → Option Fault
aggregate_fault op e p = first_fault (
    when (not (is_aggregator op)) (aggregator_expected op)
    ∷ type_fault Vector in_aggregation (Some e)
    ∷ param_fault (param_type op) p
    ∷ [])

abbrev pub checked_aggregate : ℕ → Tree → MaybeTree → Option Clause → Verdict
checked_aggregate op e p m = unless (aggregate_fault op (type_of e) (maybe_type p)) (passes (aggregate op e p m))
