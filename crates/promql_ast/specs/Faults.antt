-- Why a node is rejected (docs/reference/tree.md, "Checks" and "Builders"), as plain data.
use Rattle.std.specs.Prelude.{◌≡◌, ℕ, Option, Some, None, Result, Ok, Err, string_bytes}
use Rattle.promql_text.specs.Texts.{Text}
use Rattle.promql_kind.specs.declared.value.ValueType.{ValueType}
use Rattle.promql_ast.specs.Tree.{Tree}
use Rattle.promql_ast.specs.declared.fault.CheckError.{CheckError}
use Rattle.promql_ast.specs.declared.fault.CheckError.TheVariants as error
use Rattle.promql_ast.specs.declared.fault.CheckFault.{CheckFault}
use Rattle.promql_ast.specs.declared.fault.CheckFault.TheVariants as fault
use Rattle.promql_ast.specs.declared.fault.NodeFault.{NodeFault}
use Rattle.promql_ast.specs.declared.fault.TypeContext.{TypeContext}
use Rattle.promql_ast.specs.declared.fault.TypeContext.TheVariants.{Aggregation, CallOf}

-- where a type is expected: in an aggregation, or in a call of a function of this name
pub data Context : Type 0 where
  in_aggregation : Context
  in_call : Text → Context

pub data Fault : Type 0 where
  bool_modifier scalar_comparison binary_types vector_matching empty_selector : Fault
  binary_operator set_on_scalar no_grouping aggregator_expected : ℕ → Fault
  label_twice : Text → Fault
  name_twice : Text → Text → Fault
  type_expected : ValueType → Context → Option ValueType → Fault
  arity_exact arity_least arity_most : ℕ → Text → ℕ → Fault
  unary_type subquery_type : ValueType → Fault
  node : NodeFault → Fault

abbrev pub context_of : TypeContext → Context
context_of Aggregation = in_aggregation
context_of (CallOf name) = in_call name.now

abbrev pub fault_of : CheckFault → Fault
fault_of (fault.BinaryOperator op) = binary_operator op
fault_of fault.BoolModifier = bool_modifier
fault_of fault.ScalarComparison = scalar_comparison
fault_of (fault.LabelTwice label) = label_twice (string_bytes label)
fault_of (fault.SetOnScalar op) = set_on_scalar op
fault_of (fault.NoGrouping op) = no_grouping op
fault_of fault.BinaryTypes = binary_types
fault_of fault.VectorMatching = vector_matching
fault_of (fault.AggregatorExpected op) = aggregator_expected op
fault_of (fault.TypeExpected expected context found) = type_expected expected (context_of context) found
fault_of (fault.ArityExact expected name found) = arity_exact expected name.now found
fault_of (fault.ArityLeast expected name found) = arity_least expected name.now found
fault_of (fault.ArityMost expected name found) = arity_most expected name.now found
fault_of (fault.UnaryType found) = unary_type found
fault_of (fault.SubqueryType found) = subquery_type found
fault_of (fault.NameTwice name value) = name_twice (string_bytes name) (string_bytes value)
fault_of fault.EmptySelector = empty_selector
fault_of (fault.Node f) = node f

-- the fault of an error, if memory did not run out
abbrev pub error_fault : CheckError → Option Fault
error_fault error.Memory = None
error_fault (error.Check f) = Some (fault_of f)

-- what a builder or the checks give: a tree, or the first fault
pub data Verdict : Type 0 where
  passes : Tree → Verdict
  rejected : Fault → Verdict

-- the result is the verdict, where a value stands for this tree; `memory` says whether an allocation may fail
abbrev pub Gives : {X : Type 0} → Type 0 → (X → Tree) → Result X CheckError → Verdict → Type 0
Gives memory tree (Ok x) verdict = verdict ≡ passes (tree x)
Gives memory tree (Err error.Memory) verdict = memory
Gives memory tree (Err (error.Check f)) verdict = verdict ≡ rejected (fault_of f)
