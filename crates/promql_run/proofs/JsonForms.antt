-- A tree without an extension has a JSON form, or a number that is too wide for one.
use Rattle.std.proofs.Common.{◌≡◌, ℤ, ℕ, ◌∙◌}
use Rattle.std.specs.Prelude.{Bool, true, false, if◌then◌else◌, Option, Some, None, Err}
use Rattle.std.specs.Option.{option_or}
use Rattle.serde_json.specs.Data.{Data}
use Rattle.promql_ast.specs.Selectors.{selector}
use Rattle.promql_ast.specs.Tree.{Tree, aggregate, unary, binary, paren, subquery, number, string, vector, matrix, call, extension, MaybeTree, absent, present, Trees, no_trees, first_tree}
use Rattle.promql_json.specs.declared.error.JsonError.{JsonError}
use Rattle.promql_json.specs.declared.error.JsonError.TheVariants.{Memory, NumberTooWide, Extension}
use Rattle.promql_json.specs.Json.{width_fault, own_fault, first_fault, json, json_value}
use Rattle.promql_json.specs.FormNames.{step_fault, unless}
use Rattle.promql_json.specs.JsonFaults.{json_fault, param_fault, args_fault}
use Rattle.promql_json.specs.JsonParts.{millis, shift_millis}
use Rattle.promql_json.proofs.FaultOrder.{first_met}
use Rattle.promql_run.specs.Extensions.{HasNoExtension, NoneInParam, NoneInEach}

abbrev IsNoExtension : Option JsonError → Type 0
IsNoExtension None = Unit {0}
IsNoExtension (Some Memory) = Unit {0}
IsNoExtension (Some NumberTooWide) = Unit {0}
IsNoExtension (Some Extension) = ⊥

first_is_none : (a b : Option JsonError) → IsNoExtension a → IsNoExtension b → IsNoExtension (option_or a b)
first_is_none None b first second = second
first_is_none (Some e) b first second = first

if_wide : (b : Bool) → IsNoExtension (if b then Some NumberTooWide else None)
if_wide true = tt
if_wide false = tt

width_is_none : (z : ℤ) → IsNoExtension (width_fault z)
width_is_none z = if_wide _

step_is_none : (step : Option ℕ) → IsNoExtension (step_fault step)
step_is_none None = tt
step_is_none (Some n) = width_is_none (millis n)

mutual
  none_at_fault : (t : Tree) → HasNoExtension t → IsNoExtension (json_fault t)
  none_at_fault (aggregate op e p m) plain = first_is_none (param_fault p) (json_fault e) (param_is_none p plain.0) (none_at_fault e plain.1)
  none_at_fault (unary e) plain = none_at_fault e plain
  none_at_fault (binary op l r m) plain = first_is_none (json_fault l) (json_fault r) (none_at_fault l plain.0) (none_at_fault r plain.1)
  none_at_fault (paren e) plain = none_at_fault e plain
  none_at_fault (subquery e offset at range step) plain =
      first_is_none (own_fault (subquery e offset at range step)) (json_fault e)
      (first_is_none (width_fault (shift_millis offset)) _ (width_is_none (shift_millis offset))
      (first_is_none (width_fault (millis range)) (step_fault step) (width_is_none (millis range)) (step_is_none step)))
      (none_at_fault e plain)
  none_at_fault (number n) plain = tt
  none_at_fault (string s) plain = tt
  none_at_fault (vector (selector name ms offset at)) plain = width_is_none (shift_millis offset)
  none_at_fault (matrix (selector name ms offset at) range mode) plain =
      first_is_none (width_fault (shift_millis offset)) (width_fault (millis range)) (width_is_none (shift_millis offset)) (width_is_none (millis range))
  none_at_fault (call f args) plain = args_are_none args plain
  none_at_fault (extension name gives es) plain = absurd plain

  param_is_none : (p : MaybeTree) → NoneInParam p → IsNoExtension (param_fault p)
  param_is_none absent plain = tt
  param_is_none (present e) plain = none_at_fault e plain

  args_are_none : (ts : Trees) → NoneInEach ts → IsNoExtension (args_fault ts)
  args_are_none no_trees plain = tt
  args_are_none (first_tree e es) plain = first_is_none (json_fault e) (args_fault es) (none_at_fault e plain.0) (args_are_none es plain.1)

fault_met : (f : Option JsonError) (d : Data) → unless f d ≡ Err Extension → f ≡ Some Extension
fault_met None d is = absurd cc
fault_met (Some e) d is = cc

none_is : (f : Option JsonError) → IsNoExtension f → f ≡ Some Extension → ⊥
none_is None none is = cc
none_is (Some Memory) none is = cc
none_is (Some NumberTooWide) none is = cc
none_is (Some Extension) none is = none

pub is_no_extension : (t : Tree) → HasNoExtension t → json t ≡ Err Extension → ⊥
is_no_extension t plain is =
    none_is (json_fault t) (none_at_fault t plain) (first_met t ∙ fault_met (first_fault t) (json_value t) is)
