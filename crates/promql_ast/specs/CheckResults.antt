-- What a check of a part of a node returns. Private: nothing rests on believing it.
use Rattle.std.specs.Prelude.{◌≡◌, Option, Some, None, Result, Ok, Err}
use Rattle.promql_ast.specs.Faults.{Fault, fault_of}
use Rattle.promql_ast.specs.declared.fault.CheckError.{CheckError}
use Rattle.promql_ast.specs.declared.fault.CheckError.TheVariants as error

-- the result is a fault that applies, or an allocation failed
abbrev pub Checks : {X : Type 0} → Result X CheckError → Option Fault → Type 0
Checks (Ok x) fault = fault ≡ None
Checks (Err error.Memory) fault = Unit {0}
Checks (Err (error.Check f)) fault = fault ≡ Some (fault_of f)

-- the same, where nothing is allocated
abbrev pub ChecksAtOnce : {X : Type 0} → Result X CheckError → Option Fault → Type 0
ChecksAtOnce (Ok x) fault = fault ≡ None
ChecksAtOnce (Err error.Memory) fault = ⊥
ChecksAtOnce (Err (error.Check f)) fault = fault ≡ Some (fault_of f)
