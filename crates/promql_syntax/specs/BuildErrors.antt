-- Errors of building, as plain data (docs/reference/grammar.md, "Building").
use Rattle.std.specs.Prelude.{string_bytes, Result, Ok, Err}
use Rattle.std.specs.declared.alloc.Global.{Global}
use Rattle.std.specs.declared.boxed.Box.{Box}
use Rattle.promql_text.specs.Texts.{Text}
use Rattle.promql_text.specs.declared.number.NumberFault.{NumberFault}
use Rattle.promql_text.specs.declared.duration.DurationFault.{DurationFault}
use Rattle.promql_ast.specs.declared.at_modifier.AtFault.{AtFault}
use Rattle.promql_ast.specs.Faults as trees
use Rattle.promql_syntax.specs.declared.grammar.build_error.BuildError as code
use Rattle.promql_syntax.specs.declared.grammar.build_error.BuildFault.{BuildFault}
use Rattle.promql_syntax.specs.declared.grammar.build_error.BuildFault.TheVariants as faults

pub data BuildError : Type 0 where
  number : NumberFault → BuildError
  quoted : BuildError
  duration : DurationFault → BuildError
  at : AtFault → BuildError
  pattern unknown_function : Text → BuildError
  check : trees.Fault → BuildError

-- Private from here on: nothing rests on believing it. The faults of the code, with their places, are those.
abbrev pub build_fault_of : BuildFault → BuildError
build_fault_of (faults.Number f) = number f
build_fault_of faults.Quoted = quoted
build_fault_of (faults.Duration f) = duration f
build_fault_of (faults.At f) = at f
build_fault_of (faults.Pattern value) = pattern (string_bytes value)
build_fault_of (faults.UnknownFunction name) = unknown_function (string_bytes name)
build_fault_of (faults.Check f) = check (trees.fault_of f)

-- without its place
abbrev pub build_error_of : code.BuildError → BuildError
build_error_of e = build_fault_of e.fault

-- a value or an error, as plain data
abbrev pub view_result : {V A : Type 0} → (V → A) → Result V (Box code.BuildError Global) → Result A BuildError
view_result view (Ok v) = Ok (view v)
view_result view (Err f) = Err (build_error_of f.value)
