-- What the parser's functions for parts return. Private: nothing rests on believing it.
use Rattle.std.specs.Prelude.{◌≡◌, Bool, true, List, Result, Ok}
use Rattle.std.specs.declared.alloc.Global.{Global}
use Rattle.std.specs.declared.boxed.Box.{Box}
use Rattle.promql_grammar.specs.Symbols.{Symbol}
use Rattle.promql_grammar.specs.Parsing.{Read}
use Rattle.promql_syntax.specs.declared.grammar.build_error.BuildError as code
use Rattle.promql_syntax.specs.Asking.{Asking, Asked, AreAllowed, Ends}
use Rattle.promql_syntax.specs.BuildErrors.{BuildError, view_result}

-- the value is the end of building, with answers that are allowed
pub record IsBuiltBy {V A : Type 0} (view : V → A) (value : Result V (Box code.BuildError Global)) (building : Asking A) : Type 0 where
  pub answers : List Asked
  pub allowed : AreAllowed answers
  pub ends : Ends building answers (view_result view value)

-- a part was parsed, these tokens are left, and the value is what it builds
pub record ParsesPart {V A P : Type 0} (view : V → A) (builds : P → Result A BuildError) (value : Result V (Box code.BuildError Global)) (rest : List Symbol) (read : Read P) : Type 0 where
  pub part : P
  pub is : read ≡ Ok (part, rest)
  pub built : view_result view value ≡ builds part

-- the same for a part that asks about patterns, where it is built
pub record ParsesAskedPart {V A P : Type 0} (asked : Bool) (view : V → A) (builds : P → Asking A) (value : Result V (Box code.BuildError Global)) (rest : List Symbol) (read : Read P) : Type 0 where
  pub part : P
  pub is : read ≡ Ok (part, rest)
  pub built : asked ≡ true → IsBuiltBy view value (builds part)
