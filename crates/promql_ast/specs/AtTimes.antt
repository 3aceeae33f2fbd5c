-- The time after `@` (docs/reference/tree.md, "Offset and @").
use Rattle.std.specs.Prelude.{ℕ, ℤ, ◌==◌, if◌then◌else◌, Option, Result, Ok, Err}
use Rattle.std.specs.Option.{option_map_or}
use Rattle.promql_text.specs.Millis.{to_millis}
use Rattle.promql_text.specs.declared.number.Number.{Number}
use Rattle.promql_token.specs.declared.ids.TheConstants.{T_START, T_END}
use Rattle.promql_ast.specs.Builds.{scalar_value}
use Rattle.promql_ast.specs.Tree.{Tree}
use Rattle.promql_ast.specs.declared.at_modifier.AtFault.{AtFault}
use Rattle.promql_ast.specs.declared.at_modifier.AtFault.TheVariants.{NotPreprocessor, OutOfBounds, NotANumber}
use Rattle.promql_ast.specs.declared.at_modifier.AtModifier.{AtModifier}
use Rattle.promql_ast.specs.declared.at_modifier.AtModifier.TheVariants.{Start, End, At}

-- a token's id: `start` or `end`
abbrev pub at_of_id : ℕ → Result AtModifier AtFault
at_of_id id = if id == T_START then Ok Start else (if id == T_END then Ok End else Err (NotPreprocessor id))

-- seconds since the epoch, to the nearest millisecond
abbrev pub at_of_number : Number → Result AtModifier AtFault
at_of_number seconds = option_map_or (λ t. Ok (At t)) (to_millis seconds) (Err (OutOfBounds seconds))

-- an expression: the number of a number literal
abbrev pub at_of_expr : Tree → Result AtModifier AtFault
at_of_expr t = option_map_or at_of_number (scalar_value t) (Err NotANumber)

-- the same, of the milliseconds. Private: nothing rests on believing it
abbrev pub at_of_millis : Number → Option ℤ → Result AtModifier AtFault
at_of_millis seconds millis = option_map_or (λ t. Ok (At t)) millis (Err (OutOfBounds seconds))
