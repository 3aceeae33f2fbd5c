-- What aggregations and operators do without a clause, and what is seen of a first argument and of a selector.
use Rattle.std.specs.Prelude.{ℕ, Option, []}
use Rattle.std.specs.Option.{option_map_or, unwrap_or}
use Rattle.promql_kind.specs.Modifiers.{Clause, including, excluding}
use Rattle.promql_ast.specs.Arguments.{first_of}
use Rattle.promql_ast.specs.Selectors.{Selector}
use Rattle.promql_ast.specs.Tree.{vector, matrix, Trees}
use Rattle.promql_ast.specs.declared.range_mode.RangeMode.{RangeMode}
use Rattle.promql_meaning.specs.Seen.{Beside, nothing, matchers_in, Seen, seen}
use Rattle.promql_meaning.specs.Stores.{Store}

abbrev pub grouped : Option Clause → Clause
grouped m = unwrap_or m (including [])

abbrev pub matched : Option Clause → Clause
matched m = unwrap_or m (excluding [])

abbrev pub matchers_in_first : Trees → Beside
matchers_in_first args = option_map_or matchers_in (first_of args) nothing

-- what is seen of a selector
abbrev pub instants_of : Store → Selector → Seen
instants_of store s = seen store (vector s)

abbrev pub ranges_of : Store → Selector → ℕ → RangeMode → Seen
ranges_of store s range mode = seen store (matrix s range mode)
