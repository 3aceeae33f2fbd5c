-- A matcher in the selectors of a tree whose line is short enough. Private: nothing rests on believing it.
use Rattle.std.specs.Prelude.{◌≡◌, ◌<◌, ℕ, Ok, Err, length}
use Rattle.promql_text.specs.Texts.{Text}
use Rattle.promql_ast.specs.Text.{text as line_text}
use Rattle.promql_ast.specs.Tree.{Tree}
use Rattle.promql_span.specs.declared.limits.Limits.{Limits}
use Rattle.promql_query.specs.EnforcedLines.{Enforces}
use Rattle.promql_query.specs.declared.enforced_line.NotEnforced.{NotEnforced}
use Rattle.promql_query.specs.declared.enforced_line.NotEnforced.TheVariants.{Query, TooLong}

-- why there is no tree with the matcher in every selector, or none whose line has at most so many bytes
abbrev pub IsNotEnforced : Limits → Text → Tree → ℕ → NotEnforced → Type 0
IsNotEnforced limits matcher t most (Query e) = Enforces limits matcher t (Err e)
IsNotEnforced limits matcher t most (TooLong len) =
    (u : Tree) × Enforces limits matcher t (Ok u) × (len ≡ length (line_text u)) × (most < len)
