-- A query and the times at which it is evaluated, as they print (docs/reference/printing.md, "Statements").
use Rattle.std.specs.Prelude.{ℕ, ℤ, ◌++◌, codes}
use Rattle.promql_text.specs.DurationText.{duration_text}
use Rattle.promql_text.specs.Texts.{Text}
use Rattle.promql_ast.specs.Shifts.{time_text}
use Rattle.promql_ast.specs.Text.{text}
use Rattle.promql_ast.specs.Tree.{Tree}

-- times in milliseconds since the epoch, durations in nanoseconds
abbrev pub statement_text : Tree → ℤ → ℤ → ℕ → ℕ → Text
statement_text t start end interval lookback =
    codes "[" ++ (text t ++ (codes "] @ [" ++ (time_text start ++ (codes ", " ++ (time_text end ++ (codes ", "
    ++ (duration_text interval ++ (codes ", " ++ (duration_text lookback ++ codes "]")))))))))
