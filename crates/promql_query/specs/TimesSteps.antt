-- Of which tree a batch tells when it reads. Private: nothing rests on believing it.
use Rattle.std.specs.Prelude.{Option, Some, None, Ok}
use Rattle.promql_text.specs.Texts.{Text}
use Rattle.promql_ast.specs.Tree.{Tree}
use Rattle.promql_syntax.specs.ParseAnswers.{IsAnswerTo}

-- that of the query, if there is one
abbrev pub IsOfTree : Option Text → Tree → Type 0
IsOfTree None t = Unit {0}
IsOfTree (Some query) t = IsAnswerTo query (Ok t)
