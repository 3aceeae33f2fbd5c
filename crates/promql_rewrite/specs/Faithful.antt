-- Texts that mean a tree (docs/guide/rewriting.md, "Faithful texts").
use Rattle.std.specs.Prelude.{◌≡◌, ◌≢◌, List, Ok}
use Rattle.promql_text.specs.Texts.{Text}
use Rattle.promql_ast.specs.Normal.{normal}
use Rattle.promql_ast.specs.Text.{text as line_text}
use Rattle.promql_ast.specs.Tree.{Tree}
use Rattle.promql_syntax.specs.Asking.{Asked}
use Rattle.promql_syntax.specs.ParseAnswers.{IsAnswerTo, IsServed}

-- the text is answered by the tree's normal form
pub record Means (text : Text) (t : Tree) : Type 0 where
  pub answers : List Asked
  pub served : IsServed text answers (Ok (normal t))

-- the text is answered by another tree
abbrev pub MeansOther : Text → Tree → Type 0
MeansOther text t = (other : Tree) × IsAnswerTo text (Ok other) × (other ≢ normal t)

-- the text is the tree's line, and means it
abbrev pub IsLineOf : Tree → Text → Type 0
IsLineOf t line = (line ≡ line_text t) × Means line t
