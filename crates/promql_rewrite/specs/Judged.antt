-- What reading a tree's line again says of the tree (docs/guide/rewriting.md, "Trees of your own").
use Rattle.std.specs.Prelude.{◌≡◌, ◌↔◌, Bool, IsTrue, List, Result, Ok}
use Rattle.promql_text.specs.Texts.{Text}
use Rattle.promql_label.specs.Answers.{Answer, pattern_answer}
use Rattle.promql_ast.specs.Normal.{normal}
use Rattle.promql_ast.specs.Text.{text}
use Rattle.promql_ast.specs.Tree.{Tree}
use Rattle.promql_syntax.specs.Asking.{Asked, AreAnswersOf}
use Rattle.promql_syntax.specs.ParseAnswers.{IsServed, PlainParseError}
use Rattle.promql_syntax.specs.TreePatterns.{HasSmallPatterns}
use Rattle.promql_rewrite.specs.PrintableTrees.{IsPrintable}

-- whether the answer to the line is the tree's normal form; so whether the tree is printable, where each pattern has the one
-- answer that `regex` gave, and with no premise where the tree's patterns are small
pub record IsJudged (yes : Bool) (t : Tree) : Type 0 where
  pub answers : List Asked
  pub answer : Result Tree PlainParseError
  pub served : IsServed (text t) answers answer
  pub says : IsTrue yes ↔ (answer ≡ Ok (normal t))
  pub decides : (g : Text → Answer) → AreAnswersOf g answers → IsTrue yes ↔ IsPrintable g t
  pub small : HasSmallPatterns t → IsTrue yes ↔ IsPrintable pattern_answer t
