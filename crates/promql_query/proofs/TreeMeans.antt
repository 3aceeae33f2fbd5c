-- A line that was read again and is the tree's means the tree.
use Rattle.std.proofs.Common.{◌≡◌, refl, subst, sym, true}
use Rattle.promql_text.specs.Texts.{Text}
use Rattle.promql_ast.specs.Text.{text as line_text}
use Rattle.promql_ast.specs.Tree.{Tree}
use Rattle.promql_syntax.specs.ParseAnswers.{IsServed}
use Rattle.promql_rewrite.specs.Faithful.{Means}
use Rattle.promql_rewrite.specs.Judged.{IsJudged}

means : (t : Tree) → IsJudged true t → Means (line_text t) t
means t j = record {
  answers = j.answers;
  served = subst (λ a. IsServed (line_text t) j.answers a) (j.says.0 refl) j.served;
}

pub line_means : (line : Text) (t : Tree) → line ≡ line_text t → IsJudged true t → Means line t
line_means line t is j = subst (λ s. Means s t) (sym is) (means t j)
