-- The printed texts of a printable tree have the tree's normal form.
use Rattle.std.proofs.Common.{ℕ, subst, arith}
use Rattle.promql_text.specs.Texts.{Text}
use Rattle.promql_label.specs.Answers.{Answer}
use Rattle.promql_ast.specs.Layout.{layout_of}
use Rattle.promql_ast.specs.Normal.{normal}
use Rattle.promql_ast.specs.Text.{text}
use Rattle.promql_ast.specs.Tree.{Tree}
use Rattle.promql_syntax.specs.ParseAnswers.{Derives, HasTree}
use Rattle.promql_syntax.proofs.readback.Derive.{derive}
use Rattle.promql_syntax.proofs.lexed.LexedTexts.{items_derive}
use Rattle.promql_syntax.proofs.lexed.LexedTrees.{tree_lexed}
use Rattle.promql_syntax.proofs.printed.PrintedExprTokens.{line_tokens, lines_tokens}
use Rattle.promql_syntax.proofs.printed.PrintedItems.{line, lines}
use Rattle.promql_syntax.proofs.printed.PrintedLayouts.{lines_bytes}
use Rattle.promql_syntax.proofs.printed.PrintedLines.{line_bytes}
use Rattle.promql_rewrite.specs.PrintableNodes.{NodesArePrintable}
use Rattle.promql_rewrite.proofs.readback.PrintablePlaces.{Placed, placed}

module _ (g : Text → Answer) (t : Tree) (h : NodesArePrintable g t) where
  place : Placed g t
  place = placed g t h.typed h.nodes

  has_normal : (z : Text) → Derives z (derive t) → HasTree g z (normal t)
  has_normal z derives = let p = place in let k = p.keeps in (derive t, derives, omega (arith, k.low, p.low, h.low), k.again)

  pub printable_line : HasTree g (text t) (normal t)
  printable_line =
      let k = place.keeps in
      has_normal (text t) (subst (λ z. Derives z (derive t)) (line_bytes g t k.printable) (items_derive (line (derive t)) (derive t) ((tree_lexed g t k.printable).one 0) (line_tokens (derive t)) k.formed))

  pub printable_lines : (level most : ℕ) → HasTree g (layout_of t level most) (normal t)
  printable_lines level most =
      let k = place.keeps in
      has_normal (layout_of t level most)
      (subst (λ z. Derives z (derive t)) (lines_bytes g t level most k.printable)
      (items_derive (lines (derive t) level most) (derive t) ((tree_lexed g t k.printable).many 0 level most) (lines_tokens (derive t) level most) k.formed))
