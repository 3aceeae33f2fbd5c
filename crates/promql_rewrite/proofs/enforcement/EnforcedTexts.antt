-- The printed texts of an enforced tree have the enforced tree's normal form.
use Rattle.std.proofs.Common.{◌≢◌, ℕ, subst, arith, codes}
use Rattle.promql_text.specs.Texts.{Text}
use Rattle.promql_label.specs.Answers.{Answer}
use Rattle.promql_label.specs.PlainMatchers.{PlainMatcher, name_of}
use Rattle.promql_ast.specs.Layout.{layout_of}
use Rattle.promql_ast.specs.Normal.{normal}
use Rattle.promql_ast.specs.Text.{text}
use Rattle.promql_ast.specs.Tree.{Tree}
use Rattle.promql_syntax.specs.ParseAnswers.{Derives, HasTree}
use Rattle.promql_syntax.proofs.readback.Canonical.{Keeps, whole}
use Rattle.promql_syntax.proofs.readback.Derive.{derive}
use Rattle.promql_syntax.proofs.lexed.LexedTexts.{items_derive}
use Rattle.promql_syntax.proofs.lexed.LexedTrees.{tree_lexed}
use Rattle.promql_syntax.proofs.printed.PrintedExprTokens.{line_tokens, lines_tokens}
use Rattle.promql_syntax.proofs.printed.PrintedItems.{line, lines}
use Rattle.promql_syntax.proofs.printed.PrintedLayouts.{lines_bytes}
use Rattle.promql_syntax.proofs.printed.PrintedLines.{line_bytes}
use Rattle.promql_syntax.proofs.readback.SpelledWords.{has_words}
use Rattle.promql_rewrite.specs.Answered.{IsAnswered}
use Rattle.promql_rewrite.specs.Enforcing.{enforced}
use Rattle.promql_rewrite.proofs.enforcement.EnforcedTrees.{canon_enforced}

module _ (g : Text → Answer) (source : Text) (t : Tree) (h : HasTree g source t) where
  -- any tree that a text's derivation keeps: its texts have the tree's normal form
  kept_derives : (u : Tree) (z : Text) → Keeps g h.0 u → Derives z (derive u) → HasTree g z (normal u)
  kept_derives u z k derives = (derive u, derives, omega (arith, k.low, h.2), k.again)

  kept_line : (u : Tree) → Keeps g h.0 u → HasTree g (text u) (normal u)
  kept_line u k =
      kept_derives u (text u) k
      (subst (λ z. Derives z (derive u)) (line_bytes g u k.printable) (items_derive (line (derive u)) (derive u) ((tree_lexed g u k.printable).one 0) (line_tokens (derive u)) k.formed))

  kept_lines : (u : Tree) (level most : ℕ) → Keeps g h.0 u → HasTree g (layout_of u level most) (normal u)
  kept_lines u level most k =
      kept_derives u (layout_of u level most) k
      (subst (λ z. Derives z (derive u)) (lines_bytes g u level most k.printable)
      (items_derive (lines (derive u) level most) (derive u) ((tree_lexed g u k.printable).many 0 level most) (lines_tokens (derive u) level most) k.formed))

  module _ (c : PlainMatcher) (answered : IsAnswered g c) (other : name_of c ≢ codes "__name__") where
    kept : Keeps g h.0 (enforced c t)
    kept = let s = h.1 in whole g h.0 (enforced c t) (canon_enforced g c answered other h.0 t s.formed (has_words source h.0 s) h.3)

    pub enforced_line : HasTree g (text (enforced c t)) (normal (enforced c t))
    enforced_line = kept_line (enforced c t) kept

    pub enforced_lines : (level most : ℕ) → HasTree g (layout_of (enforced c t) level most) (normal (enforced c t))
    enforced_lines level most = kept_lines (enforced c t) level most kept
