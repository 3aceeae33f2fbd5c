-- The printed text of a text's tree has the tree's normal form.
use Rattle.std.proofs.Common.{◌≡◌, ◌↔◌, ℕ, ◌≤◌, refl, sym, ◌∙◌, ap, subst, arith, List}
use Rattle.std.specs.Prelude.{Ok, Err, Result}
use Rattle.promql_text.specs.Texts.{Text}
use Rattle.promql_token.specs.declared.fault.LexFault.{LexFault}
use Rattle.promql_grammar.specs.Grammar.{Derivation, height, yield}
use Rattle.promql_grammar.specs.Symbols.{Symbol}
use Rattle.promql_grammar.proofs.Unique.{one_derivation}
use Rattle.promql_label.specs.Answers.{Answer}
use Rattle.promql_ast.specs.Layout.{layout_of}
use Rattle.promql_ast.specs.Normal.{normal}
use Rattle.promql_ast.specs.Text.{text}
use Rattle.promql_ast.specs.Tree.{Tree}
use Rattle.promql_ast.proofs.normal_form.NormalForms.{text_alike}
use Rattle.promql_syntax.specs.ParseAnswers.{Derives, HasTree, IsServed, PlainParseError, fault}
use Rattle.promql_syntax.specs.PartBuilding.{on_error}
use Rattle.promql_syntax.specs.Asking.{AreAnswersOf, Asked, under}
use Rattle.promql_syntax.specs.declared.parser.TheConstants.{MAX_DEPTH}
use Rattle.promql_syntax.proofs.building.Ending.{ends_under}
use Rattle.promql_syntax.specs.Building.{build}
use Rattle.promql_syntax.proofs.readback.Derive.{derive}
use Rattle.promql_syntax.specs.BuildErrors.{BuildError}
use Rattle.promql_syntax.proofs.printed.PrintedItems.{line, lines}
use Rattle.promql_syntax.proofs.readback.Canonical.{Keeps}
use Rattle.promql_syntax.proofs.readback.CanonicalTrees.{keeps}
use Rattle.promql_syntax.proofs.lexed.LexedTexts.{items_derive}
use Rattle.promql_syntax.proofs.lexed.LexedTrees.{tree_lexed}
use Rattle.promql_syntax.proofs.printed.PrintedLayouts.{lines_bytes}
use Rattle.promql_syntax.proofs.printed.PrintedLines.{line_bytes}
use Rattle.promql_syntax.proofs.printed.PrintedExprTokens.{line_tokens, lines_tokens}
use Rattle.promql_syntax.proofs.building.SingleAnswers.{same_ok}
use Rattle.promql_syntax.proofs.readback.SpelledWords.{has_words}

-- ---- a text has one tree

pub same_yield : (z : Text) (c d : Derivation) → Derives z c → Derives z d → yield c ≡ yield d
same_yield z c d first second =
    let both : ◌≡◌ {A = Result (List Symbol) LexFault} (Ok (yield c)) (Ok (yield d)) = sym first.spells ∙ second.spells in
    cc

pub one_tree : (g : Text → Answer) (z : Text) (s t : Tree) → HasTree g z s → HasTree g z t → s ≡ t
one_tree g z s t first second =
    let a = first.1 in
    let b = second.1 in
    let same = one_derivation first.0 second.0 a.formed b.formed (same_yield z first.0 second.0 a b) in
    same_ok _ _ _ _ first.3 second.3 (ap (λ d. under g (build d)) same)

-- ---- answers

pub built_ok : (r : Result Tree BuildError) (t : Tree) → Ok t ≡ on_error fault r → r ≡ Ok t
built_ok (Ok u) t same = cc
built_ok (Err e) t same = cc

-- where there is a derivation, the answer is what it builds with these answers
pub served_as_built : (g : Text → Answer) (source : Text) (answers : List Asked) (answer : Result Tree PlainParseError) → IsServed source answers answer → AreAnswersOf g answers
    → (d : Derivation) → Derives source d → height d ≤ MAX_DEPTH → answer ≡ on_error fault (under g (build d))
served_as_built g source answers answer s single d derives low =
    let o = s.only d derives low in
    o.2 ∙ ap (on_error fault) (ends_under g (build d) answers o.0 o.1 single)

-- where the answer is a tree, the text has it
pub answer_has : (g : Text → Answer) (source : Text) (answers : List Asked) (t : Tree) → IsServed source answers (Ok t) → AreAnswersOf g answers → HasTree g source t
answer_has g source answers t s single =
    let b = s.built (Ok t) refl in
    (b.0, b.1, b.2, built_ok (under g (build b.0)) t (served_as_built g source answers (Ok t) s single b.0 b.1 b.2))

-- where the text has a tree, the answer is it
pub has_answer : (g : Text → Answer) (source : Text) (answers : List Asked) (answer : Result Tree PlainParseError) (t : Tree) → IsServed source answers answer → AreAnswersOf g answers → HasTree g source t → answer ≡ Ok t
has_answer g source answers answer t s single h = served_as_built g source answers answer s single h.0 h.1 h.2 ∙ ap (on_error fault) h.3

module _ (g : Text → Answer) where
  keeps_of : (source : Text) (t : Tree) → (h : HasTree g source t) → Keeps g h.0 t
  keeps_of source t h = let s = h.1 in keeps g h.0 t s.formed (has_words source h.0 s) h.3

  has_normal : (source : Text) (t : Tree) (z : Text) → HasTree g source t → Derives z (derive t) → HasTree g z (normal t)
  has_normal source t z h derives =
      let k = keeps_of source t h in
      (derive t, derives, omega (arith, k.low, h.2), k.again)

  -- ---- one line

  pub text_reads_back : (source : Text) (t : Tree) → HasTree g source t → HasTree g (text t) (normal t)
  text_reads_back source t h =
      let k = keeps_of source t h in
      has_normal source t (text t) h
      (subst (λ z. Derives z (derive t)) (line_bytes g t k.printable) (items_derive (line (derive t)) (derive t) ((tree_lexed g t k.printable).one 0) (line_tokens (derive t)) k.formed))

  -- ---- over several lines

  pub laid_reads_back : (source : Text) (t : Tree) → HasTree g source t → (level most : ℕ) → HasTree g (layout_of t level most) (normal t)
  laid_reads_back source t h level most =
      let k = keeps_of source t h in
      has_normal source t (layout_of t level most) h
      (subst (λ z. Derives z (derive t)) (lines_bytes g t level most k.printable)
      (items_derive (lines (derive t) level most) (derive t) ((tree_lexed g t k.printable).many 0 level most) (lines_tokens (derive t) level most) k.formed))

  -- ---- two trees

  pub prints_alike : (first second : Text) (s t : Tree) → HasTree g first s → HasTree g second t → (text s ≡ text t) ↔ (normal s ≡ normal t)
  prints_alike first second s t a b = (
    λ same. one_tree g (text t) (normal s) (normal t) (subst (λ z. HasTree g z (normal s)) same (text_reads_back first s a)) (text_reads_back second t b),
    λ same. sym (text_alike s) ∙ ap text same ∙ text_alike t,
  )
