-- A text that has a tree is answered by it.
use Rattle.std.proofs.Common.{◌≡◌, refl, sym, subst, List, [], ◌∷◌}
use Rattle.std.specs.Prelude.{Ok, Result}
use Rattle.promql_text.specs.Texts.{Text}
use Rattle.promql_grammar.specs.Grammar.{Derivation}
use Rattle.promql_grammar.proofs.Unique.{one_derivation}
use Rattle.promql_label.specs.Answers.{Allows, Answer}
use Rattle.promql_ast.specs.Normal.{normal}
use Rattle.promql_ast.specs.Text.{text}
use Rattle.promql_ast.specs.Tree.{Tree}
use Rattle.promql_syntax.specs.Asking.{AreAllowed, AreAnswersOf, Asked, Ends}
use Rattle.promql_syntax.specs.Building.{build}
use Rattle.promql_syntax.specs.ParseAnswers.{HasTree, IsServed, PlainParseError}
use Rattle.promql_syntax.proofs.building.Ending.{single_ends}
use Rattle.promql_syntax.proofs.readback.CanonicalTexts.{built_ok, same_yield, text_reads_back}

answers_allowed : (g : Text → Answer) → ((v : Text) → Allows v (g v)) → (answers : List Asked) → AreAnswersOf g answers → AreAllowed answers
answers_allowed g allows [] single = tt
answers_allowed g allows (a ∷ more) single = (subst (Allows a.about) (sym single.0) (allows a.about), answers_allowed g allows more single.1)

same_tree : (t u : Tree) → ◌≡◌ {A = Result Tree PlainParseError} (Ok t) (Ok u) → t ≡ u
same_tree t u same = cc

pub tree_is_served : (g : Text → Answer) → ((v : Text) → Allows v (g v)) → (source : Text) (t : Tree) → HasTree g source t → (answers : List Asked) × IsServed source answers (Ok t)
tree_is_served g allows source t h =
    let d : Derivation = h.0 in
    let ending = (single_ends g (build d) (Ok t)).0 h.3 in
    let answers : List Asked = ending.0 in (
      answers,
      record {
        allowed = answers_allowed g allows answers ending.1;
        built = λ r is. (d, h.1, h.2, subst (Ends (build d) answers) (sym (built_ok r t is)) ending.2);
        only = λ e derives low. (
          Ok t,
          subst (λ d. Ends (build d) answers (Ok t)) (one_derivation d e h.1.formed derives.formed (same_yield source d e h.1 derives)) ending.2,
          refl,
        );
        reads_back = λ f single u is.
            let again : HasTree f source t = (d, h.1, h.2, (single_ends f (build d) (Ok t)).1 (answers, single, ending.2)) in
            subst (λ u. HasTree f (text u) (normal u)) (same_tree t u is) (text_reads_back f source t again);
      },
    )
