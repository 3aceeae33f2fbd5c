-- Where each pattern of a tree has one allowed answer, these are the answers that were given.
use Rattle.std.proofs.Common.{◌≡◌, Bool, true, List, [], ◌∷◌, Result, Ok, refl, sym, ap, ◌∙◌, subst}
use Rattle.promql_text.specs.Texts.{Text}
use Rattle.promql_label.specs.Answers.{Allows, Answer}
use Rattle.promql_ast.specs.Tree.{Tree}
use Rattle.promql_syntax.specs.Asking.{AreAllowed, AreAnswersOf, Asked, Asking, asks, Ends, fails, gives}
use Rattle.promql_syntax.specs.Building.{build}
use Rattle.promql_syntax.specs.BuildErrors.{BuildError}
use Rattle.promql_syntax.specs.ParseAnswers.{HasTree, IsServed, PlainParseError}
use Rattle.promql_syntax.proofs.building.SuchPatterns.{TreePatterns}
use Rattle.promql_syntax.proofs.building.AskedPatterns.{AreAboutSuch, asked_about}
use Rattle.promql_syntax.proofs.building.Ending.{path, path_ends}
use Rattle.promql_syntax.proofs.readback.CanonicalTexts.{answer_has, has_answer}

module _ (is_such : Text → Bool) (g : Text → Answer) (one : (v : Text) → is_such v ≡ true → (a : Answer) → Allows v a → a ≡ g v) where
  pub allowed_are_answers : (answers : List Asked) → AreAboutSuch is_such answers → AreAllowed answers → AreAnswersOf g answers
  allowed_are_answers [] such allowed = tt
  allowed_are_answers (a ∷ more) such allowed = (one a.about such.0 a.answer allowed.0, allowed_are_answers more such.1 allowed.1)

  -- answers that are allowed are those of the path, where each question on it is such
  path_is_taken : {A : Type 0} (m : Asking A) (answers : List Asked) (result : Result A BuildError) → AreAboutSuch is_such (path g m) → AreAllowed answers → Ends m answers result → AreAnswersOf g answers
  path_is_taken (gives x) [] result such allowed h = tt
  path_is_taken (gives x) (a ∷ more) result such allowed h = absurd h
  path_is_taken (fails fault) [] result such allowed h = tt
  path_is_taken (fails fault) (a ∷ more) result such allowed h = absurd h
  path_is_taken (asks v next) [] result such allowed h = absurd h
  path_is_taken (asks v next) (a ∷ more) result such allowed h =
      let here : a.answer ≡ g v = one v such.0 a.answer (subst (λ u. Allows u a.answer) h.0 allowed.0) in
      (here ∙ ap g (sym h.0), path_is_taken (next (g v)) more result such.1 allowed.1 (subst (λ b. Ends (next b) more result) here h.1))

  pub tree_is_had : (source : Text) (answers : List Asked) (t : Tree) → IsServed source answers (Ok t) → TreePatterns is_such t → HasTree g source t
  tree_is_had source answers t served small =
      let made = served.built (Ok t) refl in
      answer_has g source answers t served (allowed_are_answers answers (asked_about is_such made.0 answers t made.3 small) served.allowed)

  pub tree_is_answer : (source : Text) (answers : List Asked) (answer : Result Tree PlainParseError) (t : Tree) → IsServed source answers answer → HasTree g source t → TreePatterns is_such t → answer ≡ Ok t
  tree_is_answer source answers answer t served has small =
      let only = served.only has.0 has.1 has.2 in
      let such = asked_about is_such has.0 (path g (build has.0)) t (subst (Ends (build has.0) (path g (build has.0))) has.3 (path_ends g (build has.0))) small in
      let taken = path_is_taken (build has.0) answers only.0 such served.allowed only.1 in
      has_answer g source answers answer t served taken has
