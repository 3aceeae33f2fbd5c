-- `==` of formats and errors holds exactly of one kind with the same data.
use Rattle.std.proofs.Common.{◌≡◌, ℕ, eqb, IsTrue, false, refl, ap}
use Rattle.std.specs.Prelude.{◌↔◌, Some}
use Rattle.std.proofs.lemmas.Bool.{eq-eqb}
use Rattle.std.proofs.lemmas.Bool.Decides.{Decides-and, Decides-eqb, Decides-like}
use Rattle.promql_text.specs.Equalities.{IsSameBy}
use Rattle.promql_syntax.specs.contracts.parser.ParseErrorPartialEq.TheImpl as parse_errors
use Rattle.promql_run.specs.contracts.format.FormatPartialEq.TheImpl as formats
use Rattle.promql_run.specs.contracts.run.RunErrorPartialEq.TheImpl as errors
use Rattle.promql_syntax.specs.ParseAnswers.{plain_error_of}
use Rattle.promql_run.specs.Running.{failure_of}
use Rattle.promql_run.specs.declared.format.Layout.{Layout}
use Rattle.promql_run.specs.declared.format.Format.TheVariants as format
use Rattle.promql_run.specs.declared.run.RunError.{RunError}
use Rattle.promql_run.specs.declared.run.RunError.TheVariants.{Memory, Read, NotUtf8, Parse, Write, Json}

pub format_Decides : IsSameBy (λ f. f) formats.ghosts.eq
format_Decides (format.Pretty a) (format.Pretty b) =
    Decides-like _ (λ same i. format.Pretty (record { level = same.0 i; width = same.1 i }))
    (λ same. let one : a ≡ b = cc in (ap (λ (l : Layout). l.level) one, ap (λ (l : Layout). l.width) one))
    (Decides-and _ _ (Decides-eqb a.level b.level) (Decides-eqb a.width b.width))
format_Decides format.Line format.Line = ((λ _. refl), (λ _. refl))
format_Decides format.Json format.Json = ((λ _. refl), (λ _. refl))
format_Decides _ _ = ((λ h. cc), (λ h. cc))

abbrev rank : RunError → ℕ
rank e = (failure_of e).0

error_apart : (a b : RunError) → eqb (rank a) (rank b) ≡ false → errors.ghosts.eq a b ≡ false
error_apart Memory Memory apart = cc
error_apart Read Read apart = cc
error_apart NotUtf8 NotUtf8 apart = cc
error_apart (Parse a) (Parse b) apart = cc
error_apart Write Write apart = cc
error_apart Json Json apart = cc
error_apart _ _ apart = refl

error_apart_Decides : (a b : RunError) → eqb (rank a) (rank b) ≡ false → IsTrue (errors.ghosts.eq a b) ↔ (failure_of a ≡ failure_of b)
error_apart_Decides a b apart = (
  λ yes. let no = error_apart a b apart in cc,
  λ same. let one = eq-eqb (rank a) (rank b) (ap (λ s. s.0) same) in cc,
)

pub error_Decides : IsSameBy plain_error_of parse_errors.ghosts.eq → IsSameBy failure_of errors.ghosts.eq
error_Decides same Memory Memory = ((λ _. refl), (λ _. refl))
error_Decides same Read Read = ((λ _. refl), (λ _. refl))
error_Decides same NotUtf8 NotUtf8 = ((λ _. refl), (λ _. refl))
error_Decides same (Parse a) (Parse b) =
    Decides-like _ (λ e. ap (λ p. (4, Some p)) e)
    (λ e. let second : Some (plain_error_of a) ≡ Some (plain_error_of b) = ap (λ s. s.1) e in cc) (same a b)
error_Decides same Write Write = ((λ _. refl), (λ _. refl))
error_Decides same Json Json = ((λ _. refl), (λ _. refl))
error_Decides same a b = error_apart_Decides a b refl
