-- What is said of an answer is what its target rejects of it.
use Rattle.std.proofs.Common.{◌≡◌, ℕ, Bool, false, List, refl, ap, subst, sym, ◌∙◌}
use Rattle.std.specs.Prelude.{MatchOption, Option, Some, None}
use Rattle.std.specs.Io.KnownBytes.{Appends}
use Rattle.promql_text.specs.Texts.{Text}
use Rattle.promql_run.specs.Programs.{AnswersQuery}
use Rattle.promql_run.specs.declared.ended.Ended.{Ended}
use Rattle.promql_span.specs.declared.target.Target.{Target}
use Rattle.promql_span.specs.declared.target.Target.TheVariants.{Rules}
use Rattle.promql_target.proofs.NoRefusals.{no_refusal}
use Rattle.promql_target.specs.Refusals.{first_refusal}
use Rattle.promql_target.specs.declared.refusal.Refusal.{Refusal}
use Rattle.promql_programs.specs.Tasks.{IsSilent, Warns, warning_text}
use Rattle.promql_programs.specs.Warnings.{IsSaid, IsWarning}

-- for these rules there is none
pub no_warning : (is_file : Bool) (prefix : Text) (target : Target) (answer : Text) → target ≡ Rules → IsWarning is_file prefix target answer None
no_warning is_file prefix target answer is =
    subst
    (λ o. MatchOption o (◌≡◌ {A = Option Text} None None) (λ r. (message : Text) × (◌≡◌ {A = Option Text} None (Some (warning_text is_file prefix answer r.span message)))))
    (sym (ap (λ t. first_refusal t answer) is ∙ no_refusal answer)) refl

module _ {E : Type 0} (said : E → Option (List ℕ)) (is_file : Bool) (prefix : Text) where
  -- the warning that is said is that of the answer
  pub warned : (target : Target) (answer : Text) (warning : Option Text) (errors errors_after : Ended E)
      → IsWarning is_file prefix target answer warning → IsSaid said warning errors errors_after → Warns said is_file prefix target answer errors errors_after
  warned target answer warning errors errors_after is told = cases (first_refusal target answer) is
    where
      cases : (o : Option Refusal) → MatchOption o (warning ≡ None) (λ r. (message : Text) × (warning ≡ Some (warning_text is_file prefix answer r.span message)))
          → MatchOption o (errors_after ≡ errors) (λ r. (message : Text)
          × (errors_after.failed ≡ false → Appends (said errors.inner) (said errors_after.inner) (warning_text is_file prefix answer r.span message)))
      cases None none = subst (λ w. IsSaid said w errors errors_after) none told
      cases (Some r) (message, some) = (message, subst (λ w. IsSaid said w errors errors_after) some told)

  -- for these rules nothing is said
  pub nothing_said : (answer : Text) (errors errors_after : Ended E) → Warns said is_file prefix Rules answer errors errors_after → errors_after ≡ errors
  nothing_said answer errors errors_after warns =
      subst
      (λ o. MatchOption o (errors_after ≡ errors) (λ r. (message : Text)
      × (errors_after.failed ≡ false → Appends (said errors.inner) (said errors_after.inner) (warning_text is_file prefix answer r.span message))))
      (no_refusal answer) warns

  pub silent : {R W Error : Type 0} (remaining : R → Option (List ℕ)) (contents : W → Option (List ℕ)) (IsAnswer : Text → Text → Type 0) (number : Error → ℕ) (Fails : Error → Text → Type 0)
      (reader reader_after : Ended R) (writer writer_after : Ended W) (errors between errors_after : Ended E) (status : ℕ)
      → AnswersQuery remaining contents IsAnswer number Fails (Warns said is_file prefix Rules) reader reader_after writer writer_after errors between status
      → (status ≡ 0 → errors_after ≡ between)
      → AnswersQuery remaining contents IsAnswer number Fails IsSilent reader reader_after writer writer_after errors errors_after status
  silent remaining contents IsAnswer number Fails reader reader_after writer writer_after errors between errors_after status a same = record {
    reads = a.reads;
    ok = λ zero.
        let input = a.ok zero in
        let answer = input.3 in
        (input.0, input.1, input.2, (answer.0, (answer.1.0, same zero ∙ nothing_said answer.0 errors between answer.1.1), answer.2));
    flushed = a.flushed;
    write = a.write;
    begun = a.begun;
    unwritten = a.unwritten;
    none = a.none;
  }
