-- A job that is done is the one that was asked for.
use Rattle.std.proofs.Common.{◌≡◌, ℕ, Bool, List, subst, sym}
use Rattle.std.specs.Prelude.{Option, Err}
use Rattle.promql_text.specs.Texts.{Text}
use Rattle.promql_query.specs.EnforcedLines.{IsEnforcedLine}
use Rattle.promql_query.specs.QueryErrors.{query_error_number}
use Rattle.promql_run.specs.Programs.{AnswersQuery}
use Rattle.promql_run.specs.declared.ended.Ended.{Ended}
use Rattle.promql_span.specs.declared.limits.Limits.{Limits}
use Rattle.promql_programs.specs.EnforcedAnswers.{IsEnforcedAnswer}
use Rattle.promql_programs.specs.Jobs.{DoesJob, IsQuiet, first_of}
use Rattle.promql_programs.specs.Tasks.{FailsInput, IsInputAnswer, Warns}
use Rattle.promql_programs.specs.declared.job.Job.{Job}
use Rattle.promql_programs.specs.declared.job.Job.TheVariants as job

module _ {R W E : Type 0} (remaining : R → Option (List ℕ)) (contents : W → Option (List ℕ)) (said : E → Option (List ℕ)) (operands : List Text) (is_file : Bool) (prefix : Text)
    (reader reader_after : Ended R) (writer writer_after : Ended W) (errors errors_after : Ended E) (status : ℕ) where
  pub asked : (wanted done : Job) → wanted ≡ done → DoesJob remaining contents said done operands is_file prefix reader reader_after writer writer_after errors errors_after status
      → DoesJob remaining contents said wanted operands is_file prefix reader reader_after writer writer_after errors errors_after status
  asked wanted done is does =
      subst (λ j. DoesJob remaining contents said j operands is_file prefix reader reader_after writer writer_after errors errors_after status) (sym is) does

  -- the matcher is the first operand
  pub enforced : (wanted : Job) (limits : Limits) (matcher : Text) → wanted ≡ job.Enforce limits → matcher ≡ first_of operands
      → AnswersQuery remaining contents (IsInputAnswer is_file (IsEnforcedAnswer limits matcher)) query_error_number
      (FailsInput is_file (λ e query. IsEnforcedLine limits query matcher (Err e))) (Warns said is_file prefix limits.target) reader reader_after writer writer_after errors errors_after status
      → IsQuiet writer_after errors errors_after status
      → DoesJob remaining contents said wanted operands is_file prefix reader reader_after writer writer_after errors errors_after status
  enforced wanted limits matcher is first answers quiet =
      asked wanted (job.Enforce limits) is (
        subst
            (λ matcher. AnswersQuery remaining contents (IsInputAnswer is_file (IsEnforcedAnswer limits matcher)) query_error_number
            (FailsInput is_file (λ e query. IsEnforcedLine limits query matcher (Err e))) (Warns said is_file prefix limits.target) reader reader_after writer writer_after errors errors_after status)
            first answers,
        quiet,
      )
