-- What is written of many queries (docs/reference/programs.md, "Statuses of a batch").
use Rattle.std.specs.Prelude.{◌≡◌, ◌⊎◌, ℕ, true, false, List, Option}
use Rattle.promql_query.specs.Batch.{AnswersBefore, AnswersLines, IsCutShort}
use Rattle.promql_query.specs.declared.settings.Settings.{Settings}
use Rattle.promql_run.specs.Programs.{Reads}
use Rattle.promql_run.specs.declared.ended.Ended.{Ended}
use Rattle.promql_programs.specs.declared.batch_job.TheConstants.{ERRORS_STATUS}

-- each line is answered, and the status tells whether each with an `ok`; or an error ends it, after the answers to the lines before
pub record AnswersBatch {R W E : Type 0} (remaining : R → Option (List ℕ)) (contents : W → Option (List ℕ)) (s : Settings)
    (reader reader_after : Ended R) (writer writer_after : Ended W) (errors errors_after : Ended E) (status : ℕ) : Type 0 where
  pub reads : Reads remaining reader reader_after status
  pub ok : status ≡ 0 → AnswersLines s (remaining reader.inner) (remaining reader_after.inner) (contents writer.inner) (contents writer_after.inner) true
  pub some_fail : status ≡ ERRORS_STATUS → AnswersLines s (remaining reader.inner) (remaining reader_after.inner) (contents writer.inner) (contents writer_after.inner) false
  pub flushed : (status ≡ 0) ⊎ (status ≡ ERRORS_STATUS) → writer_after.pending ≡ false
  pub silent : (status ≡ 0) ⊎ (status ≡ ERRORS_STATUS) → errors_after ≡ errors
  pub known : (status ≡ 0) ⊎ (status ≡ 1) ⊎ (status ≡ 2) ⊎ (status ≡ ERRORS_STATUS) ⊎ (status ≡ 5)
  pub before : (status ≡ 1) ⊎ (status ≡ 2) → AnswersBefore s (remaining reader.inner) (remaining reader_after.inner) (contents writer.inner) (contents writer_after.inner)
  pub closed : writer_after.closed ≡ true → errors_after ≡ errors
  pub write : status ≡ 5 → writer_after.failed ≡ true
  pub begun : status ≡ 5 → IsCutShort s (remaining reader.inner) (remaining reader_after.inner) (contents writer.inner) (contents writer_after.inner)
