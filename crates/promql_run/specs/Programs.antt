-- What a program does with its input and its outputs (docs/reference/programs.md).
use Rattle.std.specs.Prelude.{◌≡◌, ◌≢◌, ◌⊎◌, ℕ, true, false, List, Option}
use Rattle.std.specs.Io.KnownBytes.{Appends}
use Rattle.promql_text.specs.Texts.{Text}
use Rattle.promql_run.specs.Ended.{AppendsBeginning}
use Rattle.promql_run.specs.Inputs.{AnswersInput, IsInput, IsNotUtf8}
use Rattle.promql_run.specs.declared.ended.Ended.{Ended}

-- a program ends with 2 exactly where a read failed, and with 3 only where the input is no text
pub record Reads {R : Type 0} (remaining : R → Option (List ℕ)) (reader reader_after : Ended R) (status : ℕ) : Type 0 where
  pub failed : status ≡ 2 → reader_after.failed ≡ true
  pub quiet : status ≢ 2 → reader_after.failed ≡ reader.failed
  pub not_utf8 : status ≡ 3 → IsNotUtf8 (remaining reader.inner) (remaining reader_after.inner)

-- it ends with 0 where the answer to the text of its input was written, and what is to be said of the answer was said, and else with the status of
-- why there is none
pub record AnswersQuery {R W E Error : Type 0} (remaining : R → Option (List ℕ)) (contents : W → Option (List ℕ)) (IsAnswer : Text → Text → Type 0) (number : Error → ℕ) (Fails : Error → Text → Type 0)
    (Says : Text → Ended E → Ended E → Type 0)
    (reader reader_after : Ended R) (writer writer_after : Ended W) (errors errors_after : Ended E) (status : ℕ) : Type 0 where
  pub reads : Reads remaining reader reader_after status
  pub ok : status ≡ 0 → AnswersInput (λ input answer. IsAnswer input answer × Says answer errors errors_after) (remaining reader.inner) (remaining reader_after.inner) (Appends (contents writer.inner) (contents writer_after.inner))
  pub flushed : status ≡ 0 → writer_after.pending ≡ false
  pub write : status ≡ 5 → writer_after.failed ≡ true
  pub begun : status ≡ 5 → AnswersInput IsAnswer (remaining reader.inner) (remaining reader_after.inner) (AppendsBeginning (contents writer.inner) (contents writer_after.inner))
  pub unwritten : status ≢ 0 → status ≢ 5 → writer_after ≡ writer
  pub none : (status ≡ 0) ⊎ (status ≡ 1) ⊎ (status ≡ 2) ⊎ (status ≡ 3) ⊎ (status ≡ 5)
      ⊎ ((e : Error) × (number e ≡ status) × IsInput (Fails e) (remaining reader.inner) (remaining reader_after.inner))
