-- What the program does with its arguments (docs/reference/programs.md, "Arguments").
use Rattle.std.specs.Prelude.{◌≡◌, ◌⊎◌, ℕ, ◌++◌, Bool, true, false, bytes_eq, codes, drop, List, [], ◌∷◌, Option, Some, None}
use Rattle.std.specs.Io.KnownBytes.{Appends}
use Rattle.std.specs.Map.{lookup}
use Rattle.promql_text.specs.Texts.{Text}
use Rattle.promql_run.specs.Ended.{AppendsBeginning}
use Rattle.promql_run.specs.declared.ended.Ended.{Ended}
use Rattle.promql_programs.specs.Jobs.{DoesJob, before_files, help_of, job_of, subcommand_named, usage_of}
use Rattle.promql_programs.specs.Words.{split}
use Rattle.promql_programs.specs.declared.job.Job.{Job}
use Rattle.promql_programs.specs.declared.job.Subcommand.{Subcommand}
use Rattle.promql_programs.specs.declared.usage.TheConstants.{HELP, USAGE, VERSION}

abbrev pub text_named : (help : Text) → Text → Option Text
text_named help option =
    lookup (bytes_eq option) ((codes "--help", help) ∷ (codes "-h", help) ∷ (codes "--version", VERSION.now) ∷ [])

-- "Help and version": one of these texts, if its option is the only one
abbrev pub asked_text : (help : Text) → List Text → Option Text
asked_text help (option ∷ []) = text_named help option
asked_text help options = None

module _ {R W E : Type 0} (remaining : R → Option (List ℕ)) (contents : W → Option (List ℕ)) (said : E → Option (List ℕ)) (usual : Bool) where
  -- what becomes of the input and of both outputs, and the status
  abbrev pub Outcome : Type 1
  Outcome = Ended R → Ended R → Ended W → Ended W → Ended E → Ended E → ℕ → Type 0

  -- it only writes what is wrong, and this text after it
  abbrev pub IsMisused : Text → Outcome
  IsMisused usage reader reader_after writer writer_after errors errors_after status =
      (status ≡ 64) × (reader_after ≡ reader) × (writer_after ≡ writer)
      × (errors_after.failed ≡ false → (wrong : Text) × Appends (said errors.inner) (said errors_after.inner) (wrong ++ usage))

  -- it only writes this text
  abbrev pub IsShown : Text → Outcome
  IsShown text reader reader_after writer writer_after errors errors_after status =
      ((status ≡ 0) ⊎ (status ≡ 5)) × (reader_after ≡ reader) × (errors_after ≡ errors)
      × (status ≡ 0 → Appends (contents writer.inner) (contents writer_after.inner) text × (writer_after.pending ≡ false))
      × (status ≡ 5 → AppendsBeginning (contents writer.inner) (contents writer_after.inner) text × (writer_after.failed ≡ true))

  -- a text that is asked for, or else something other
  abbrev pub ShowsOr : Option Text → Outcome → Outcome
  ShowsOr (Some text) other = IsShown text
  ShowsOr None other = other

  -- an allocation failed before anything was done, or something other
  abbrev pub GivesUpOr : Outcome → Outcome
  GivesUpOr other reader reader_after writer writer_after errors errors_after status =
      ((status ≡ 1) × (reader_after ≡ reader) × (writer_after ≡ writer)) ⊎ other reader reader_after writer writer_after errors errors_after status

  -- a job, with standard input where no file is named; or its words ask for nothing known
  abbrev pub ObeysJob : Subcommand → List Text → Option Job → Outcome
  ObeysJob subcommand operands None = IsMisused (usage_of subcommand)
  ObeysJob subcommand operands (Some job) = λ reader reader_after writer writer_after errors errors_after status.
      drop (before_files subcommand) operands ≡ [] → DoesJob remaining contents said job operands false [] reader reader_after writer writer_after errors errors_after status

  -- what options and operands of a subcommand ask for
  abbrev pub ObeysWords : Subcommand → List Text → List Text → Outcome
  ObeysWords subcommand options operands =
      ShowsOr (asked_text (help_of subcommand) options) (ObeysJob subcommand operands (job_of usual subcommand options operands))

  -- the words after a subcommand's name
  abbrev pub ObeysSubcommand : Subcommand → List Text → Outcome
  ObeysSubcommand subcommand words = GivesUpOr (ObeysWords subcommand (split false words).0 (split false words).1)

  -- a name that is a subcommand's or none, and the words after it
  abbrev pub ObeysName : Option Subcommand → List Text → Outcome
  ObeysName None words = IsMisused USAGE.now
  ObeysName (Some subcommand) words = ObeysSubcommand subcommand words

  abbrev pub ObeysNamed : List Text → Outcome
  ObeysNamed [] = IsMisused USAGE.now
  ObeysNamed (name ∷ words) = ObeysName (subcommand_named name) words

  -- the words after the program's own name
  abbrev pub ObeysAll : List Text → Outcome
  ObeysAll words = ShowsOr (asked_text HELP.now words) (ObeysNamed words)

  -- what the arguments ask for, the program's own name first
  abbrev pub Obeys : List Text → Outcome
  Obeys [] = IsMisused USAGE.now
  Obeys (own ∷ words) = ObeysAll words
