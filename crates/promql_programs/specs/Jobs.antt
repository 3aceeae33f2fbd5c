-- The subcommands of the program, and what they do with one input (docs/reference/programs.md, "Subcommands").
use Rattle.std.specs.Prelude.{◌≡◌, ℕ, Bool, true, bytes_eq, codes, List, [], ◌∷◌, Option, Some, None, Ok, Err, option_and_then, option_map}
use Rattle.std.specs.Option.{option_or}
use Rattle.std.specs.Map.{lookup}
use Rattle.promql_text.specs.Texts.{Text}
use Rattle.promql_query.specs.EnforcedLines.{IsEnforcedLine}
use Rattle.promql_query.specs.QueryErrors.{query_error_number}
use Rattle.promql_run.specs.Programs.{AnswersQuery}
use Rattle.promql_run.specs.Running.{IsPrinted, format_named}
use Rattle.promql_run.specs.declared.ended.Ended.{Ended}
use Rattle.promql_run.specs.declared.format.Format.{Format}
use Rattle.promql_programs.specs.Batches.{AnswersBatch}
use Rattle.promql_programs.specs.CheckSettings.{check_settings_of}
use Rattle.promql_programs.specs.Checking.{ChecksQuery}
use Rattle.promql_programs.specs.EnforcedAnswers.{IsEnforcedAnswer}
use Rattle.promql_programs.specs.FormatSettings.{format_settings_of}
use Rattle.promql_programs.specs.Layouts.{IsFormatAnswer}
use Rattle.promql_programs.specs.LimitOptions.{default_limits, limits_with}
use Rattle.promql_programs.specs.Tasks.{FailsInput, FailsToPrint, IsInputAnswer, IsSilent, Warns}
use Rattle.promql_programs.specs.declared.job.Job.{Job}
use Rattle.promql_programs.specs.declared.job.Job.TheVariants as job
use Rattle.promql_programs.specs.declared.job.Subcommand.{Subcommand}
use Rattle.promql_programs.specs.declared.job.Subcommand.TheVariants.{Print, Check, Format as Layout, Enforce, Batch}
use Rattle.promql_programs.specs.declared.usage.TheConstants.{BATCH_HELP, BATCH_USAGE, CHECK_HELP, CHECK_USAGE, ENFORCE_HELP, ENFORCE_USAGE, FORMAT_HELP, FORMAT_USAGE, PRINT_HELP, PRINT_USAGE}

abbrev pub subcommand_named : Text → Option Subcommand
subcommand_named name =
    option_or (option_map Print (format_named name))
    (lookup (bytes_eq name) ((codes "check", Check) ∷ (codes "format", Layout) ∷ (codes "enforce", Enforce) ∷ (codes "batch", Batch) ∷ []))

abbrev pub usage_of : Subcommand → Text
usage_of (Print format) = PRINT_USAGE.now
usage_of Check = CHECK_USAGE.now
usage_of Layout = FORMAT_USAGE.now
usage_of Enforce = ENFORCE_USAGE.now
usage_of Batch = BATCH_USAGE.now

abbrev pub help_of : Subcommand → Text
help_of (Print format) = PRINT_HELP.now
help_of Check = CHECK_HELP.now
help_of Layout = FORMAT_HELP.now
help_of Enforce = ENFORCE_HELP.now
help_of Batch = BATCH_HELP.now

-- how many operands are before the files: a matcher, or a mode
abbrev pub before_files : Subcommand → ℕ
before_files Enforce = 1
before_files Batch = 1
before_files _ = 0

abbrev pub print_job : Format → List Text → Option Job
print_job format [] = Some (job.Print format)
print_job format options = None

abbrev pub enforce_job : List Text → List Text → Option Job
enforce_job options [] = None
enforce_job options (matcher ∷ files) = option_map job.Enforce (limits_with default_limits options)

abbrev pub batch_job : List Text → List Text → Option Job
batch_job options [] = None
batch_job options (mode ∷ files) =
    option_and_then (λ format. option_map (λ limits. job.Batch (record { format = format; limits = limits })) (limits_with default_limits options)) (format_named mode)

-- what options and operands ask for, where `usual` says whether messages have colours
abbrev pub job_of : Bool → Subcommand → List Text → List Text → Option Job
job_of usual (Print format) options operands = print_job format options
job_of usual Check options operands = option_map job.Check (check_settings_of usual options)
job_of usual Layout options operands = option_map job.Format (format_settings_of options)
job_of usual Enforce options operands = enforce_job options operands
job_of usual Batch options operands = batch_job options operands

abbrev pub first_of : List Text → Text
first_of [] = []
first_of (first ∷ words) = first

-- where nobody reads what is written, nothing is said
abbrev pub IsQuiet : {W E : Type 0} → Ended W → Ended E → Ended E → ℕ → Type 0
IsQuiet writer_after errors errors_after status = status ≡ 5 → writer_after.closed ≡ true → errors_after ≡ errors

-- its query is printed in the format
abbrev pub PrintsQuery : {R W E : Type 0} → (R → Option (List ℕ)) → (W → Option (List ℕ)) → Format → (is_file : Bool)
    → Ended R → Ended R → Ended W → Ended W → Ended E → Ended E → ℕ → Type 0
PrintsQuery remaining contents format is_file =
    AnswersQuery remaining contents (IsInputAnswer is_file (IsPrinted format)) query_error_number (FailsInput is_file (FailsToPrint format)) IsSilent

-- what is done with one input
abbrev pub DoesJob : {R W E : Type 0} → (R → Option (List ℕ)) → (W → Option (List ℕ)) → (E → Option (List ℕ)) → Job → List Text → (is_file : Bool) → (prefix : Text)
    → Ended R → Ended R → Ended W → Ended W → Ended E → Ended E → ℕ → Type 0
DoesJob remaining contents said (job.Print format) operands is_file prefix = PrintsQuery remaining contents format is_file
DoesJob remaining contents said (job.Format s) operands is_file prefix = λ reader reader_after writer writer_after errors errors_after status.
    AnswersQuery remaining contents (IsInputAnswer is_file (λ query answer. IsFormatAnswer s query (Ok answer))) query_error_number
    (FailsInput is_file (λ e query. IsFormatAnswer s query (Err e))) (Warns said is_file prefix s.limits.target) reader reader_after writer writer_after errors errors_after status
    × IsQuiet writer_after errors errors_after status
DoesJob remaining contents said (job.Enforce limits) operands is_file prefix = λ reader reader_after writer writer_after errors errors_after status.
    AnswersQuery remaining contents (IsInputAnswer is_file (IsEnforcedAnswer limits (first_of operands))) query_error_number
    (FailsInput is_file (λ e query. IsEnforcedLine limits query (first_of operands) (Err e))) (Warns said is_file prefix limits.target) reader reader_after writer writer_after errors errors_after status
    × IsQuiet writer_after errors errors_after status
DoesJob remaining contents said (job.Check s) operands is_file prefix = λ reader reader_after writer writer_after errors errors_after status.
    ChecksQuery remaining said s is_file prefix reader reader_after errors errors_after status × (writer_after ≡ writer)
DoesJob remaining contents said (job.Batch s) operands is_file prefix = AnswersBatch remaining contents s
