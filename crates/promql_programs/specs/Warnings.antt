-- A warning before it is written. Private: nothing rests on believing it.
use Rattle.std.specs.Prelude.{◌≡◌, ℕ, Bool, false, List, MatchOption, Option, Some, None}
use Rattle.std.specs.Io.KnownBytes.{Appends}
use Rattle.promql_text.specs.Texts.{Text}
use Rattle.promql_run.specs.declared.ended.Ended.{Ended}
use Rattle.promql_span.specs.declared.target.Target.{Target}
use Rattle.promql_target.specs.Refusals.{first_refusal}
use Rattle.promql_programs.specs.Tasks.{warning_text}

-- the warning of an answer for this target
abbrev pub IsWarning : (is_file : Bool) → (prefix : Text) → Target → Text → Option Text → Type 0
IsWarning is_file prefix target answer warning =
    MatchOption (first_refusal target answer) (warning ≡ None) (λ r. (message : Text) × (warning ≡ Some (warning_text is_file prefix answer r.span message)))

-- it is said, where there is one
abbrev pub IsSaid : {E : Type 0} → (E → Option (List ℕ)) → Option Text → Ended E → Ended E → Type 0
IsSaid said None errors errors_after = errors_after ≡ errors
IsSaid said (Some warning) errors errors_after = errors_after.failed ≡ false → Appends (said errors.inner) (said errors_after.inner) warning
