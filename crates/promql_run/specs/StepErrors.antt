-- The errors of each step of a run. Private: nothing rests on believing it.
use Rattle.promql_run.specs.declared.run.RunError.{RunError}
use Rattle.promql_run.specs.declared.run.RunError.TheVariants as error

abbrev pub IsInputError : RunError → Type 0
IsInputError error.Memory = Unit {0}
IsInputError error.Read = Unit {0}
IsInputError error.NotUtf8 = Unit {0}
IsInputError _ = ⊥

abbrev pub IsShowError : RunError → Type 0
IsShowError error.Memory = Unit {0}
IsShowError error.Json = Unit {0}
IsShowError _ = ⊥

abbrev pub IsAnswerError : RunError → Type 0
IsAnswerError error.Memory = Unit {0}
IsAnswerError (error.Parse e) = Unit {0}
IsAnswerError error.Json = Unit {0}
IsAnswerError _ = ⊥
