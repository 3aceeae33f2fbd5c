-- Why no matcher is made: docs/reference/matchers.md, "Operators of tokens".
use Rattle.std.specs.Prelude.{◌≡◌, ◌⊎◌, ℕ, true, false, Option, Some, None, string_bytes}
use mathlib.Core.Logic.{inl, inr}
use Rattle.promql_label.specs.Answers.{Allows, rejected}
use Rattle.promql_label.specs.declared.matcher.MatcherError.{MatcherError}
use Rattle.promql_label.specs.declared.matcher.MatcherError.TheVariants as errors
use Rattle.promql_label.specs.declared.pattern.PatternFault.{PatternFault}
use Rattle.promql_label.specs.declared.pattern.PatternFault.TheVariants.{Memory, Refused}
use Rattle.promql_label.specs.Operators.{is_operator_id, is_pattern_id}
use Rattle.promql_text.specs.Texts.{Text}

-- the fault of a pattern, as a matcher's
abbrev pub error_of : PatternFault → MatcherError
error_of Memory = errors.Memory
error_of (Refused value) = errors.Pattern value

-- when each error comes for an id and a value, and what it shows
abbrev pub IsFaultOf : ℕ → Text → MatcherError → Type 0
IsFaultOf id value errors.Memory = is_pattern_id id ≡ true
IsFaultOf id value (errors.InvalidOp k) = (is_operator_id id ≡ false) × (k ≡ id)
IsFaultOf id value (errors.Pattern s) = (is_pattern_id id ≡ true) × Allows value rejected × (string_bytes s ≡ value)

-- an error as plain data: the id that is no operator's, or the rejected value, or nothing where memory ran out
abbrev pub plain_error_of : MatcherError → Option (ℕ ⊎ Text)
plain_error_of errors.Memory = None
plain_error_of (errors.InvalidOp id) = Some (inl id)
plain_error_of (errors.Pattern s) = Some (inr (string_bytes s))
