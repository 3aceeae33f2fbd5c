-- What a call returns, and what it leaves in its caller's buffer (docs/guide/bindings.md, "Results").
use Rattle.std.specs.Prelude.{◌≡◌, ℕ, ◌<◌, ◌≤◌, nat_le, if◌then◌else◌, List, ◌++◌, drop, length, Option, Some, None, option_map, Result, Ok, Err}
use Rattle.promql_text.specs.Texts.{Text}
use Rattle.promql_query.specs.QueryErrors.{query_error_number, rejected_in}
use Rattle.promql_query.specs.declared.query_error.QueryError.{QueryError}
use Rattle.promql_query.specs.declared.rejection.Rejection.{Rejection}
use Rattle.promql_c.specs.declared.call_result.CallResult.{CallResult}

-- the text is at the start of the buffer, and the rest of it is as it was; where the text does not fit, all of it is
pub record IsStored (text : Text) (old new : List ℕ) : Type 0 where
  pub fits : length text ≤ length old → new ≡ text ++ drop (length text) old
  pub is_long : length old < length text → new ≡ old

-- the result of this status and length, with the place of a query that is rejected
abbrev pub placed_result : ℕ → ℕ → Option Rejection → CallResult
placed_result status count None = record { status = status; length = count; start = 0; end = 0; line = 0; column = 0 }
placed_result status count (Some r) =
    record { status = status; length = count; start = r.span.start; end = r.span.end; line = r.location.line; column = r.location.column }

-- what a call returns and leaves in the buffer where it made this of the query: a text, or an error, which has some message;
-- "Statuses": that of a text tells whether it fits
abbrev pub Shows : Result Text QueryError → CallResult → List ℕ → List ℕ → Type 0
Shows (Ok text) r old new = (r ≡ placed_result (if nat_le (length text) (length old) then 0 else 8) (length text) None) × IsStored text old new
Shows (Err e) r old new =
    (message : Text) × (r ≡ placed_result (query_error_number e) (length message) (option_map (λ r. r.rejection) (rejected_in e))) × IsStored message old new

-- the same, where it made something that is so
abbrev pub ShowsSome : (Result Text QueryError → Type 0) → CallResult → List ℕ → List ℕ → Type 0
ShowsSome IsMade r old new = (made : Result Text QueryError) × IsMade made × Shows made r old new
