-- What can go wrong with a query (docs/reference/programs.md, "Numbers of errors").
use Rattle.std.specs.Prelude.{◌≡◌, ◌≢◌, ◌⊎◌, ◌≤◌, ℕ, length, Option, Some, None, Result, Ok, Err}
use Rattle.serde_json.specs.Data.{Data}
use Rattle.serde_json.specs.Written.{compact_text}
use Rattle.promql_text.specs.Texts.{Text}
use Rattle.promql_ast.specs.Tree.{Tree}
use Rattle.promql_json.specs.declared.error.JsonError.{JsonError}
use Rattle.promql_places.specs.PlacedForms.{IsPlacedForm}
use Rattle.promql_query.specs.Rejecting.{IsRead, IsRejection, reason_number}
use Rattle.promql_run.specs.Running.{format_text}
use Rattle.promql_run.specs.declared.format.Format.{Format}
use Rattle.promql_run.specs.declared.format.Format.TheVariants.{Json}
use Rattle.promql_span.specs.QueryLimits.{IsLimitFault, IsLongOutput}
use Rattle.promql_span.specs.declared.limits.LimitFault.{LimitFault}
use Rattle.promql_span.specs.declared.limits.LimitFault.TheVariants as limit
use Rattle.promql_span.specs.declared.limits.Limits.{Limits}
use Rattle.promql_span.specs.declared.limits.LongOutput.{LongOutput}
use Rattle.promql_query.specs.declared.mode.Mode.{Mode}
use Rattle.promql_query.specs.declared.mode.Mode.TheVariants as mode
use Rattle.promql_query.specs.declared.query_error.QueryError.{QueryError}
use Rattle.promql_query.specs.declared.query_error.QueryError.TheVariants as error
use Rattle.promql_query.specs.declared.rejected_query.RejectedQuery.{RejectedQuery}

abbrev pub query_error_number : QueryError → ℕ
query_error_number error.Memory = 1
query_error_number error.NotUtf8 = 3
query_error_number (error.Rejected r) = reason_number r.rejection.reason
query_error_number (error.NoForm e) = 6
query_error_number (error.NotARequest fault) = 7
query_error_number (error.UnknownMember name) = 7
query_error_number error.UnknownMode = 9
query_error_number (error.WideLayout wide) = 9
query_error_number (error.Matcher e) = 11
query_error_number (error.Unfaithful e) = 12
query_error_number (error.NotPrintable reason) = 12
query_error_number error.NotFormatted = 12
query_error_number error.Info = 13
query_error_number (error.LargeForm fault) = 14
query_error_number (error.LargeTree fault) = 14
query_error_number (error.Large measured fault) = 16
query_error_number (error.NotATree e) = 17
query_error_number (error.LongOutput fault) = 18
query_error_number error.NotItsLayout = 19
query_error_number error.NotAName = 20
query_error_number error.MetricName = 21
query_error_number error.Clash = 22
query_error_number (error.MatcherOtherwise at) = 23
query_error_number (error.TimeOverflow node) = 25
query_error_number error.GridFunction = 26
query_error_number (error.NotLabels fault) = 27

-- the query that is rejected, where that is the error
abbrev pub rejected_in : QueryError → Option RejectedQuery
rejected_in (error.Rejected r) = Some r
rejected_in e = None

-- ---- what is made: a text or a tree, or an error; an allocation may fail anywhere

-- a thing that is so, or an error that is so
abbrev pub Gives : {A : Type 0} → (A → Type 0) → (QueryError → Type 0) → Result A QueryError → Type 0
Gives Is Fails (Ok x) = Is x
Gives Is Fails (Err e) = Fails e ⊎ (e ≡ error.Memory)

-- one step, and another with what it made; an error of the first is one of both
abbrev pub Then : {A B : Type 0} → (Result A QueryError → Type 0) → (A → Result B QueryError → Type 0) → Result B QueryError → Type 0
Then {A} First Next (Ok y) = (x : A) × First (Ok x) × Next x (Ok y)
Then {A} First Next (Err e) = First (Err e) ⊎ ((x : A) × First (Ok x) × Next x (Err e))

-- the tree of a query, or why it is rejected, and this of that
abbrev pub ReadsQuery : (RejectedQuery → Type 0) → Limits → Text → Result Tree QueryError → Type 0
ReadsQuery IsSo limits query =
    Gives (IsRead limits query) (λ e. (r : RejectedQuery) × (e ≡ error.Rejected r) × IsRejection limits query r.rejection × IsSo r)

-- what is made of the tree of a query; where that is rejected, it is not told what was expected
abbrev pub OfTree : Limits → Text → (Tree → Result Text QueryError → Type 0) → Result Text QueryError → Type 0
OfTree limits query = Then (ReadsQuery (λ r. r.expectation ≡ None) limits query)

-- the text is not within the limits, and this is why
abbrev pub IsOver : Limits → Text → LimitFault → Type 0
IsOver limits s fault = IsLimitFault s limits fault × (fault ≢ limit.Memory)

-- the text, if it is within the limits of an output
abbrev pub IsOutput : Limits → Text → Result Text QueryError → Type 0
IsOutput limits text made =
    ((length text ≤ limits.max_output) × (made ≡ Ok text))
    ⊎ ((fault : LongOutput) × IsLongOutput text limits fault × (made ≡ Err (error.LongOutput fault)))

-- why a tree has no text in a format
abbrev pub HasNoText : Format → Tree → QueryError → Type 0
HasNoText format t e = (f : JsonError) × (format_text format t ≡ Err f) × (e ≡ error.NoForm f)

-- what is printed of this query's tree in a mode: its text in a format, or that of its form with places
abbrev pub Prints : Limits → Text → Mode → Tree → Result Text QueryError → Type 0
Prints limits query (mode.Plain format) t = Then (Gives (λ text. format_text format t ≡ Ok text) (HasNoText format t)) (IsOutput limits)
Prints limits query mode.Placed t =
    Then (Gives (λ text. (d : Data) × IsPlacedForm query t d × (text ≡ compact_text d)) (HasNoText Json t)) (IsOutput limits)
