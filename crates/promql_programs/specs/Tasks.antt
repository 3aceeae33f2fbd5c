-- What is made of the query of an input (docs/reference/programs.md, "A run").
use Rattle.std.specs.Prelude.{◌≡◌, ℕ, ◌++◌, Bool, false, List, [], ◌∷◌, if◌then◌else◌, MatchOption, Option, Some, Err, codes}
use Rattle.std.specs.Io.KnownBytes.{Appends}
use Rattle.promql_text.specs.Texts.{Text}
use Rattle.promql_ast.specs.Tree.{Tree}
use Rattle.promql_json.specs.declared.error.JsonError.TheVariants.{NumberTooWide}
use Rattle.promql_query.specs.Rejecting.{marked_line}
use Rattle.promql_query.specs.declared.rejection.Reason.TheVariants.{Parse}
use Rattle.promql_run.specs.Running.{HasFormatText, format_text}
use Rattle.promql_run.specs.declared.ended.Ended.{Ended}
use Rattle.promql_run.specs.declared.format.Format.{Format}
use Rattle.promql_span.specs.ErrorPlaces.{IsPlaceOf}
use Rattle.promql_span.specs.Locations.{location_of}
use Rattle.promql_span.specs.declared.span.Span.{Span}
use Rattle.promql_span.specs.declared.target.Target.{Target}
use Rattle.promql_target.specs.Refusals.{first_refusal}
use Rattle.promql_syntax.specs.ParseAnswers.{IsAnswerTo, plain_error_of}
use Rattle.promql_syntax.specs.declared.parser.ParseError.{ParseError}
use Rattle.promql_query.specs.declared.query_error.QueryError.{QueryError}
use Rattle.promql_query.specs.declared.query_error.QueryError.TheVariants as error
use Rattle.promql_programs.specs.Sources.{IsTextIn}
use Rattle.promql_programs.specs.declared.reports.TheConstants.{WARNING}

-- an answer to the text of an input
abbrev pub IsInputAnswer : (is_file : Bool) → (Text → Text → Type 0) → Text → Text → Type 0
IsInputAnswer is_file IsAnswer input answer = (text : Text) × IsTextIn is_file input text × IsAnswer text answer

-- why it has none
abbrev pub FailsInput : (is_file : Bool) → (QueryError → Text → Type 0) → QueryError → Text → Type 0
FailsInput is_file Fails e input = (text : Text) × IsTextIn is_file input text × Fails e text

-- beside an answer nothing is said
abbrev pub IsSilent : {E : Type 0} → Text → Ended E → Ended E → Type 0
IsSilent answer errors errors_after = errors_after ≡ errors

-- what is said of a part of an answer: after the name of a file and a space a message, and below it the line of the answer with a mark
abbrev pub warning_text : (is_file : Bool) → (prefix : Text) → Text → Span → (message : Text) → Text
warning_text is_file prefix answer span message =
    (if is_file then prefix ++ codes " " else []) ++ (WARNING.now ++ (message ++ 10 ∷ (marked_line answer span ++ 10 ∷ [])))

-- a warning of the first part of the answer that this target rejects; nothing where it is not known to reject any
abbrev pub Warns : {E : Type 0} → (E → Option (List ℕ)) → (is_file : Bool) → (prefix : Text) → Target → Text → Ended E → Ended E → Type 0
Warns said is_file prefix target answer errors errors_after =
    MatchOption (first_refusal target answer) (errors_after ≡ errors) (λ r. (message : Text)
    × (errors_after.failed ≡ false → Appends (said errors.inner) (said errors_after.inner) (warning_text is_file prefix answer r.span message)))

-- why a query has no text in a format: the parser rejects it at this place, or a number of its tree is too wide; or an allocation failed
abbrev pub FailsToPrint : Format → QueryError → Text → Type 0
FailsToPrint format (error.Rejected r) text =
    (p : ParseError) × (r.rejection.reason ≡ Parse p) × IsAnswerTo text (Err (plain_error_of p)) × IsPlaceOf text p (Some r.rejection.span)
    × (r.rejection.location ≡ location_of text r.rejection.span.start)
FailsToPrint format (error.NoForm e) text = (e ≡ NumberTooWide) × HasFormatText format text (Err NumberTooWide)
FailsToPrint format e text = e ≡ error.Memory

-- why a tree has none
abbrev pub HasNoLine : Format → Tree → QueryError → Type 0
HasNoLine format t (error.NoForm e) = (e ≡ NumberTooWide) × (format_text format t ≡ Err NumberTooWide)
HasNoLine format t e = e ≡ error.Memory
