-- What a batch answers to its lines (docs/reference/programs.md).
use Rattle.std.specs.Prelude.{◌≡◌, ◌≢◌, ◌≤◌, ◌⊎◌, ℕ, ◌++◌, List, [], ◌∷◌, length, All, Bool, true, false, IfSome, MatchOption, Option, Some, None, Result, Ok, Err, codes, map, string_bytes}
use Rattle.std.specs.List.{AllByRecursion, list_all}
use Rattle.std.specs.Str.{IsUtf8}
use Rattle.std.specs.Io.{StopsAt}
use Rattle.std.specs.Io.KnownBytes.{Appends, Consumes}
use Rattle.serde_json.specs.Data.{Data, Members, string, number, unsigned, object, no_members, member}
use Rattle.json.specs.Lex.{tokens}
use Rattle.json.specs.Print.{print}
use Rattle.serde_json.specs.Read.{read}
use Rattle.serde_json.specs.Written.{compact_text}
use Rattle.promql_text.specs.Texts.{Text}
use Rattle.promql_ast.specs.Text.{text as line_text}
use Rattle.promql_ast.specs.Tree.{Tree}
use Rattle.promql_run.specs.Ended.{AppendsBeginning}
use Rattle.promql_json.specs.JsonParts.{list}
use Rattle.promql_span.specs.QueryLimits.{IsLongOutput}
use Rattle.promql_query.specs.declared.rejection.Reason.TheVariants.{Refused}
use Rattle.promql_span.specs.Locations.{location_of}
use Rattle.promql_span.specs.Targets.{for_rules}
use Rattle.promql_span.specs.declared.target.Target.{Target}
use Rattle.promql_span.specs.declared.limits.Limits.{Limits}
use Rattle.promql_span.specs.declared.limits.LongOutput.{LongOutput}
use Rattle.promql_target.specs.Refusals.{first_refusal}
use Rattle.promql_target.specs.declared.refusal.Refusal.{Refusal}
use Rattle.promql_query.specs.EnforcedLines.{Enforces}
use Rattle.promql_query.specs.QueryErrors.{Prints, ReadsQuery, Then, query_error_number, rejected_in}
use Rattle.promql_query.specs.declared.mode.Mode.{Mode}
use Rattle.promql_query.specs.declared.mode.Mode.TheVariants as mode
use Rattle.promql_query.specs.declared.mode.Wanted.{Wanted}
use Rattle.promql_query.specs.declared.mode.Wanted.TheVariants as wanted
use Rattle.promql_query.specs.declared.query_error.QueryError.{QueryError}
use Rattle.promql_query.specs.declared.query_error.QueryError.TheVariants as error
use Rattle.promql_run.specs.declared.format.Format.{Format}
use Rattle.promql_run.specs.declared.format.Format.TheVariants.{Json, Line, Pretty}
use Rattle.promql_query.specs.declared.rejected_query.Expectation.{Expectation}
use Rattle.promql_query.specs.declared.rejected_query.RejectedQuery.{RejectedQuery}
use Rattle.promql_query.specs.declared.settings.Settings.{Settings}
use Rattle.promql_query.specs.Requests.{id_in, request_fault, requested, unknown_member}
use Rattle.promql_query.specs.Telling.{IsToldWith}
use Rattle.promql_query.specs.TimesText.{TellsTimes}

-- ---- one line

-- "Answers": that of a form as it is, and others as strings
abbrev pub value_text : Mode → Text → Text
value_text (mode.Plain Json) output = output
value_text mode.Placed output = output
value_text m output = compact_text (string output)

-- that of times is JSON, too
abbrev pub wanted_text : Wanted → Text → Text
wanted_text (wanted.Print m) output = value_text m output
wanted_text (wanted.Times ts) output = output

-- the query that a line asks for, the matcher to enforce if there is one, and what is wanted; or why it asks for none
abbrev pub Asks : Format → Text → Result (Text × Option Text × Wanted) QueryError → Type 0
Asks format line (Ok asked) = IsUtf8 line × (requested format line ≡ Some asked)
Asks format line (Err error.NotUtf8) = ¬ IsUtf8 line
Asks format line (Err (error.NotARequest fault)) =
    IsUtf8 line × (requested format line ≡ None) × (unknown_member line ≡ None) × (fault ≡ request_fault format line)
Asks format line (Err (error.UnknownMember name)) = IsUtf8 line × (unknown_member line ≡ Some (string_bytes name))
Asks format line (Err e) = e ≡ error.Memory

-- a tree whose line is not longer than an output may be
abbrev pub HasShortLine : Limits → Tree → Result Tree QueryError → Type 0
HasShortLine limits u made =
    ((length (line_text u) ≤ limits.max_output) × (made ≡ Ok u))
    ⊎ ((fault : LongOutput) × IsLongOutput (line_text u) limits fault × (made ≡ Err (error.LongOutput fault)))

-- the tree with the matcher in its selectors; in any mode its line is no longer than an output may be
abbrev pub EnforcesShort : Limits → Text → Tree → Result Tree QueryError → Type 0
EnforcesShort limits matcher t = Then (Enforces limits matcher t) (HasShortLine limits)

-- "Requests": what is printed of the query's tree, with the matcher in its selectors; no matcher is asked for beside places. An enforced tree
-- is not that of the query, so it has no places
abbrev pub PrintsAsked : Limits → Text → Wanted → Option Text → Tree → Result Text QueryError → Type 0
PrintsAsked limits query (wanted.Print (mode.Plain format)) (Some matcher) t = Then (EnforcesShort limits matcher t) (Prints limits query (mode.Plain format))
PrintsAsked limits query (wanted.Print m) matcher t = Prints limits query m t
PrintsAsked limits query (wanted.Times ts) (Some matcher) t = Then (EnforcesShort limits matcher t) (TellsTimes None limits ts)
PrintsAsked limits query (wanted.Times ts) None t = TellsTimes (Some query) limits ts t

-- a target counts only where a matcher is enforced
abbrev pub limits_of : Option Text → Limits → Limits
limits_of None limits = for_rules limits
limits_of (Some matcher) limits = limits

-- the same of a query, a matcher and what is wanted; where the query is rejected, it is told what was expected
abbrev pub PrintsQuery : Limits → Text × Option Text × Wanted → Result Text QueryError → Type 0
PrintsQuery limits asked = Then (ReadsQuery (IsToldWith asked.0) (limits_of asked.1 limits) asked.0) (PrintsAsked limits asked.0 asked.2 asked.1)

abbrev pub texts : List Text → Data
texts ts = list (map string ts)

-- of a syntax error, what was expected and what was found
abbrev pub with_expectation : Option Expectation → Members → Members
with_expectation None ms = ms
with_expectation (Some e) ms = member (codes "expected") (texts (map (λ name. name.now) e.expected.items)) (member (codes "found") (string (string_bytes e.found)) ms)

-- "Errors": the error's number, a message and, of a query that is rejected, the place
abbrev pub error_value : ℕ → Text → Option RejectedQuery → Data
error_value code message None = object (member (codes "code") (number (unsigned code)) (member (codes "error") (string message) no_members))
error_value code message (Some r) =
    object (member (codes "code") (number (unsigned code))
    (member (codes "column") (number (unsigned r.rejection.location.column))
    (member (codes "end") (number (unsigned r.rejection.span.end))
    (member (codes "error") (string message)
    (with_expectation r.expectation
    (member (codes "line") (number (unsigned r.rejection.location.line))
    (member (codes "start") (number (unsigned r.rejection.span.start)) no_members)))))))

abbrev pub IsErrorText : QueryError → Text → Type 0
IsErrorText e printed = (message : Text) × (printed ≡ compact_text (error_value (query_error_number e) message (rejected_in e)))

-- the printed query as one that its target rejects at this part
abbrev pub refused_query : Target → Text → Refusal → RejectedQuery
refused_query target printed f =
    record { rejection = record { reason = Refused target f.kind; span = f.span; location = location_of printed f.span.start }; expectation = None }

-- the error of the first part that the target of a printed query rejects, if it is known to reject one
abbrev pub IsWarning : Target → Text → Text → Type 0
IsWarning target printed warning =
    MatchOption (first_refusal target printed) (warning ≡ [])
    (λ f. (message : Text) × (warning ≡ codes ",\"warning\":" ++ compact_text (error_value 24 message (Some (refused_query target printed f)))))

-- a query in which a matcher is enforced is printed to be sent on
abbrev pub Warns : Limits → Wanted → Option Text → Text → Text → Type 0
Warns limits (wanted.Print (mode.Plain (Pretty layout))) (Some matcher) printed warning = IsWarning limits.target printed warning
Warns limits (wanted.Print (mode.Plain Line)) (Some matcher) printed warning = IsWarning limits.target printed warning
Warns limits w matcher printed warning = warning ≡ []

-- "Answers": what is wanted of the query, and a warning
abbrev pub IsOkText : Limits → Option Text → Wanted → Text → Text → Type 0
IsOkText limits matcher w output answer =
    (warning : Text) × Warns limits w matcher output warning × (answer ≡ codes "{\"ok\":" ++ (wanted_text w output ++ (warning ++ codes "}")))

-- an answer to the line, without an id, and whether it is an `ok`
abbrev pub IsPlainAnswer : Settings → Text → Text → Bool → Type 0
IsPlainAnswer settings line answer true =
    (asked : Text × Option Text × Wanted) × Asks settings.format line (Ok asked)
    × ((output : Text) × PrintsQuery settings.limits asked (Ok output) × IsOkText settings.limits asked.1 asked.2 output answer)
IsPlainAnswer settings line answer false =
    (e : QueryError) × Then (Asks settings.format line) (PrintsQuery settings.limits) (Err e) × IsErrorText e answer

-- the answer's members are these after an id, if there is one: the text of that as JSON, without a space
abbrev pub HasId : Option Data → Text → Text → Type 0
HasId None members printed = printed ≡ codes "{" ++ members
HasId (Some d) members printed =
    (id : Text) × (read id ≡ Some d) × (id ≡ print (tokens id)) × (printed ≡ codes "{\"id\":" ++ (id ++ (codes "," ++ members)))

-- a line that is no text has no id
abbrev pub IsIdOf : Text → Option Data → Type 0
IsIdOf line id = (IsUtf8 line × (id ≡ id_in line)) ⊎ ((¬ IsUtf8 line) × (id ≡ None))

-- "Answers": the line is answered with this text, which has its id, and whether that is an `ok`; out of memory the id may be missing
abbrev pub IsLineAnswer : Settings → Text → Text → Bool → Type 0
IsLineAnswer settings line printed is_ok =
    ((members : Text) × IsPlainAnswer settings line (codes "{" ++ members) is_ok × ((id : Option Data) × IsIdOf line id × HasId id members printed))
    ⊎ ((is_ok ≡ false) × IsErrorText error.Memory printed)

-- ---- all lines

-- each line with a line feed after it
abbrev pub ended_lines : List Text → Text
ended_lines [] = []
ended_lines (line ∷ lines) = line ++ 10 ∷ ended_lines lines

-- the text ends in another byte than a line feed
abbrev pub IsOpen : Text → Type 0
IsOpen text = (front : Text) × (b : ℕ) × (text ≡ front ++ b ∷ []) × (b ≢ 10)

-- "Lines": the lines of a text; the last may lack its line feed, and no line has one in it
pub record AreLines (input : Text) (lines : List Text) : Type 0 where
  pub single : AllByRecursion (All (λ b. b ≢ 10)) lines
  pub whole : (ended_lines lines ≡ input) ⊎ (IsOpen input × (ended_lines lines ≡ input ++ 10 ∷ []))

-- a line with its answer, and whether that is an `ok`
pub record Answer : Type 0 where
  pub line : Text
  pub text : Text
  pub is_ok : Bool

-- the lines of this input have these answers; it was read, and the answers were written, a line each
pub record AreAnswered (settings : Settings) (left left_now held held_now : Option (List ℕ)) (input : Text) (answers : List Answer) : Type 0 where
  pub each : AllByRecursion (λ a. IsLineAnswer settings a.line a.text a.is_ok) answers
  pub lines : AreLines input (map (λ a. a.line) answers)
  pub read : Consumes left left_now input
  pub written : Appends held held_now (ended_lines (map (λ a. a.text) answers))

-- all of the input was read, each of its lines was answered, and whether each with an `ok`
abbrev pub AnswersLines : Settings → Option (List ℕ) → Option (List ℕ) → Option (List ℕ) → Option (List ℕ) → Bool → Type 0
AnswersLines settings left left_after held held_after all_ok =
    (input : Text) × (answers : List Answer) × AreAnswered settings left left_after held held_after input answers
    × IfSome left (λ bytes. bytes ≡ input) × (all_ok ≡ list_all (λ a. a.is_ok) answers)

-- lines that were read whole are answered
abbrev pub AnswersWhole : Settings → Option (List ℕ) → Option (List ℕ) → Option (List ℕ) → Option (List ℕ) → Type 0
AnswersWhole settings left left_now held held_now =
    (answers : List Answer) × AreAnswered settings left left_now held held_now (ended_lines (map (λ a. a.line) answers)) answers

-- a read failed: so are they, and of one more line a part may have been read
abbrev pub AnswersBefore : Settings → Option (List ℕ) → Option (List ℕ) → Option (List ℕ) → Option (List ℕ) → Type 0
AnswersBefore settings left left_after held held_after =
    (left_now : Option (List ℕ)) × AnswersWhole settings left left_now held held_after × ((part : Text) × Consumes left_now left_after part × StopsAt part 10)

-- a write failed: so are they, one more line was read, and a beginning of its answer was written; or all are answered, and not flushed
abbrev pub IsCutShort : Settings → Option (List ℕ) → Option (List ℕ) → Option (List ℕ) → Option (List ℕ) → Type 0
IsCutShort settings left left_after held held_after =
    ((left_now : Option (List ℕ)) × (held_now : Option (List ℕ)) × AnswersWhole settings left left_now held held_now
    × ((last : Answer) × IsLineAnswer settings last.line last.text last.is_ok × ((input : Text) × AreLines input (last.line ∷ [])
    × Consumes left_now left_after input × AppendsBeginning held_now held_after (last.text ++ 10 ∷ []))))
    ⊎ ((all_ok : Bool) × AnswersLines settings left left_after held held_after all_ok)
