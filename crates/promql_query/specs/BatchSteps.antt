-- What each step of a batch does. Private: nothing rests on believing it.
use Rattle.std.specs.Prelude.{◌≡◌, ◌≢◌, ℕ, ◌++◌, List, [], ◌∷◌, All, Bool, true, IfSome, if◌then◌else◌, MatchOption, Option, Some, None, Result, Ok, Err, codes}
use Rattle.std.specs.Io.{StopsAt}
use Rattle.std.specs.List.{AllByRecursion}
use Rattle.std.specs.Io.KnownBytes.{Appends, Consumes}
use Rattle.json.specs.Lex.{tokens}
use Rattle.json.specs.Print.{print}
use Rattle.serde_json.specs.Data.{Data}
use Rattle.serde_json.specs.Read.{read}
use Rattle.promql_text.specs.Texts.{Text}
use Rattle.promql_ast.specs.Tree.{Tree}
use Rattle.promql_run.specs.Ended.{AppendsBeginning}
use Rattle.promql_query.specs.Rejecting.{IsTold}
use Rattle.promql_query.specs.declared.rejection.Rejection.{Rejection}
use Rattle.promql_rewrite.specs.Faithful.{IsLineOf, Means}
use Rattle.promql_span.specs.QueryLimits.{IsWithin}
use Rattle.promql_span.specs.declared.limits.Limits.{Limits}
use Rattle.promql_span.specs.declared.unexpected.Unexpected.{Unexpected}
use Rattle.promql_run.specs.Running.{format_text}
use Rattle.promql_run.specs.declared.format.Format.{Format}
use Rattle.promql_run.specs.declared.format.Format.TheVariants as format
use Rattle.promql_run.specs.declared.run.RunError.{RunError}
use Rattle.promql_run.specs.declared.run.RunError.TheVariants as error
use Rattle.promql_when.specs.declared.times.Times.{Times}
use Rattle.promql_query.specs.Batch.{Asks, EnforcesShort, IsLineAnswer, IsOkText, IsPlainAnswer, PrintsAsked, PrintsQuery}
use Rattle.promql_query.specs.QueryErrors.{Prints, Then}
use Rattle.promql_query.specs.Requests.{is_known}
use Rattle.promql_query.specs.Telling.{Tells}
use Rattle.promql_query.specs.TimesText.{TellsTimes}
use Rattle.promql_query.specs.declared.batch.LineEnd.{LineEnd}
use Rattle.promql_query.specs.declared.batch.LineEnd.TheVariants.{Feed, Input}
use Rattle.promql_query.specs.declared.mode.Mode.TheVariants as mode
use Rattle.promql_query.specs.declared.mode.Wanted.{Wanted}
use Rattle.promql_query.specs.declared.mode.Wanted.TheVariants.{Print, Times as AtTimes}
use Rattle.promql_query.specs.declared.query_error.QueryError.{QueryError}
use Rattle.promql_query.specs.declared.request.Names.{Names}
use Rattle.promql_query.specs.declared.rejected_query.Expectation.{Expectation}
use Rattle.promql_query.specs.declared.settings.Settings.{Settings}

abbrev pub HasNoFeed : Text → Type 0
HasNoFeed line = All (λ b. b ≢ 10) line

abbrev pub HaveNoFeed : List Text → Type 0
HaveNoFeed = AllByRecursion HasNoFeed

-- these are all the bytes that are left, where those are known
abbrev pub IsAll : Option (List ℕ) → Text → Type 0
IsAll left input = IfSome left (λ bytes. bytes ≡ input)

-- the next line was read, or there was none
abbrev pub IsLineRead : Option (List ℕ) → Option (List ℕ) → Text → Option LineEnd → Type 0
IsLineRead left left_after line None = Consumes left left_after [] × IsAll left []
IsLineRead left left_after line (Some Feed) = Consumes left left_after (line ++ 10 ∷ []) × HasNoFeed line
IsLineRead left left_after line (Some Input) =
    Consumes left left_after line × HasNoFeed line × IsAll left line × (line ≢ [])

-- a part of a line was read
abbrev pub IsPartRead : Option (List ℕ) → Option (List ℕ) → Type 0
IsPartRead left left_after = (part : Text) × Consumes left left_after part × StopsAt part 10

-- an answer to the line was written, with a line feed
abbrev pub IsAnswered : Settings → Text → Option (List ℕ) → Option (List ℕ) → Bool → Type 0
IsAnswered settings line held held_after is_ok =
    (answer : Text) × IsLineAnswer settings line answer is_ok × Appends held held_after (answer ++ 10 ∷ [])

-- a beginning of that was written
abbrev pub IsPartlyAnswered : Settings → Text → Option (List ℕ) → Option (List ℕ) → Type 0
IsPartlyAnswered settings line held held_after =
    (answer : Text) × (is_ok : Bool) × IsLineAnswer settings line answer is_ok
    × AppendsBeginning held held_after (answer ++ 10 ∷ [])

-- the line is answered with this text, which is an `ok`, without an id
abbrev pub IsOkLine : Settings → Text → Text → Type 0
IsOkLine settings line printed = IsPlainAnswer settings line printed true

-- why the line has no such answer
abbrev pub FailsWith : Settings → Text → QueryError → Type 0
FailsWith settings line e = Then (Asks settings.format line) (PrintsQuery settings.limits) (Err e)

-- the answer with a text that is printed so
abbrev pub IsAnswerWith : Limits → Option Text → Wanted → (Result Text QueryError → Type 0) → Text → Type 0
IsAnswerWith limits matcher w IsPrint answer = (output : Text) × IsPrint (Ok output) × IsOkText limits matcher w output answer

-- what is printed of a tree in a format
abbrev pub PrintsFormat : Limits → Format → Tree → Result Text QueryError → Type 0
PrintsFormat limits format = Prints limits [] (mode.Plain format)

abbrev pub IsTreeAnswer : Limits → Option Text → Format → Tree → Text → Type 0
IsTreeAnswer limits matcher format t = IsAnswerWith limits matcher (Print (mode.Plain format)) (PrintsFormat limits format t)

-- the tree with a matcher in its selectors, or as it is
abbrev pub IsAsked : Limits → Option Text → Tree → Result Tree QueryError → Type 0
IsAsked limits None t made = made ≡ Ok t
IsAsked limits (Some matcher) t made = EnforcesShort limits matcher t made

-- what is printed of that
abbrev pub IsAskedPrint : Limits → Option Text → Format → Tree → Result Text QueryError → Type 0
IsAskedPrint limits matcher format t = Then (IsAsked limits matcher t) (PrintsFormat limits format)

abbrev pub IsAskedAnswer : Limits → Option Text → Format → Tree → Text → Type 0
IsAskedAnswer limits matcher format t = IsAnswerWith limits matcher (Print (mode.Plain format)) (IsAskedPrint limits matcher format t)

-- the answer with the JSON form of this query's tree with places
abbrev pub IsPlacedAnswer : Limits → Text → Tree → Text → Type 0
IsPlacedAnswer limits query t = IsAnswerWith limits None (Print mode.Placed) (Prints limits query mode.Placed t)

-- the answer that tells when a tree reads, of a query or with a matcher in its selectors
abbrev pub IsToldAnswer : Option Text → Limits → Times → Tree → Text → Type 0
IsToldAnswer query limits ts t = IsAnswerWith limits None (AtTimes ts) (TellsTimes query limits ts t)

abbrev pub TellsEnforced : Limits → Text → Times → Tree → Result Text QueryError → Type 0
TellsEnforced limits matcher ts t = Then (EnforcesShort limits matcher t) (TellsTimes None limits ts)

abbrev pub IsEnforcedToldAnswer : Limits → Text → Times → Tree → Text → Type 0
IsEnforcedToldAnswer limits matcher ts t = IsAnswerWith limits (Some matcher) (AtTimes ts) (TellsEnforced limits matcher ts t)

-- the answer with what is wanted
abbrev pub IsWantedAnswer : Limits → Text → Option Text → Wanted → Tree → Text → Type 0
IsWantedAnswer limits query matcher w t = IsAnswerWith limits matcher w (PrintsAsked limits query w matcher t)

-- the answer to a query
abbrev pub IsQueryAnswer : Limits → Text → Text → Option Text → Wanted → Type 0
IsQueryAnswer limits answer query matcher w = IsAnswerWith limits matcher w (PrintsQuery limits (query, matcher, w)) answer

-- the text is the value as JSON, without a space
abbrev pub IsJsonOf : Data → Text → Type 0
IsJsonOf d text = (read text ≡ Some d) × (text ≡ print (tokens text))

-- an object with an id before its other members
abbrev pub id_before : Text → Text → Text
id_before id members = codes "{\"id\":" ++ (id ++ (codes "," ++ members))

-- exactly where a rejection tells it
abbrev pub TellsAll : Text → Rejection → Option Expectation → Type 0
TellsAll query r o = MatchOption o (IsTold query r None) (λ e. (u : Unexpected) × IsTold query r (Some u) × Tells u e)

-- the line of the tree, which is within the limits and means the tree
abbrev pub IsLineWithin : Limits → Tree → Text → Type 0
IsLineWithin limits t line = IsWithin line limits × IsLineOf t line

-- the text of a tree in a format; a layout means the tree, too
abbrev pub IsFormatOf : Format → Tree → Text → Type 0
IsFormatOf (format.Pretty layout) t s = (format_text (format.Pretty layout) t ≡ Ok s) × Means s t
IsFormatOf f t s = format_text f t ≡ Ok s

-- the first of these that is no such name
abbrev pub first_unknown : Names → List Text → Option Text
first_unknown known [] = None
first_unknown known (key ∷ keys) = if is_known known key then first_unknown known keys else Some key

abbrev pub IsReadingError : RunError → Type 0
IsReadingError error.Memory = Unit {0}
IsReadingError error.Read = Unit {0}
IsReadingError _ = ⊥

abbrev pub IsBatchError : RunError → Type 0
IsBatchError error.Memory = Unit {0}
IsBatchError error.Read = Unit {0}
IsBatchError error.Write = Unit {0}
IsBatchError _ = ⊥
