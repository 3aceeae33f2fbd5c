-- What each call makes of a query (docs/guide/bindings.md, "Calls").
use Rattle.std.specs.Prelude.{◌≡◌, ◌⊎◌, ℕ, ℤ, Bool, false, true, if◌then◌else◌, [], Option, Some, None, Result, Err}
use Rattle.std.specs.Str.{IsUtf8}
use Rattle.serde_json.specs.Written.{compact_text}
use Rattle.promql_text.specs.Texts.{Text}
use Rattle.promql_span.specs.declared.span.Span.{Span}
use Rattle.promql_ast.specs.Text as one_line
use Rattle.promql_ast.specs.Tree.{Tree}
use Rattle.promql_span.specs.declared.limits.Limits.{Limits}
use Rattle.promql_rewrite.specs.declared.matcher_text.MatcherError.TheVariants as matcher_error
use Rattle.promql_query.specs.Rejecting.{IsMessage, IsParsed, IsRejection, marked_line, reason_number}
use Rattle.promql_query.specs.Batch.{error_value}
use Rattle.promql_query.specs.Telling.{IsToldWith}
use Rattle.promql_query.specs.declared.rejected_query.RejectedQuery.{RejectedQuery}
use Rattle.promql_query.specs.EnforcedLines.{IsEnforcedLine}
use Rattle.promql_formatter.specs.declared.options.FormatOptions.{FormatOptions}
use Rattle.promql_query.specs.FormattedQueries.{IsFormattedQuery}
use Rattle.promql_query.specs.QueryErrors.{Gives, IsOutput, OfTree, Prints, Then}
use Rattle.promql_query.specs.RenamedLines.{IsRenamedLine, renaming}
use Rattle.promql_query.specs.declared.query_error.QueryError.{QueryError}
use Rattle.promql_query.specs.declared.query_error.QueryError.TheVariants as error
use Rattle.promql_query.specs.declared.renamed_line.Named.{Named}
use Rattle.promql_query.specs.TreeTexts.{PrintsForm}
use Rattle.promql_query.specs.WindowsText.{GivesWindows, IsLastReadText, Overflows}
use Rattle.promql_run.specs.declared.format.Format.{Format}
use Rattle.promql_when.specs.Pinned.{asks_grid, pinned}
use Rattle.promql_when.specs.Reached.{evaluation, reach_overflow}
use Rattle.promql_when.specs.Reads.{overflow}
use Rattle.promql_when.specs.Windows.{instant}
use Rattle.promql_when.specs.declared.times.Times.{Times}
use Rattle.promql_query.specs.declared.mode.Mode.{Mode}
use Rattle.promql_c.specs.ReachesText.{IsReachesText}
use Rattle.promql_c.specs.SeriesText.{AreNoLabels, IsMayReadText}
use Rattle.promql_c.specs.TokensText.{GivesTokens}

-- ---- what is made of bytes: a text, or an error

-- of bytes that are texts; of others it is said that they are none
abbrev pub OfTexts : Type 0 → (Result Text QueryError → Type 0) → Result Text QueryError → Type 0
OfTexts AreTexts IsMade made = (AreTexts × IsMade made) ⊎ ((¬ AreTexts) × (made ≡ Err error.NotUtf8))

-- in a mode that there is
abbrev pub OfMode : {A : Type 0} → (A → Result Text QueryError → Type 0) → Option A → Result Text QueryError → Type 0
OfMode IsMade None made = made ≡ Err error.UnknownMode
OfMode IsMade (Some mode) made = IsMade mode made

-- ---- the calls

-- "print": the text in the mode
abbrev pub IsPrintOf : Limits → Text → Option Mode → Result Text QueryError → Type 0
IsPrintOf limits query = OfMode (λ m. OfTexts (IsUtf8 query) (OfTree limits query (Prints limits query m)))

-- "enforce": the line with the matcher in every selector; one that is not valid UTF-8 is none, which counts only where the query has a
-- tree
abbrev pub IsEnforceOf : Limits → Text → Text → Result Text QueryError → Type 0
IsEnforceOf limits query matcher = OfTexts (IsUtf8 query) (λ made. (IsUtf8 matcher × IsEnforcedLine limits query matcher made)
    ⊎ ((¬ IsUtf8 matcher) × OfTree limits query (λ t made. made ≡ Err (error.Matcher matcher_error.NotAMatcher)) made))

-- "rename": the line with a new name for a metric or a label
abbrev pub IsRenameOf : Limits → Text → Text → Text → Option Named → Result Text QueryError → Type 0
IsRenameOf limits query from to =
    OfMode (λ named. OfTexts (IsUtf8 query × IsUtf8 from × IsUtf8 to) (IsRenamedLine limits query (renaming named from to)))

-- "tokens": those of any text that is no longer than a query may be
abbrev pub IsTokensOf : Limits → Text → Result Text QueryError → Type 0
IsTokensOf limits text = OfTexts (IsUtf8 text) (GivesTokens limits text)

-- "collect", "places", "parts", "is constant" and "check": such a text of the query's tree; where it is checked, no text
abbrev pub IsTextOf : (Tree → Text → Type 0) → Limits → Text → Result Text QueryError → Type 0
IsTextOf Is limits query = OfTexts (IsUtf8 query) (OfTree limits query (λ t. Gives (Is t) (λ e. ⊥)))

-- "explain": an empty text where the query has a tree; else the message of the rejection for people, or the object of JSON that has it as
-- its `error`, beside the place and what was expected
abbrev pub Explains : Limits → Bool → Text → Text → Type 0
Explains limits as_json query text =
    (IsParsed limits query × (text ≡ []))
    ⊎ ((r : RejectedQuery) × IsRejection limits query r.rejection × IsToldWith query r × ((message : Text) × IsMessage query r.rejection message
    × (text ≡ (if as_json then compact_text (error_value (reason_number r.rejection.reason) message (Some r)) else message))))

abbrev pub IsExplainOf : Limits → Bool → Text → Result Text QueryError → Type 0
IsExplainOf limits as_json query = OfTexts (IsUtf8 query) (Gives (Explains limits as_json query) (λ e. ⊥))

-- "snippet": the line where the span begins, with its mark below
abbrev pub IsSnippetOf : Text → Span → Result Text QueryError → Type 0
IsSnippetOf query span = OfTexts (IsUtf8 query) (Gives (λ text. text ≡ marked_line query span) (λ e. ⊥))

-- "print a tree": the text of the tree of this form
abbrev pub IsTreePrintOf : Limits → ℕ → Text → Bool → Option Format → Result Text QueryError → Type 0
IsTreePrintOf limits max_tree form parens =
    OfMode (λ format. OfTexts (IsUtf8 form) (Then (PrintsForm limits max_tree format parens form) (IsOutput limits)))

-- "format": a layout for people, which has the query's tree and its comments, and is within the limits of an output
abbrev pub IsFormattedOf : Limits → FormatOptions → Text → Result Text QueryError → Type 0
IsFormattedOf limits options query = OfTexts (IsUtf8 query) (IsFormattedQuery limits options query)

-- "windows": those of the query's tree
abbrev pub IsWindowsOf : Limits → Times → Text → Result Text QueryError → Type 0
IsWindowsOf limits ts query = OfTexts (IsUtf8 query) (OfTree limits query (GivesWindows query ts))

-- "last read": the last millisecond that the query reads at this time
abbrev pub GivesLastRead : Times → ℤ → Tree → Result Text QueryError → Type 0
GivesLastRead ts x t = Gives (IsLastReadText ts x t) (Overflows (overflow ts t (Some (instant x))))

abbrev pub IsLastReadOf : Limits → Times → ℤ → Text → Result Text QueryError → Type 0
IsLastReadOf limits ts x query = OfTexts (IsUtf8 query) (OfTree limits query (GivesLastRead ts x))

-- "pinned": the line of the tree with these times for `@ start()` and `@ end()`; or the query calls a function of the whole query
abbrev pub IsPinnedLine : ℤ → ℤ → Tree → Text → Type 0
IsPinnedLine start end t text = (asks_grid t ≡ false) × (text ≡ one_line.text (pinned start end t))

abbrev pub Pins : Limits → ℤ → ℤ → Tree → Result Text QueryError → Type 0
Pins limits start end t = Then (Gives (IsPinnedLine start end t) (λ e. (asks_grid t ≡ true) × (e ≡ error.GridFunction))) (IsOutput limits)

abbrev pub IsPinnedOf : Limits → ℤ → ℤ → Text → Result Text QueryError → Type 0
IsPinnedOf limits start end query = OfTexts (IsUtf8 query) (OfTree limits query (Pins limits start end))

-- "reaches": how far each selector of the query's tree reads; or 64 bits do not hold a time of the first node whose reach they do not hold
abbrev pub GivesReaches : Times → Tree → Result Text QueryError → Type 0
GivesReaches ts t = Gives (IsReachesText ts t) (Overflows (reach_overflow ts t evaluation))

abbrev pub IsReachesOf : Limits → Times → Text → Result Text QueryError → Type 0
IsReachesOf limits ts query = OfTexts (IsUtf8 query) (OfTree limits query (GivesReaches ts))

-- "may read": whether the query may read the series with these labels, which are looked at only where the query has a tree
abbrev pub GivesMayRead : Text → Tree → Result Text QueryError → Type 0
GivesMayRead labels t = Gives (IsMayReadText labels t) (AreNoLabels labels)

abbrev pub IsMayReadOf : Limits → Text → Text → Result Text QueryError → Type 0
IsMayReadOf limits query labels = OfTexts (IsUtf8 query × IsUtf8 labels) (OfTree limits query (GivesMayRead labels))
