-- What a batch tells of when a query reads (docs/reference/programs.md, "Answers").
use Rattle.std.specs.Prelude.{◌≡◌, if◌then◌else◌, List, [], Option, Some, None, Result, codes}
use Rattle.serde_json.specs.Data.{Data, boolean, member, no_members, null, object, string}
use Rattle.serde_json.specs.Written.{compact_text}
use Rattle.promql_text.specs.Texts.{Text}
use Rattle.promql_ast.specs.Selectors.{Selector}
use Rattle.promql_ast.specs.Text as one_line
use Rattle.promql_ast.specs.Tree.{Tree}
use Rattle.promql_json.specs.JsonParts.{list, or_null, whole}
use Rattle.promql_span.specs.declared.limits.Limits.{Limits}
use Rattle.promql_span.specs.declared.span.Span.{Span}
use Rattle.promql_when.specs.Last.{is_constant, last_of}
use Rattle.promql_when.specs.Pinned.{asks_grid, pinned}
use Rattle.promql_when.specs.Reads.{overflow, windows}
use Rattle.promql_when.specs.Windows.{asked}
use Rattle.promql_when.specs.declared.times.Times.{Times}
use Rattle.promql_when.specs.declared.times.Window.{Window}
use Rattle.promql_query.specs.QueryErrors.{Gives, IsOutput, Then}
use Rattle.promql_query.specs.WindowsText.{HavePlaces, Overflows, window_values}
use Rattle.promql_query.specs.declared.query_error.QueryError.{QueryError}

-- the line with these times for `@ start()` and `@ end()`; none where a function has the value of the whole query
abbrev pub line_value : Times → Tree → Data
line_value ts t = if asks_grid t then null else string (one_line.text (pinned ts.start ts.end t))

-- whether the tree is the same at every time, the last millisecond that it reads at any of them, its line, and its windows
abbrev pub times_value : Times → Tree → List (Selector × Option Window) → List (Option Span) → Data
times_value ts t ws places =
    object (member (codes "constant") (boolean (is_constant t))
    (member (codes "last_read") (or_null whole (last_of ws))
    (member (codes "line") (line_value ts t)
    (member (codes "windows") (list (window_values ws places)) no_members))))

-- a tree that no query has has no places
abbrev pub MayHavePlaces : Option Text → Tree → List (Option Span) → Type 0
MayHavePlaces None t places = places ≡ []
MayHavePlaces (Some query) t places = HavePlaces query t places

abbrev pub IsTold : Option Text → Times → Tree → Text → Type 0
IsTold query ts t text = (places : List (Option Span)) × MayHavePlaces query t places × (text ≡ compact_text (times_value ts t (windows ts t (asked ts)) places))

abbrev pub IsTimesText : Option Text → Times → Tree → Text → Type 0
IsTimesText query ts t text = (overflow ts t (asked ts) ≡ None) × IsTold query ts t text

-- that, if it is within the limits; or 64 bits do not hold a time of a node
abbrev pub TellsTimes : Option Text → Limits → Times → Tree → Result Text QueryError → Type 0
TellsTimes query limits ts t = Then (Gives (IsTimesText query ts t) (Overflows (overflow ts t (asked ts)))) (IsOutput limits)
