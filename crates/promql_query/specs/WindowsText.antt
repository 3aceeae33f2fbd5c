-- The texts of when a tree reads (docs/guide/bindings.md, "When a query reads").
use Rattle.std.specs.Prelude.{◌≡◌, ℤ, List, [], ◌∷◌, drop, Option, Some, None, Result, String, string_bytes}
use Rattle.std.specs.declared.alloc.Global.{Global}
use Rattle.serde_json.specs.Data.{Data, boolean, number, string, unsigned}
use Rattle.serde_json.specs.Written.{compact_text}
use Rattle.promql_text.specs.Texts.{Text}
use Rattle.promql_ast.specs.Selectors.{Selector}
use Rattle.promql_ast.specs.Text as one_line
use Rattle.promql_ast.specs.Tree.{Tree, vector}
use Rattle.promql_json.specs.JsonParts.{list, or_null, whole}
use Rattle.promql_span.specs.declared.span.Span.{Span}
use Rattle.promql_places.specs.NodePlaces.{AreOfNodes, place_of}
use Rattle.promql_when.specs.Last.{is_constant, last_of}
use Rattle.promql_when.specs.Reads.{overflow, windows}
use Rattle.promql_when.specs.Windows.{asked, instant}
use Rattle.promql_when.specs.declared.times.Times.{Times}
use Rattle.promql_when.specs.declared.times.Window.{Window}
use Rattle.promql_query.specs.QueryErrors.{Gives}
use Rattle.promql_query.specs.SelectorPlaces.{selector_places, steps}
use Rattle.promql_query.specs.declared.query_error.QueryError.{QueryError}
use Rattle.promql_query.specs.declared.query_error.QueryError.TheVariants as error

-- the selector without its range, as it prints, the first and the last millisecond of its window, and from which byte up to which it is
abbrev pub window_value : Selector × Option Window → Option Span → Data
window_value (s, w) place =
    list (string (one_line.text (vector s)) ∷ or_null (λ w. whole w.first) w ∷ or_null (λ w. whole w.last) w
    ∷ or_null (λ p. number (unsigned p.start)) place ∷ or_null (λ p. number (unsigned p.end)) place ∷ [])

abbrev pub first_of : List (Option Span) → Option Span
first_of [] = None
first_of (place ∷ places) = place

-- each window with the place that comes next
abbrev pub window_values : List (Selector × Option Window) → List (Option Span) → List Data
window_values [] places = []
window_values (w ∷ ws) places = window_value w (first_of places) ∷ window_values ws (drop 1 places)

-- the places of the selectors in the query, one for each window
abbrev pub HavePlaces : Text → Tree → List (Option Span) → Type 0
HavePlaces query t places = (nodes : List Span) × AreOfNodes (place_of query) query t nodes × (places ≡ selector_places (steps t) nodes)

-- these windows, with the places of their selectors in the query
abbrev pub ArePlaced : Text → Tree → List (Selector × Option Window) → Text → Type 0
ArePlaced query t ws text = (places : List (Option Span)) × HavePlaces query t places × (text ≡ compact_text (list (window_values ws places)))

-- the windows of the query's tree, in the order of a walk; 64 bits hold all of them
abbrev pub IsWindowsText : Text → Times → Tree → Text → Type 0
IsWindowsText query ts t text = (overflow ts t (asked ts) ≡ None) × ArePlaced query t (windows ts t (asked ts)) text

-- the last millisecond that the tree reads at this time
abbrev pub IsLastReadText : Times → ℤ → Tree → Text → Type 0
IsLastReadText ts x t text = (overflow ts t (Some (instant x)) ≡ None) × (text ≡ compact_text (or_null whole (last_of (windows ts t (Some (instant x))))))

-- whether the tree is the same at every time
abbrev pub IsConstantText : Tree → Text → Type 0
IsConstantText t text = text ≡ compact_text (boolean (is_constant t))

-- 64 bits do not hold a time of this node, and the error has its text
abbrev pub Overflows : Option Tree → QueryError → Type 0
Overflows found e = (node : Tree) × (s : String Global) × (found ≡ Some node) × (string_bytes s ≡ one_line.text node) × (e ≡ error.TimeOverflow s)

-- the windows; or 64 bits do not hold a time of the first node whose window they do not hold
abbrev pub GivesWindows : Text → Times → Tree → Result Text QueryError → Type 0
GivesWindows query ts t = Gives (IsWindowsText query ts t) (Overflows (overflow ts t (asked ts)))
