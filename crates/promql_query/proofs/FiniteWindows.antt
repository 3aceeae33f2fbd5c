-- Windows and times, as JSON, have no float.
use Rattle.std.proofs.Common.{◌≡◌, refl, List, [], ◌∷◌, drop}
use Rattle.std.specs.Prelude.{Bool, true, false, if◌then◌else◌, ℤ, pos, negsuc, Option, Some, None}
use Rattle.std.proofs.lemmas.Bool.{or_from}
use Rattle.serde_json.specs.Data.{Data, null, number, string, unsigned}
use Rattle.serde_json.specs.Written.{has_float}
use Rattle.promql_text.specs.Texts.{Text}
use Rattle.promql_ast.specs.Selectors.{Selector}
use Rattle.promql_ast.specs.Text as one_line
use Rattle.promql_ast.specs.Tree.{Tree}
use Rattle.promql_json.specs.JsonParts.{list, or_null, whole}
use Rattle.promql_span.specs.declared.span.Span.{Span}
use Rattle.promql_when.specs.Last.{last_of}
use Rattle.promql_when.specs.Pinned.{asks_grid, pinned}
use Rattle.promql_when.specs.declared.times.Times.{Times}
use Rattle.promql_when.specs.declared.times.Window.{Window}
use Rattle.promql_query.specs.TimesText.{line_value, times_value}
use Rattle.promql_query.specs.WindowsText.{first_of, window_value, window_values}

whole_no_float : (z : ℤ) → has_float (whole z) ≡ false
whole_no_float (pos n) = refl
whole_no_float (negsuc n) = refl

or_null_no_float : {A : Type 0} (f : A → Data) → ((a : A) → has_float (f a) ≡ false) → (o : Option A) → has_float (or_null f o) ≡ false
or_null_no_float f none None = refl
or_null_no_float f none (Some a) = none a

pub last_no_float : (last : Option ℤ) → has_float (or_null whole last) ≡ false
last_no_float last = or_null_no_float whole whole_no_float last

window_no_float : (r : Selector × Option Window) (place : Option Span) → has_float (window_value r place) ≡ false
window_no_float (s, w) place =
    or_from _ _ (or_null_no_float (λ w. whole w.first) (λ w. whole_no_float w.first) w)
    (or_from _ _ (or_null_no_float (λ w. whole w.last) (λ w. whole_no_float w.last) w)
    (or_from _ _ (or_null_no_float (λ p. number (unsigned p.start)) (λ p. refl) place)
    (or_from _ _ (or_null_no_float (λ p. number (unsigned p.end)) (λ p. refl) place) refl)))

pub windows_no_float : (ws : List (Selector × Option Window)) (places : List (Option Span)) → has_float (list (window_values ws places)) ≡ false
windows_no_float [] places = refl
windows_no_float (w ∷ ws) places =
    or_from (has_float (window_value w (first_of places))) _ (window_no_float w (first_of places)) (windows_no_float ws (drop 1 places))

line_no_float : (asks : Bool) (line : Text) → has_float (if asks then null else string line) ≡ false
line_no_float true line = refl
line_no_float false line = refl

pub times_no_float : (ts : Times) (t : Tree) (ws : List (Selector × Option Window)) (places : List (Option Span)) → has_float (times_value ts t ws places) ≡ false
times_no_float ts t ws places =
    or_from (has_float (or_null whole (last_of ws))) _ (last_no_float (last_of ws))
    (or_from (has_float (line_value ts t)) _ (line_no_float (asks_grid t) (one_line.text (pinned ts.start ts.end t)))
    (or_from (has_float (list (window_values ws places))) _ (windows_no_float ws places) refl))
