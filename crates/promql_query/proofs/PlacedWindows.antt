-- The rows of windows, one by one, each with the place that comes next.
use Rattle.std.proofs.Common.{◌≡◌, ◌∙◌, ap, rules, sym, ℕ, ◌+◌, ◌<◌, ◌≤◌, Global, Option, Vec, List, [], ◌∷◌, ◌++◌, append-nil, drop, get_or, length, map}
use Rattle.std.specs.Option.{option_map_or}
use Rattle.std.proofs.lemmas.List.{append_assoc, drop_all, drop_more, map-append}
use Rattle.serde_json.specs.Data.{Data}
use Rattle.serde_json.specs.View.{view}
use Rattle.serde_json.specs.declared.value.Value.{Value, Array, the_lemmas}
use Rattle.promql_ast.specs.Selectors.{Selector}
use Rattle.promql_ast.specs.View.{selector_of}
use Rattle.promql_json.specs.JsonParts.{list}
use Rattle.promql_span.specs.declared.span.Span.{Span}
use Rattle.promql_when.specs.Found.{found_of}
use Rattle.promql_when.specs.Reads.{target_info}
use Rattle.promql_when.specs.declared.reading.SelectorWindow.{SelectorWindow}
use Rattle.promql_when.specs.declared.times.Window.{Window}
use Rattle.promql_query.specs.WindowsText.{first_of, window_value, window_values}

abbrev pub row_of : SelectorWindow → Selector × Option Window
row_of s = (option_map_or (λ v. selector_of v.now) s.selector target_info, s.window)

-- the array of what was pushed
pub array_of : (vs : Vec Value Global) → view (Array vs) ≡ list (map view vs.items)
array_of vs = search (rules, the_lemmas)

module _ (found : List SelectorWindow) (i : ℕ) (vs : List Value) (places : List (Option Span)) (all : List Data) where
  pub one_more : (s : SelectorWindow) (v : Value) (place : Option Span) (left : List (Option Span)) → i < length found → s ≡ get_or found i s
      → place ≡ first_of places → left ≡ drop 1 places → view v ≡ window_value (row_of s) place
      → map view vs ++ window_values (found_of (drop i found)) places ≡ all → map view (vs ++ v ∷ []) ++ window_values (found_of (drop (i + 1) found)) left ≡ all
  one_more s v place left within same first rest is before =
      let others = found_of (drop (i + 1) found) in
      ap (λ l. l ++ window_values others left) (map-append view vs (v ∷ []))
      ∙ append_assoc (map view vs) (view v ∷ []) (window_values others left)
      ∙ ap (λ d. map view vs ++ d ∷ window_values others left) (is ∙ ap (window_value (row_of s)) first)
      ∙ ap (λ l. map view vs ++ window_value (row_of s) (first_of places) ∷ window_values others l) rest
      ∙ ap (λ l. map view vs ++ window_values (found_of l) places) (sym (drop_more found i s within ∙ ap (λ z. z ∷ drop (i + 1) found) (sym same)))
      ∙ before

  pub all_made : length found ≤ i → map view vs ++ window_values (found_of (drop i found)) places ≡ all → map view vs ≡ all
  all_made end before =
      sym (append-nil (map view vs)) ∙ ap (λ l. map view vs ++ window_values (found_of l) places) (sym (drop_all i found end)) ∙ before
