-- The parts of what a query names, as JSON. Private: nothing rests on believing it.
use Rattle.std.specs.Prelude.{ℕ, List, Option, map}
use Rattle.serde_json.specs.Data.{Data, string}
use Rattle.promql_text.specs.DurationText.{duration_text}
use Rattle.promql_text.specs.Texts.{Text}
use Rattle.promql_ast.specs.Shifts.{Shift, shift_text, Moment, moment_text}
use Rattle.promql_json.specs.JsonParts.{list, or_null}
use Rattle.promql_rewrite.specs.Collecting.{Selection}
use Rattle.promql_c.specs.CollectedJson.{selector_value}

abbrev pub maybe_text : Option Text → Data
maybe_text = or_null string

-- the times, as they print
abbrev pub range_value : Option ℕ → Data
range_value = or_null (λ n. string (duration_text n))

abbrev pub offset_value : Option Shift → Data
offset_value = or_null (λ s. string (shift_text s))

abbrev pub at_value : Option Moment → Data
at_value = or_null (λ m. string (moment_text m))

abbrev pub selectors : List Selection → Data
selectors ss = list (map selector_value ss)
