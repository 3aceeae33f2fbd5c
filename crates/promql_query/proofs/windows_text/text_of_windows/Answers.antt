use Rattle.std.proofs.Common.{ap, ◌∙◌}
use Rattle.std.proofs.lemmas.Result.{IfOk-weaker}
use Rattle.serde_json.specs.Written.{compact_text, has_float}
use Rattle.promql_json.specs.JsonParts.{list}
use Rattle.promql_when.specs.Found.{found_of}
use Rattle.promql_query.specs.WindowsText.{window_values}
use Rattle.promql_query.proofs.FiniteWindows.{windows_no_float}
use Rattle.promql_query.proofs.windows_text.text_of_windows.Goals as goal

pub value_text-requires : goal.value_text-requires
value_text-requires c = ap has_float c.in_ok-value.ensures ∙ windows_no_float (found_of c.args.found.now) c.as_slice.result.now

pub returns : goal.returns
returns c = λ answer.
    IfOk-weaker c.value_text.result _ _
    (λ s is. (
      c.in_ok-places.places.items,
      c.in_ok-places.ensures answer,
      is ∙ ap compact_text (c.in_ok-value.ensures ∙ ap (λ places. list (window_values (found_of c.args.found.now) places)) c.as_slice.ensures.value),
    ))
    c.value_text.ensures
