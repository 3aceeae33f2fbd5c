use Rattle.std.proofs.Common.{ap, map, string_bytes, ◌∙◌}
use Rattle.std.proofs.lemmas.Result.{IfOk-weaker}
use Rattle.serde_json.specs.Written.{compact_text, has_float}
use Rattle.promql_rewrite.specs.Collecting.{selected_of}
use Rattle.promql_c.specs.CollectedJson.{collected_value}
use Rattle.promql_c.proofs.FiniteCollected.{collected_no_number}
use Rattle.promql_c.proofs.collecting.collected_text.Goals as goal

pub value_text-requires : goal.value_text-requires
value_text-requires c =
    let found = c.in_ok-found.found in
    ap has_float c.in_ok-value.ensures
    ∙ collected_no_number (map string_bytes found.functions.items) (map string_bytes found.label_names.items) (map string_bytes found.metric_names.items) (map selected_of found.selectors.items)

pub returns : goal.returns
returns c =
    let found = c.in_ok-found.found in
    let functions = map string_bytes found.functions.items in
    let labels = map string_bytes found.label_names.items in
    let metrics = map string_bytes found.metric_names.items in
    IfOk-weaker c.value_text.result _ _
    (λ s is. (
      functions,
      labels,
      metrics,
      c.in_ok-found.ensures.functions,
      c.in_ok-found.ensures.labels,
      c.in_ok-found.ensures.metrics,
      is ∙ ap compact_text c.in_ok-value.ensures ∙ ap (λ selectors. compact_text (collected_value functions labels metrics selectors)) c.in_ok-found.ensures.selectors,
    ))
    c.value_text.ensures
