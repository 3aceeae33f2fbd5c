use Rattle.std.proofs.Common.{◌+◌, ◌++◌, ap, drop, map, ◌∙◌}
use Rattle.serde_json.specs.View.{view}
use Rattle.promql_json.specs.JsonParts.{list}
use Rattle.promql_label.specs.MatcherViews.{plain_matcher_of}
use Rattle.promql_places.specs.PlacedForms.{placed_matcher, placed_matchers}
use Rattle.promql_places.proofs.PlacedFormSteps.{after_two, array_of, matchers_end, matchers_values}
use Rattle.promql_places.proofs.matcher_places.group_value.Goals as goal

pub loop-matcher-preserved : goal.loop-matcher-preserved
loop-matcher-preserved c =
    let ms = c.args.matchers.now in let i = c.loop-matcher.matcher-index in let m = c.matcher-item.result in
    let now = c.loop-matcher.places.rest.now in let next = c.next.new.self.rest.now in
    let made = c.in_ok-matcher_value.ensures ∙ ap (λ p. placed_matcher p (plain_matcher_of m)) c.next.ensures.next in
    record {
      values = ap (λ l. map view l ++ placed_matchers (map plain_matcher_of (drop (i + 1) ms)) next) c.in_ok-push.ensures.items
          ∙ matchers_values ms i m c.loop-matcher.list.items c.in_ok-matcher_value.field-0 now next _ c.loop-matcher-test.true c.matcher-item.is made
          c.next.ensures.rest c.loop-matcher.invariant.values;
      rest = after_two i 1 c.args.places.now.rest.now now next c.loop-matcher.invariant.rest c.next.ensures.rest;
    }

pub returns-clause-value : goal.returns-clause-value
returns-clause-value c =
    array_of c.loop-matcher.list
    ∙ ap list (matchers_end c.args.matchers.now c.loop-matcher.matcher-index c.loop-matcher.list.items c.loop-matcher.places.rest.now _ c.loop-matcher-test.false
    c.loop-matcher.invariant.values)
