use Rattle.std.proofs.Common.{[], ◌∷◌, ◌++◌, ap, ◌∙◌}
use Rattle.promql_query.specs.declared.selector_places.Walk.{Walk}
use Rattle.promql_query.proofs.SelectorWalks.{selector_pushed}
use Rattle.promql_query.proofs.selector_places.Walk.push_selector.Goals as goal

pub returns : goal.returns
returns c =
    let place = c.next-place.result in
    let next = c.next-place.new.self in
    let after : Walk = record next { found = c.push.new.self } in
    selector_pushed place c.args.self.now after c.next-place.ensures.place c.next-place.ensures.left
    (c.in_ok-push.ensures.items ∙ ap (λ f. f ++ place ∷ []) c.next-place.ensures.found)
