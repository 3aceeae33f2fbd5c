use Rattle.std.proofs.Common.{◌∙◌, ap, ◌++◌, ◌∷◌}
use Rattle.promql_places.proofs.PlaceSteps.{ended}
use Rattle.promql_places.proofs.placing.Placing.end_place.Goals as goal

pub returns-in-Some-clause-place : goal.returns-in-Some-clause-place
returns-in-Some-clause-place c = λ before after place is index.
    ended c.args.self.now.places.items before after place c.in-Some.place.now c.args.index c.end-place.result is index c.in-Some.ensures.value
    ∙ ap (λ e. before ++ record { start = place.start; end = e } ∷ after) c.end-place.ensures
