use Rattle.promql_places.proofs.PlaceSteps.{lists_ended}
use Rattle.promql_places.proofs.placing.Placing.set_parts.Goals as goal

pub returns-in-Some-clause-parts : goal.returns-in-Some-clause-parts
returns-in-Some-clause-parts c = λ before after none is index. lists_ended c.args.self.now.parts.items before after none c.args.parts c.args.index is index
