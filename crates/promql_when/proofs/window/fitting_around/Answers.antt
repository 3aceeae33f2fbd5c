use Rattle.std.proofs.Common.{◌∙◌, subst}
use Rattle.std.specs.Int.{w128}
use Rattle.std.proofs.lemmas.Int.{to_z-of_z}
use Rattle.promql_when.specs.Walked.{Fits}
use Rattle.promql_when.proofs.window.fitting_around.Goals as goal

pub returns : goal.returns
returns c =
    let first = to_z-of_z w128 c.args.first c.ranges.first ∙ c.requires.first in
    let last = to_z-of_z w128 c.args.last c.ranges.last ∙ c.requires.last in
    subst (λ w. Fits c.fitting.result w) (λ i. record { first = first i; last = last i }) c.fitting.ensures
