use Rattle.promql_places.proofs.PlaceSteps.{PassesAsAll}
use Rattle.promql_places.proofs.placing.+placing.Given as goal

-- where the rest of the arguments is passed, all are
abbrev pub invariant-place_args-loop-arg : goal.invariant-place_args-loop-arg
invariant-place_args-loop-arg l = PassesAsAll l.args l.initial.placing l.arg-index l.placing
