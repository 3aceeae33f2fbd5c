use Rattle.promql_span.proofs.ErrorPlacing.{building_found}
use Rattle.promql_span.proofs.diagnosis.diagnose_building.Goals as goal

pub span_of-span-requires : goal.span_of-span-requires
span_of-span-requires c = rw (c.first_error-error.ensures, c.from.ensures) (building_found c.tokens_are_placed.ensures.whole c.args.text.now _ _ (rw (← c.into_inner-fault.ensures) at c.requires))
