use Rattle.std.proofs.Common.{◌≡◌, length}
use Rattle.promql_target.specs.Refusals.{has_replacement_character}
use Rattle.promql_target.proofs.refusal.has_replacement_character.Given as goal

abbrev pub decreases-loop-rest : goal.decreases-loop-rest
decreases-loop-rest l = length l.rest

abbrev pub invariant-loop-rest : goal.invariant-loop-rest
invariant-loop-rest l = has_replacement_character l.rest ≡ has_replacement_character l.string
