use Rattle.std.proofs.Common.{ap, ◌∙◌}
use Rattle.std.specs.Prelude.{is_some, not}
use Rattle.promql_query.proofs.RequestMembers.{some_of_map}
use Rattle.promql_query.proofs.request.has_known_members.Goals as goal

pub returns : goal.returns
returns c = ap not (c.is_some.ensures ∙ some_of_map (λ s. s.now) c.unknown_in.result ∙ ap is_some c.unknown_in.ensures)
