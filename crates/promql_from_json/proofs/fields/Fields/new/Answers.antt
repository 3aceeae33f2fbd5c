use Rattle.promql_from_json.proofs.MembersInOrder.{all_left}
use Rattle.promql_from_json.proofs.fields.Fields.new.Goals as goal

pub returns-clause-left : goal.returns-clause-left
returns-clause-left c = λ f first is. rw c.iter.ensures.rest (all_left f first c.args.members.now.entries c.iter.ensures.ordered is)
