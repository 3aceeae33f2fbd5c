use Rattle.promql_query.proofs.SelectorWalks.{node_passed}
use Rattle.promql_query.proofs.selector_places.Walk.pass_node.Goals as goal

pub returns : goal.returns
returns c = node_passed c.args.self.now c.next.new.self c.next.ensures.left c.next.ensures.found
