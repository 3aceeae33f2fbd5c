use Rattle.promql_when.specs.Last.{last_of}
use Rattle.promql_when.specs.Found.{found_of}
use Rattle.promql_when.proofs.LaterTimes.{last_later, one_later}
use Rattle.promql_when.proofs.last.last_of.Goals as goal

pub loop-selector-preserved : goal.loop-selector-preserved
loop-selector-preserved c =
    one_later c.args.found.now c.loop-selector.selector-index c.loop-selector.last (last_of (found_of c.args.found.now)) c.selector-item.result c.later-last.result
    c.loop-selector-test.true c.selector-item.is c.later-last.ensures c.loop-selector.invariant

pub returns : goal.returns
returns c = last_later c.args.found.now c.loop-selector.selector-index c.loop-selector.last (last_of (found_of c.args.found.now)) c.loop-selector-test.false c.loop-selector.invariant
