use Rattle.std.proofs.Common.{length, map}
use Rattle.serde_json.specs.View.{view}
use Rattle.promql_c.proofs.FindingRows.{HaveRows}
use Rattle.promql_c.proofs.differing.findings_value.Given as goal

abbrev pub decreases-loop-rest : goal.decreases-loop-rest
decreases-loop-rest l = length l.rest

abbrev pub invariant-loop-rest : goal.invariant-loop-rest
invariant-loop-rest l = HaveRows l.findings l.rest (map view l.list.items)
