use Rattle.std.proofs.Common.{◌≡◌, drop}
use Rattle.promql_when.specs.Last.{last_of, later}
use Rattle.promql_when.specs.Found.{found_of}
use Rattle.promql_when.proofs.last.last_of.Given as goal

abbrev pub invariant-loop-selector : goal.invariant-loop-selector
invariant-loop-selector l = later l.last (last_of (found_of (drop l.selector-index l.found))) ≡ last_of (found_of l.found)
