use Rattle.std.proofs.Common.{◌≡◌, length}
use Rattle.promql_text.specs.DurationReaders.{seek}
use Rattle.promql_text.proofs.duration.find.Given as goal

abbrev pub invariant-loop-rest : goal.invariant-loop-rest
invariant-loop-rest l = seek l.rest l.word ≡ seek l.units l.word

abbrev pub decreases-loop-rest : goal.decreases-loop-rest
decreases-loop-rest l = length l.rest
