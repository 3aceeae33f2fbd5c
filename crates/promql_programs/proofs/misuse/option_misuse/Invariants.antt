use Rattle.std.proofs.Common.{length}
use Rattle.promql_programs.proofs.misuse.option_misuse.Given as goal

abbrev pub decreases-loop-rest : goal.decreases-loop-rest
decreases-loop-rest l = length l.rest
