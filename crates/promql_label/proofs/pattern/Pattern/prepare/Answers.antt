use Rattle.std.proofs.Common.{arith}
use Rattle.std.proofs.lemmas.Grind.{common_steps}
use Rattle.promql_label.proofs.pattern.Pattern.prepare.Goals as goal

pub new-requires-clause-compiled : goal.new-requires-clause-compiled
new-requires-clause-compiled c = grind (arith, common_steps)
