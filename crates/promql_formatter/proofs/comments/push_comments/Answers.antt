use Rattle.std.proofs.Common.{arith}
use Rattle.std.proofs.lemmas.Grind.{common_steps}
use Rattle.promql_formatter.proofs.CommentScans.{scanned}
use Rattle.promql_formatter.proofs.comments.push_comments.Goals as goal

pub returns-in_ok-push : goal.returns-in_ok-push
returns-in_ok-push c = let found = (scanned c.args.gap.now).0 in grind (arith, common_steps, found)

pub returns-else-inside : goal.returns-else-inside
returns-else-inside c = let found = (scanned c.args.gap.now).0 in grind (arith, common_steps, found)
