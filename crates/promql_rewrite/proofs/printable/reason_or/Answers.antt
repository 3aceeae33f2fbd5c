use Rattle.promql_ast.specs.View.{tree_of}
use Rattle.promql_rewrite.proofs.rules_broken.ReasonsFound.{all_fitting, found_is_reason}
use Rattle.promql_rewrite.proofs.printable.reason_or.Goals as goal

pub returns-in-Some : goal.returns-in-Some
returns-in-Some c = found_is_reason c.in-Some.reason (tree_of c.args.expr.now) c.in-Some.ensures

pub returns-in-None : goal.returns-in-None
returns-in-None c = (all_fitting (tree_of c.args.expr.now) c.in-None.ensures, c.requires.0, c.requires.1)
