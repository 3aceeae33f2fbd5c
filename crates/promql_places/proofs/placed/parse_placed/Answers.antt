use Rattle.promql_ast.specs.View.{tree_of}
use Rattle.promql_places.proofs.PlacedAnswers.{memory_instead}
use Rattle.promql_places.proofs.placed.parse_placed.Goals as goal

pub returns-in-Err-clause-answer : goal.returns-in-Err-clause-answer
returns-in-Err-clause-answer c = memory_instead c.args.text.now (tree_of c.in_ok-expr.expr) c.in_ok-expr.ensures.answer
