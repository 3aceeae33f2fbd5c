use Rattle.promql_label.specs.Answers.{pattern_answer}
use Rattle.promql_rewrite.proofs.enforcement.PlainQueries.{enforced_line_means}
use Rattle.promql_rewrite.proofs.laws.enforced_lines_without_patterns.Goals as goal

pub returns : goal.returns
returns c = enforced_line_means pattern_answer (c.trees_are_answers.ensures pattern_answer c.small_patterns_have_one_answer.ensures.allowed)
