use Rattle.promql_label.proofs.regex_answers.SmallPatterns.{allowed_is_answer, answer_is_allowed}
use Rattle.promql_label.proofs.laws.small_patterns_have_one_answer.Goals as goal

pub returns : goal.returns
returns c = record { small = allowed_is_answer; allowed = answer_is_allowed }
