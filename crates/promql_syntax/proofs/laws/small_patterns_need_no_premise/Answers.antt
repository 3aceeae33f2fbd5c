use Rattle.promql_label.specs.Answers.{has_one_answer, pattern_answer}
use Rattle.promql_syntax.proofs.building.AskedPatterns.{normal_patterns}
use Rattle.promql_ast.specs.Normal.{normal}
use Rattle.promql_syntax.proofs.building.SuchPatterns.{small_patterns}
use Rattle.promql_syntax.proofs.building.SmallAnswers.{tree_is_answer, tree_is_had}
use Rattle.promql_syntax.proofs.laws.small_patterns_need_no_premise.Goals as goal

pub returns : goal.returns
returns c = record {
  has = λ source answers t served small.
      tree_is_had has_one_answer pattern_answer c.small_patterns_have_one_answer.ensures.small source answers t served ((small_patterns t).0 small);
  is = λ source answers answer t served has small.
      tree_is_answer has_one_answer pattern_answer c.small_patterns_have_one_answer.ensures.small source answers answer t served has ((small_patterns t).0 small);
  normal = λ t small. (small_patterns (normal t)).1 (normal_patterns has_one_answer t ((small_patterns t).0 small));
}
