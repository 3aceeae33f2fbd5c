use Rattle.promql_label.proofs.plain_patterns.PlainPatternsRead.{plain_pair_is_read}
use Rattle.promql_label.proofs.regex_answers.Reading.{pair_read}
use Rattle.promql_label.proofs.laws.plain_patterns_are_read.Goals as goal

pub returns : goal.returns
returns c = λ v plain. pair_read v (plain_pair_is_read v plain)
