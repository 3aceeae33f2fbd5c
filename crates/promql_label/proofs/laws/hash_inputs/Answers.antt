use Rattle.promql_label.proofs.equality.FedMatchers.{labels_fed, matcher_fed, matchers_fed, operator_fed}
use Rattle.promql_label.proofs.laws.hash_inputs.Goals as goal

pub returns : goal.returns
returns c = record { labels = labels_fed; operators = operator_fed; matchers = matcher_fed; lists = matchers_fed }
