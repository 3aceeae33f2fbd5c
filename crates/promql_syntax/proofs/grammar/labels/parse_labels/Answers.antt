use Rattle.promql_syntax.proofs.parsing.CountedTokens.{counted_if_ok}
use Rattle.promql_syntax.proofs.grammar.labels.parse_labels.Goals as goal

pub returns-clause-counts : goal.returns-clause-counts
returns-clause-counts c =
    counted_if_ok c.parse_label_list.result c.args.tokens.now c.expect.new.self c.parse_label_list.new.tokens c.expect.ensures.counts c.parse_label_list.ensures.counts
