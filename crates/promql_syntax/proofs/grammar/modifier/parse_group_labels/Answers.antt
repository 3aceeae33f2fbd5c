use Rattle.promql_syntax.proofs.parsing.CountedTokens.{counted_if_ok}
use Rattle.promql_syntax.proofs.grammar.modifier.parse_group_labels.Goals as goal

pub returns-then-eat-clause-counts : goal.returns-then-eat-clause-counts
returns-then-eat-clause-counts c =
    counted_if_ok c.parse_label_list.result c.args.tokens.now c.eat.new.self c.parse_label_list.new.tokens c.eat.ensures.counts c.parse_label_list.ensures.counts
