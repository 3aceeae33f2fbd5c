use Rattle.std.proofs.Common.{◌∙◌, arith}
use Rattle.promql_token.proofs.words.WordRankTable.{word_ranks}
use Rattle.promql_token.proofs.class.word_rank.Goals as goal

pub returns : goal.returns
returns c = c.looked_up.ensures ∙ word_ranks c.args.b (omega arith)
