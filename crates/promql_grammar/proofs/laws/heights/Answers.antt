use Rattle.promql_grammar.proofs.Sound.{height_yield}
use Rattle.promql_grammar.proofs.laws.heights.Goals as goal

pub returns : goal.returns
returns c = height_yield
