use Rattle.promql_grammar.proofs.Unique.{one_derivation}
use Rattle.promql_grammar.proofs.laws.one_tree.Goals as goal

pub returns : goal.returns
returns c = one_derivation
