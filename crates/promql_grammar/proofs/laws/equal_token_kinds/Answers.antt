use Rattle.promql_grammar.proofs.SameTokenKinds.{kind_Decides}
use Rattle.promql_grammar.proofs.laws.equal_token_kinds.Goals as goal

pub returns : goal.returns
returns c = kind_Decides
