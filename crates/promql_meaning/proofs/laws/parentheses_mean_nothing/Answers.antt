use Rattle.promql_meaning.proofs.SeenParens.{seen_in_parens}
use Rattle.promql_meaning.proofs.laws.parentheses_mean_nothing.Goals as goal

pub returns : goal.returns
returns c = seen_in_parens
