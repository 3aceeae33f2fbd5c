use Rattle.promql_meaning.proofs.SeenAtHome.{seen_at_home}
use Rattle.promql_meaning.proofs.laws.enforcing_changes_nothing_at_home.Goals as goal

pub returns : goal.returns
returns c = λ s c t h. seen_at_home c s t h
