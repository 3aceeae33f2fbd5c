use Rattle.promql_rewrite.proofs.enforcement.EnforcedSelectors.{selects_enforced}
use Rattle.promql_rewrite.proofs.laws.enforced_selectors_select.Goals as goal

pub returns : goal.returns
returns c = selects_enforced
