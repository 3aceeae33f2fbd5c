use Rattle.promql_rewrite.proofs.mapped.MapsSelectors.{outline_enforced, outline_renamed, selectors_enforced, selectors_renamed}
use Rattle.promql_rewrite.proofs.laws.changes_of_selectors.Goals as goal

pub returns : goal.returns
returns c = record { enforced_outline = outline_enforced; enforced = selectors_enforced; renamed_outline = outline_renamed; renamed = selectors_renamed }
