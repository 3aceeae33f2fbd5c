use Rattle.promql_label.proofs.equality.SameMatchers.{matcher_Decides, matcher_hashes_alike}
use Rattle.promql_label.proofs.laws.equal_matchers.Goals as goal

pub returns : goal.returns
returns c = record { same = matcher_Decides; hashed = matcher_hashes_alike }
