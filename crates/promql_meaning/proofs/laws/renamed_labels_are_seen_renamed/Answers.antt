use Rattle.promql_meaning.proofs.SeenRenamed.{seen_renamed}
use Rattle.promql_meaning.proofs.laws.renamed_labels_are_seen_renamed.Goals as goal

pub returns : goal.returns
returns c = λ store from to t old. seen_renamed from to old store t
