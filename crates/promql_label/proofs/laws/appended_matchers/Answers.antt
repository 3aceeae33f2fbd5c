use Rattle.std.proofs.Common.{refl}
use Rattle.promql_label.proofs.label_lists.Appended.{appended_last}
use Rattle.promql_label.proofs.laws.appended_matchers.Goals as goal

pub returns : goal.returns
returns c = record { grouped = appended_last; plain = λ plain m. refl }
