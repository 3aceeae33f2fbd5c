use Rattle.std.proofs.Common.{◌≡◌, List, ◌++◌}
use Rattle.serde_json.proofs.Views.{Entry}
use Rattle.promql_c.proofs.SeriesLabels.{AreLabels}
use Rattle.promql_c.proofs.reading.labels_of.Given as goal

abbrev pub invariant-loop-name : goal.invariant-loop-name
invariant-loop-name l = (done : List Entry) × (l.members.entries ≡ done ++ l.name-iterator) × AreLabels done l.labels.items
