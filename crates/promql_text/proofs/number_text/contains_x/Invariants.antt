use Rattle.std.proofs.Common.{◌≡◌, length}
use Rattle.std.specs.List.{list_any}
use Rattle.promql_text.specs.NumberText as spec
use Rattle.promql_text.proofs.number_text.contains_x.Given as goal

abbrev pub invariant-loop-c : goal.invariant-loop-c
invariant-loop-c g l = list_any spec.is_x (g.S.Source.left l.rest) ≡ list_any spec.is_x (g.S.Source.left l.fn.text)

abbrev pub decreases-loop-c : goal.decreases-loop-c
decreases-loop-c g l = length (g.S.Source.left l.rest)
