use Rattle.std.proofs.Common.{◌≡◌, drop}
use Rattle.std.specs.List.{list_all}
use Rattle.promql_text.specs.NumberText as spec
use Rattle.promql_text.proofs.number_text.is_visible.Given as goal

abbrev pub invariant-loop-b : goal.invariant-loop-b
invariant-loop-b l = list_all spec.is_visible l.text ≡ list_all spec.is_visible (drop l.b-index l.text)
