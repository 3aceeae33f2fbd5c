use Rattle.std.proofs.Common.{◌≡◌, length}
use Rattle.std.specs.List.{list_all}
use Rattle.promql_text.specs.NumberText as spec
use Rattle.promql_text.proofs.number_text.all_digits.Given as goal

abbrev pub invariant-loop-c : goal.invariant-loop-c
invariant-loop-c g l = list_all (spec.is_digit_below l.fn.radix) (g.S.Source.left l.rest) ≡ list_all (spec.is_digit_below l.fn.radix) (g.S.Source.left l.fn.text)

abbrev pub decreases-loop-c : goal.decreases-loop-c
decreases-loop-c g l = length (g.S.Source.left l.rest)
