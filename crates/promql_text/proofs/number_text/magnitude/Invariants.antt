use Rattle.std.proofs.Common.{◌≡◌, ◌<◌, ◌^◌, length, true}
use Rattle.std.specs.List.{list_all}
use Rattle.std.specs.Str.Parse.{digits_value_after, digits_value}
use Rattle.promql_text.specs.NumberText as spec
use Rattle.promql_text.proofs.number_text.magnitude.Given as goal

abbrev pub invariant-loop-c : goal.invariant-loop-c
invariant-loop-c g l =
    (digits_value_after l.fn.radix l.number (g.S.Source.left l.rest) ≡ digits_value l.fn.radix (g.S.Source.left l.fn.text))
    × (list_all (spec.is_digit_below l.fn.radix) (g.S.Source.left l.rest) ≡ true)
    × (l.number < 2 ^ 63)

abbrev pub decreases-loop-c : goal.decreases-loop-c
decreases-loop-c g l = length (g.S.Source.left l.rest)
