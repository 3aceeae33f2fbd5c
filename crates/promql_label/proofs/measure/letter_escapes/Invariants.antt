use Rattle.std.proofs.Common.{◌≡◌, ◌≤◌, ◌+◌, length}
use Rattle.promql_label.specs.PatternMeasure as spec
use Rattle.promql_label.proofs.measure.letter_escapes.Given as goal

abbrev pub decreases-loop-rest : goal.decreases-loop-rest
decreases-loop-rest l = length l.rest

-- the letters so far, with those of the rest, are those of all
abbrev pub invariant-loop-rest : goal.invariant-loop-rest
invariant-loop-rest l = record {
  counted : l.letters + spec.letter_escapes l.before l.rest ≡ spec.letter_escapes 0 l.value;
  within : l.letters + length l.rest ≤ length l.value;
}
