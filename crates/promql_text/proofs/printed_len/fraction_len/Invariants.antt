use Rattle.std.proofs.Common.{◌≡◌, ◌+◌, ◌-◌, ◌^◌, ◌<◌, ◌≤◌, length}
use Rattle.promql_text.specs.DurationText.{fraction_text}
use Rattle.promql_text.proofs.printed_len.fraction_len.Given as goal

-- the digits so far, and those of the rest, are all
abbrev pub invariant-loop-rest : goal.invariant-loop-rest
invariant-loop-rest l = record {
  count : l.count + length (fraction_text (9 - l.count) l.rest) ≡ length (fraction_text 9 l.nanos);
  room : l.count ≤ 9;
  below : l.rest < 10 ^ (9 - l.count);
}

abbrev pub decreases-loop-rest : goal.decreases-loop-rest
decreases-loop-rest l = 9 - l.count
