use Rattle.std.proofs.Common.{◌≡◌, ◌<◌, drop}
use Rattle.std.specs.Str.Parse.{AllDigits, digits_value, digits_value_after}
use Rattle.promql_text.proofs.duration.short_count.Given as goal

-- what was read is digits, and their number goes on with what is left
abbrev pub invariant-loop-b : goal.invariant-loop-b
invariant-loop-b l =
    (AllDigits 10 (drop l.b-index l.digits) → AllDigits 10 l.digits)
    × (digits_value_after 10 l.count (drop l.b-index l.digits) ≡ digits_value 10 l.digits)
    × (l.count < 1_000_000_000)
