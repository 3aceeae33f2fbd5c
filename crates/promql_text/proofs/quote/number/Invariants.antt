use Rattle.std.proofs.Common.{◌≡◌, ◌+◌, ◌-◌, ◌*◌, ◌^◌, ◌≤◌, length, drop}
use Rattle.std.specs.Str.Iter.{chars_rest}
use Rattle.promql_text.specs.Quoting.{number}
use Rattle.promql_text.proofs.quote.number.Given as goal

-- the digits that are left complete the number, and there is room for them
abbrev pub invariant-loop-i : goal.invariant-loop-i
invariant-loop-i l =
    (number l.base (l.count - l.i) l.value (chars_rest l.rest) ≡ number l.base l.count l.start (chars_rest l.fn.rest))
    × (drop (l.count - l.i) (chars_rest l.rest) ≡ drop l.count (chars_rest l.fn.rest))
    × ((l.value + 1) * l.base ^ (l.count - l.i) ≤ 2 ^ 32)
    × (length (chars_rest l.rest) ≤ length (chars_rest l.fn.rest))
