-- The times of a query, and windows of samples (docs/reference/when.md, "Times" and "Windows").
use Rattle.std.specs.Prelude.{ℕ, zero, suc, ℤ, ◌+◌, ◌*◌, ◌/◌, ◌≡◌, max, unsigned_abs, Bool, ◌&&◌, if◌then◌else◌, List, [], ◌∷◌, Option, Some, None, int_le}
use Rattle.std.specs.Int.{int_div_euclid, int_gap}
use Rattle.std.specs.Int.Signed.{◌≤ℤ◌}
use Rattle.std.specs.Option.{option_map_or}
use Rattle.std.proofs.Math.IntN.{pos, neg_ℤ, ◌+ℤ◌, ◌-ℤ◌, ◌*ℤ◌}
use Rattle.promql_ast.specs.Shifts.{Shift, back, ahead, Moment, at_start, at_end, at_time}
use Rattle.promql_ast.specs.declared.range_mode.RangeMode.{RangeMode}
use Rattle.promql_ast.specs.declared.range_mode.RangeMode.TheVariants.{Plain, Smoothed, Anchored}
use Rattle.promql_when.specs.declared.times.Times.{Times}
use Rattle.promql_when.specs.declared.times.Window.{Window}

-- the whole milliseconds of a length of time
abbrev pub millis : ℕ → ℕ
millis nanos = nanos / 1000000

-- ---- the times at which a query is evaluated

-- a step of none counts as one millisecond
abbrev pub IsAsked : Times → ℤ → Type 0
IsAsked ts x = (k : ℕ) × (x ≡ ts.start +ℤ pos (k * max ts.step 1)) × (x ≤ℤ ts.end)

-- the last of them
abbrev pub last_time : Times → ℤ
last_time ts = ts.start +ℤ pos (unsigned_abs (ts.end -ℤ ts.start) / max ts.step 1 * max ts.step 1)

-- from the first through the last; there is none where the end is before the start
abbrev pub asked : Times → Option Window
asked ts = if int_le ts.start ts.end then Some (record { first = ts.start; last = last_time ts }) else None

-- ---- from where is looked back

abbrev pub shifted : Option Shift → ℤ → ℤ
shifted None x = x
shifted (Some (back nanos)) x = x -ℤ pos (millis nanos)
shifted (Some (ahead nanos)) x = x +ℤ pos (millis nanos)

-- `@` names a moment that does not depend on the time of evaluation
abbrev pub moment : Times → Option Moment → ℤ → ℤ
moment ts None x = x
moment ts (Some at_start) x = ts.start
moment ts (Some at_end) x = ts.end
moment ts (Some (at_time t)) x = t

-- from where a selector or a subquery looks back, evaluated at a time
abbrev pub base : Times → Option Shift → Option Moment → ℤ → ℤ
base ts offset at x = shifted offset (moment ts at x)

-- ---- windows

abbrev pub instant : ℤ → Window
instant x = record { first = x; last = x }

abbrev pub is_within : Window → ℤ → Bool
is_within w x = int_le w.first x && int_le x w.last

-- what is left out at the beginning of a window
abbrev pub opening : Times → ℕ
opening ts = if ts.is_left_open then 1 else 0

-- looking so far back and so far ahead, from all times of a window
abbrev pub around : Times → Option Shift → Option Moment → ℕ → ℕ → Window → Window
around ts offset at before after w = record {
  first = (base ts offset at w.first -ℤ pos before) +ℤ pos (opening ts);
  last = base ts offset at w.last +ℤ pos after;
}

-- `anchored` takes the last sample before the range, too, and `smoothed` also the first one after it
abbrev pub before_range : Times → RangeMode → ℕ
before_range ts Plain = 0
before_range ts Anchored = ts.lookback
before_range ts Smoothed = ts.lookback

abbrev pub after_range : Times → RangeMode → ℕ
after_range ts Smoothed = ts.lookback
after_range ts mode = 0

-- the samples of a selector, evaluated at all times of a window
abbrev pub vector_window : Times → Option Shift → Option Moment → Window → Window
vector_window ts offset at = around ts offset at ts.lookback 0

abbrev pub matrix_window : Times → Option Shift → Option Moment → ℕ → RangeMode → Window → Window
matrix_window ts offset at range mode = around ts offset at (millis range + before_range ts mode) (after_range ts mode)

-- ---- the times of a subquery: the multiples of its step

abbrev pub step_of : Times → Option ℕ → ℕ
step_of ts step = option_map_or millis step ts.default_step

-- where they lie
abbrev pub subquery_window : Times → Option Shift → Option Moment → ℕ → Window → Window
subquery_window ts offset at range = around ts offset at (millis range) 0

-- the greatest multiple that is not above, and the least that is not below
abbrev pub floor_to : ℕ → ℤ → ℤ
floor_to step x = int_div_euclid x (pos step) *ℤ pos step

abbrev pub ceil_to : ℕ → ℤ → ℤ
ceil_to step x = neg_ℤ (floor_to step (neg_ℤ x))

abbrev pub from : ℤ → ℕ → ℕ → List ℤ
from x step zero = []
from x step (suc n) = x ∷ from (x +ℤ pos step) step n

-- all in a window; a step of no millisecond has none
abbrev pub multiples_in : ℕ → Window → List ℤ
multiples_in zero w = []
multiples_in (suc n) w = let x = ceil_to (suc n) w.first in
    if int_le x w.last then from x (suc n) (suc (int_gap x w.last / suc n)) else []

-- from the first through the last of them
abbrev pub narrowed : ℕ → Window → Option Window
narrowed zero w = None
narrowed (suc n) w =
    if int_le (ceil_to (suc n) w.first) (floor_to (suc n) w.last) then Some (record { first = ceil_to (suc n) w.first; last = floor_to (suc n) w.last })
    else None

-- ---- 64 bits

abbrev pub is_time : ℤ → Bool
is_time x = int_le (neg_ℤ (pos 9223372036854775808)) x && int_le x (pos 9223372036854775807)

abbrev pub is_fitting : Window → Bool
is_fitting w = is_time w.first && is_time w.last
