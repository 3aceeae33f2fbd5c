-- Orders of times, and windows of which one has the other.
use Rattle.std.proofs.Common.{◌≡◌, refl, sym, ◌∙◌, ap, arith, ℕ, Bool, true, false, true≢false, ◌&&◌, ◌||◌, Option, Some, None}
use Rattle.std.proofs.lemmas.Bool.{and_parts}
use Rattle.std.specs.Prelude.{ℤ, int_le}
use Rattle.std.specs.Int.Signed.{◌≤ℤ◌}
use Rattle.std.proofs.Math.IntN.{pos, ◌+ℤ◌, ◌-ℤ◌}
use Rattle.promql_ast.specs.Shifts.{Shift, back, ahead, Moment, at_start, at_end, at_time}
use Rattle.promql_when.specs.Windows.{around, base, is_within, millis, moment, opening, shifted}
use Rattle.promql_when.specs.declared.times.Times.{Times}
use Rattle.promql_when.specs.declared.times.Window.{Window}

pub le_of : (a b : ℤ) → int_le a b ≡ true → a ≤ℤ b
le_of a b is = grind arith

pub of_le : (a b : ℤ) → a ≤ℤ b → int_le a b ≡ true
of_le a b is = grind arith

pub le_same : (a : ℤ) → a ≤ℤ a
le_same a = grind arith

pub le_trans : (a b c : ℤ) → a ≤ℤ b → b ≤ℤ c → a ≤ℤ c
le_trans a b c x y = grind arith

pub both_true : (a b : Bool) → a ≡ true → b ≡ true → a && b ≡ true
both_true a b x y = ap (λ c. c && b) x ∙ y

pub or_cases : (a b : Bool) (P : Type 0) → a || b ≡ true → (a ≡ true → P) → (b ≡ true → P) → P
or_cases true b P is one other = one refl
or_cases false b P is one other = other is

-- the first window lies in the second
abbrev pub IsPart : Window → Window → Type 0
IsPart v w = (w.first ≤ℤ v.first) × (v.last ≤ℤ w.last)

pub part_of_part : (u v w : Window) → IsPart u v → IsPart v w → IsPart u w
part_of_part u v w p q = (le_trans w.first v.first u.first q.0 p.0, le_trans u.last v.last w.last p.1 q.1)

pub within_part : (v w : Window) (z : ℤ) → IsPart v w → is_within v z ≡ true → is_within w z ≡ true
within_part v w z p is =
    let low = le_of v.first z (and_parts (int_le v.first z) (int_le z v.last) is).0 in
    let high = le_of z v.last (and_parts (int_le v.first z) (int_le z v.last) is).1 in
    both_true (int_le w.first z) (int_le z w.last)
    (of_le w.first z (le_trans w.first v.first z p.0 low))
    (of_le z w.last (le_trans z v.last w.last high p.1))

-- ---- what keeps that

plus_keeps : (a b : ℤ) (k : ℕ) → a ≤ℤ b → (a +ℤ pos k) ≤ℤ (b +ℤ pos k)
plus_keeps a b k is = grind arith

minus_keeps : (a b : ℤ) (k : ℕ) → a ≤ℤ b → (a -ℤ pos k) ≤ℤ (b -ℤ pos k)
minus_keeps a b k is = grind arith

shifted_keeps : (offset : Option Shift) (x y : ℤ) → x ≤ℤ y → shifted offset x ≤ℤ shifted offset y
shifted_keeps None x y is = is
shifted_keeps (Some (back n)) x y is = minus_keeps x y (millis n) is
shifted_keeps (Some (ahead n)) x y is = plus_keeps x y (millis n) is

moment_keeps : (ts : Times) (at : Option Moment) (x y : ℤ) → x ≤ℤ y → moment ts at x ≤ℤ moment ts at y
moment_keeps ts None x y is = is
moment_keeps ts (Some at_start) x y is = grind arith
moment_keeps ts (Some at_end) x y is = grind arith
moment_keeps ts (Some (at_time t)) x y is = grind arith

base_keeps : (ts : Times) (offset : Option Shift) (at : Option Moment) (x y : ℤ) → x ≤ℤ y → base ts offset at x ≤ℤ base ts offset at y
base_keeps ts offset at x y is = shifted_keeps offset (moment ts at x) (moment ts at y) (moment_keeps ts at x y is)

pub around_keeps : (ts : Times) (offset : Option Shift) (at : Option Moment) (before after : ℕ) (v w : Window) → IsPart v w
    → IsPart (around ts offset at before after v) (around ts offset at before after w)
around_keeps ts offset at before after v w p = (
  plus_keeps (base ts offset at w.first -ℤ pos before) (base ts offset at v.first -ℤ pos before) (opening ts)
      (minus_keeps (base ts offset at w.first) (base ts offset at v.first) before (base_keeps ts offset at w.first v.first p.0)),
  plus_keeps (base ts offset at v.last) (base ts offset at w.last) after (base_keeps ts offset at v.last w.last p.1),
)
