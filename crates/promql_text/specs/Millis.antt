-- A number of seconds as whole milliseconds (docs/reference/texts.md, "Milliseconds of a number").
use Rattle.std.specs.Prelude.{ℕ, ◌+◌, ◌-◌, ◌*◌, ◌/◌, ◌^◌, Bool, if◌then◌else◌, nat_le, ℤ, pos, neg_ℤ, Option, Some, None}
use Rattle.promql_text.specs.Numbers.{Exact}
use Rattle.promql_text.specs.declared.number.Number.{Number}
use Rattle.promql_text.specs.declared.number.Number.TheVariants.{Finite}

-- the milliseconds of a number without its sign, rounded to the nearest whole number, a half up: so a half goes away from zero
abbrev pub millis : Exact → ℕ
millis d = (2 * (d.digits * 10 ^ (d.zeros + 3)) + 10 ^ d.places) / (2 * 10 ^ d.places)

-- the whole number with this sign and size, where 64 bits hold it
abbrev pub within_i64 : Bool → ℕ → Option ℤ
within_i64 is_negative n =
    if nat_le n (if is_negative then 2 ^ 63 else 2 ^ 63 - 1) then Some (if is_negative then neg_ℤ (pos n) else pos n) else None

abbrev pub to_millis : Number → Option ℤ
to_millis (Finite d) = within_i64 d.is_negative (millis d)
to_millis _ = None
