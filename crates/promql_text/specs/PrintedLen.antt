-- How many bytes a text has, up to the greatest `usize` (docs/reference/texts.md, "Printed lengths").
use Rattle.std.specs.Prelude.{ℕ, min, length}
use Rattle.promql_text.specs.Texts.{Text}

-- the greatest `usize`
abbrev pub usize_max : ℕ
usize_max = 18446744073709551615

-- a count that stops there
abbrev pub cap_usize : ℕ → ℕ
cap_usize n = min n usize_max

abbrev pub printed_len : Text → ℕ
printed_len t = cap_usize (length t)
