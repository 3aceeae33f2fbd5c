use Rattle.std.proofs.Common.{ℕ, ◌++◌, take}
use Rattle.promql_text.specs.Texts.{Text}
use Rattle.promql_text.specs.Rounding.{HasRead}
use Rattle.promql_text.proofs.seconds.Digits.read.Given as goal

abbrev pub invariant-loop-b : goal.invariant-loop-b
invariant-loop-b l = (n : ℕ) (ds : Text) → HasRead n ds l.fn.self → HasRead n (ds ++ take l.b-index l.digits) l.self
