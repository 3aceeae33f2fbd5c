-- A count repeats what it is after at least once.
use Rattle.std.proofs.Common.{ℕ, ◌+◌, ◌*◌, ◌≤◌, Bool, true, false, ◌==◌, cond, [], ◌∷◌, arith}
use Rattle.std.proofs.Math.Nat.{one-le-mul}
use Rattle.promql_text.specs.Texts.{Text}
use Rattle.promql_label.specs.declared.plain.After.{After}
use Rattle.promql_label.specs.declared.plain.After.TheVariants as after
use Rattle.promql_label.specs.declared.plain.Scan.{Scan}
use Rattle.promql_label.specs.PlainPatterns.{next}
use Rattle.promql_label.specs.PatternSize.{repeats_from, times}

-- ---- repetitions

some_times : (d : Bool) (n f : ℕ) → 1 ≤ f → 1 ≤ cond d ((1 + n) * f) f
some_times true n f some = one-le-mul (omega arith) some
some_times false n f some = some

times_of_some : (what : After) (b f : ℕ) → 1 ≤ f → 1 ≤ times what b f
times_of_some (after.Least n) b f some = some_times (b == 125) n f some
times_of_some (after.Comma n) b f some = some_times (b == 125) n f some
times_of_some (after.Most least n) b f some = some_times (b == 125) n f some
times_of_some _ b f some = some

pub some_repeats : (scan : Scan) (z : Text) → 1 ≤ repeats_from scan z
some_repeats scan [] = omega arith
some_repeats scan (b ∷ z) = times_of_some scan.after b (repeats_from (next scan b) z) (some_repeats (next scan b) z)
