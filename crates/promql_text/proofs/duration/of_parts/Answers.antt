use Rattle.std.proofs.Common.{ℕ, Result, sym, subst, ◌∙◌}
use Rattle.promql_text.specs.DurationReaders.{GivesDuration}
use Rattle.promql_text.specs.Durations.{units, parts_nanos}
use Rattle.promql_text.specs.declared.duration.DurationFault.{DurationFault}
use Rattle.promql_text.proofs.durations.SaturatingParts.{parts_read, parts_none}
use Rattle.promql_text.proofs.duration.of_parts.Goals as goal

pub returns-in-Some : goal.returns-in-Some
returns-in-Some c =
    let s = c.args.text.now in
    let P : Result ℕ DurationFault → Type 0 = λ said. GivesDuration c.in_range.result said in
    subst P (sym (parts_read s (parts_nanos units s) c.in-Some.nanos (sym c.parts.ensures ∙ c.in-Some.is))) c.in_range.ensures

pub returns-in-None : goal.returns-in-None
returns-in-None c = parts_none (parts_nanos units c.args.text.now) (sym c.parts.ensures ∙ c.in-None.is)
