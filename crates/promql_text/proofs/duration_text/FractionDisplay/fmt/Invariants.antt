use Rattle.std.proofs.Common.{◌≡◌, ◌++◌, ◌-◌, ◌^◌, ◌<◌}
use Rattle.std.specs.Fmt.{HasWritten, IsPlainFormatter}
use Rattle.promql_text.specs.Texts.{Text}
use Rattle.promql_text.specs.DurationText.{fraction_text}
use Rattle.promql_text.proofs.duration_text.FractionDisplay.fmt.Given as goal

-- what is written, and the text of the rest, are the text of all
abbrev pub invariant-loop-place : goal.invariant-loop-place
invariant-loop-place g l =
    (IsPlainFormatter l.initial.f → (bs : Text) × HasWritten g.W.Write.write_str_gives l.initial.f bs l.f × (bs ++ fraction_text (9 - l.place) l.rest ≡ fraction_text 9 l.self.nanos))
    × (l.rest < 10 ^ (9 - l.place))
