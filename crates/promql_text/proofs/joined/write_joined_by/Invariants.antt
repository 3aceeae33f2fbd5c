use Rattle.std.proofs.Common.{take}
use Rattle.std.specs.Fmt.{HasWritten, HasWrittenStyled, IsFlush, IsPlainFormatter, WritesOnOk, WritesStyledOnOk}
use Rattle.std.specs.List.{join_by}
use Rattle.promql_text.specs.JoinedWrites.{WritesBy}
use Rattle.promql_text.specs.Texts.{Text}
use Rattle.promql_text.proofs.joined.write_joined_by.Given as goal

abbrev pub invariant-loop-i : goal.invariant-loop-i
invariant-loop-i g l =
    ((text : g.row.T.Denot → Text) → WritesBy (WritesOnOk g.W.Write.write_str_gives) (goal.F-post g l.write) text → IsPlainFormatter l.initial.f
    → HasWritten g.W.Write.write_str_gives l.initial.f (join_by text l.separator (take l.i l.items)) l.f)
    × ((text : g.row.T.Denot → Text) → WritesBy (WritesStyledOnOk g.W.Write.write_str_gives) (goal.F-post g l.write) text → IsFlush l.initial.f
    → HasWrittenStyled g.W.Write.write_str_gives l.initial.f (join_by text l.separator (take l.i l.items)) l.f)
