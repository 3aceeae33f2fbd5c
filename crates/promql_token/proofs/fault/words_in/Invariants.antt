use Rattle.std.proofs.Common.{◌≡◌, [], drop, map}
use Rattle.std.specs.Option.{unwrap_or}
use Rattle.promql_text.specs.Texts.{lookup}
use Rattle.promql_token.specs.contracts.fault.LexFaultKindPartialEq.TheImpl as kinds
use Rattle.promql_token.proofs.fault.words_in.Given as goal

abbrev pub invariant-loop-row : goal.invariant-loop-row
invariant-loop-row l =
    unwrap_or (lookup kinds.ghosts.eq (map (λ row. (row.0, row.1.now)) l.table) l.kind) []
    ≡ unwrap_or (lookup kinds.ghosts.eq (map (λ row. (row.0, row.1.now)) (drop l.row-index l.table)) l.kind) []
