use Rattle.std.proofs.Common.{◌≡◌, drop, map}
use Rattle.std.specs.Prelude.{find}
use Rattle.promql_kind.specs.Functions.{is_named, signature}
use Rattle.promql_kind.proofs.function.row_named.Given as goal

abbrev pub invariant-loop-row : goal.invariant-loop-row
invariant-loop-row l =
    find (is_named l.name) (map (λ row. signature row.0.now row.1.now row.2 row.3 row.4) l.rows)
    ≡ find (is_named l.name) (map (λ row. signature row.0.now row.1.now row.2 row.3 row.4) (drop l.row-index (drop l.first l.rows)))
