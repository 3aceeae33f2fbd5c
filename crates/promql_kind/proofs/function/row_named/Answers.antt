use Rattle.std.proofs.Common.{sym, ap, ◌∙◌}
use Rattle.std.proofs.lemmas.List.{drop-map}
use Rattle.std.specs.Prelude.{find}
use Rattle.promql_kind.specs.Functions.{is_named, signature}
use Rattle.promql_kind.proofs.function.row_named.Goals as goal

pub loop-row-init : goal.loop-row-init
loop-row-init c =
    sym c.requires.skipped
    ∙ ap (find (is_named c.args.name.now)) (drop-map (λ row. signature row.0.now row.1.now row.2 row.3 row.4) c.args.first c.args.rows.now)
