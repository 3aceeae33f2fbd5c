use Rattle.std.proofs.Common.{◌-◌, length, take, arith}
use Rattle.promql_label.proofs.order.TextRows.{last_set}
use Rattle.promql_label.proofs.sorted.put.Goals as goal

pub returns : goal.returns
returns c =
    c.last_to.ensures (take (length c.args.row.now - 1) c.args.row.now) c.args.matcher (last_set c.args.row.now c.args.matcher (omega (arith, c.requires)))
