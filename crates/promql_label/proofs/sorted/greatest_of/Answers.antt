use Rattle.std.proofs.Common.{rules, sym}
use Rattle.promql_label.specs.NextText.{text_of, text_of_some}
use Rattle.promql_label.proofs.order.TextRows.{last_is}
use Rattle.promql_label.proofs.sorted.greatest_of.Goals as goal

pub returns-in-Some : goal.returns-in-Some
returns-in-Some c = sym (last_is (λ m. text_of m.now) c.args.row.now c.in-Some.greatest.now (text_of_some c.args.last) (search rules) (search rules))
