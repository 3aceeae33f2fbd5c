use Rattle.std.proofs.Common.{◌≡◌, ◌↔◌, ◌∙◌, not, IsTrue, Some, ap, subst, sym, rules}
use Rattle.std.specs.Ordering.{is_lt}
use Rattle.promql_label.specs.NextText.{Follows, is_less, row_texts, text_of}
use Rattle.promql_label.proofs.order.TextRows.{first_goes, none_goes}
use Rattle.promql_label.proofs.sorted.goes_first.Goals as goal

pub returns-in-Some : goal.returns-in-Some
returns-in-Some c =
    let text = text_of c.args.matcher.now in
    let row = c.args.row.now in
    let first = c.in-Some.first.now in
    let less : c.is_lt.result ≡ is_less (text_of first.now) text = c.is_lt.ensures ∙ ap is_lt c.compare.ensures in
    subst (λ b. IsTrue (not b) ↔ Follows (Some text) (row_texts row)) (sym less) (first_goes (λ m. text_of m.now) row first text c.requires (search rules) (search rules))

pub returns-in-None : goal.returns-in-None
returns-in-None c = none_goes (λ m. text_of m.now) c.args.row.now (text_of c.args.matcher.now) (search rules)
