use Rattle.std.proofs.Common.{sym, ap, ◌∙◌, rules}
use Rattle.std.specs.Ordering.{is_lt}
use Rattle.std.proofs.lemmas.List.Sorted.{IsPartitionPoint-from_clause}
use Rattle.promql_label.specs.NextText.{is_less, row_texts, text_of}
use Rattle.promql_label.proofs.order.TextRows.{end_is, front_is, place_is, rising_is_parted}
use Rattle.promql_label.proofs.sorted.place_in.Goals as goal

pub returns-then-is_lt-clause-place : goal.returns-then-is_lt-clause-place
returns-then-is_lt-clause-place c =
    end_is (λ m. text_of m.now) c.args.row.now c.in-Some.last.now (text_of c.args.matcher.now) c.requires (search rules) (search rules)
    (ap is_lt (sym c.compare.ensures) ∙ sym c.is_lt.ensures ∙ c.if-is_lt.true)

pub returns-then-goes_first-clause-place : goal.returns-then-goes_first-clause-place
returns-then-goes_first-clause-place c = front_is (text_of c.args.matcher.now) (row_texts c.args.row.now) (c.goes_first.ensures.0 c.if-goes_first.true)

pub returns-clause-place : goal.returns-clause-place
returns-clause-place c =
    let text = text_of c.args.matcher.now in
    let row = c.args.row.now in
    let parted = rising_is_parted (λ m. text_of m.now) row text c.requires in
    let point = IsPartitionPoint-from_clause (λ m. is_less (text_of m.now) text) _ _ c.partition_point.ensures.partitioned parted (λ a r q k. search rules) in
    place_is (λ m. text_of m.now) row _ text c.partition_point.ensures.bound point.0 point.1
