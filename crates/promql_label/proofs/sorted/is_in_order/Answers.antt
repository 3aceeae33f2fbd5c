use Rattle.std.proofs.Common.{sym, ◌∙◌, arith}
use Rattle.promql_label.specs.NextText.{text_of, text_of_some}
use Rattle.promql_label.proofs.order.PrintedTexts.{map_drop_all, map_drop_step, not_rising, rising_end, rising_step}
use Rattle.promql_label.proofs.sorted.is_in_order.Goals as goal

pub returns-then-is_below : goal.returns-then-is_below
returns-then-is_below c =
    let matcher = c.matcher-item.result in
    let next = map_drop_step text_of c.args.matchers.now c.pairs.matcher-index matcher c.pairs-test.true c.matcher-item.is in
    not_rising (text_of_some c.pairs.last) (text_of matcher) _ _ _ next (sym c.is_below.ensures ∙ c.if-is_below.true) c.pairs.invariant

pub pairs-preserved : goal.pairs-preserved
pairs-preserved c =
    let matcher = c.matcher-item.result in
    let next = map_drop_step text_of c.args.matchers.now c.pairs.matcher-index matcher c.pairs-test.true c.matcher-item.is in
    rising_step (text_of_some c.pairs.last) (text_of matcher) _ _ _ next (sym c.is_below.ensures ∙ c.if-is_below.false) c.pairs.invariant

pub returns : goal.returns
returns c =
    rising_end (text_of_some c.pairs.last) _ _ (map_drop_all text_of c.args.matchers.now c.pairs.matcher-index (omega arith)) c.pairs.invariant
