use Rattle.std.proofs.Common.{◌∙◌, ap}
use Rattle.promql_text.specs.PrintedLen.{printed_len}
use Rattle.promql_text.proofs.writing.Joins.{join_end_of}
use Rattle.promql_text.proofs.writing.PrintedLengths.{joined_len_next}
use Rattle.promql_label.specs.NextText.{text_of}
use Rattle.promql_label.specs.PlainMatchers.{matcher_text}
use Rattle.promql_label.specs.MatcherViews.{plain_matcher_of}
use Rattle.promql_label.proofs.printed_len.row_len.Goals as goal

pub loop-i-preserved : goal.loop-i-preserved
loop-i-preserved c =
    joined_len_next text_of c.args.separator.now c.args.matchers.now c.loop-i.i c.index-matchers-i.result _ _ _ _ _ c.loop-i-test.true c.index-matchers-i.is
    c.loop-i.invariant c.separator_printed_len.ensures c.saturating_add.ensures c.matcher_len.ensures c.saturating_add-total.ensures

pub returns : goal.returns
returns c = c.loop-i.invariant ∙ ap printed_len (join_end_of matcher_text plain_matcher_of c.args.separator.now c.args.matchers.now c.loop-i.i c.loop-i-test.false)
