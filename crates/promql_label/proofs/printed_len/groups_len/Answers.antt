use Rattle.std.proofs.Common.{◌∙◌, codes, map, ap, Vec, Global}
use Rattle.promql_text.specs.Texts.{Text, joined_text}
use Rattle.promql_text.specs.PrintedLen.{printed_len}
use Rattle.promql_text.proofs.writing.Joins.{join_end}
use Rattle.promql_text.proofs.writing.PrintedLengths.{joined_len_next}
use Rattle.promql_label.specs.PlainMatchers.{group_text, matcher_text}
use Rattle.promql_label.specs.MatcherViews.{plain_matcher_of}
use Rattle.promql_label.specs.declared.matcher.Matcher.{Matcher}
use Rattle.promql_label.proofs.printed_len.groups_len.Goals as goal

group_of : Vec Matcher Global → Text
group_of g = group_text (map plain_matcher_of g.items)

pub loop-i-preserved : goal.loop-i-preserved
unfolding group_of
loop-i-preserved c =
    joined_len_next group_of (codes " or ") c.args.groups.now c.loop-i.i c.index-groups-i.result _ _ _ _ _ c.loop-i-test.true c.index-groups-i.is
    c.loop-i.invariant c.separator_printed_len.ensures c.saturating_add.ensures
    (c.row_len.ensures ∙ ap (λ ms. printed_len (joined_text (codes ", ") (map matcher_text (map plain_matcher_of ms)))) c.deref.ensures.value) c.saturating_add-total.ensures

pub returns : goal.returns
unfolding group_of
returns c = c.loop-i.invariant ∙ ap printed_len (join_end group_of (codes " or ") c.args.groups.now c.loop-i.i c.loop-i-test.false)
