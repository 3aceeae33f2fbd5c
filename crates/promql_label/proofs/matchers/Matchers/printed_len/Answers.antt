use Rattle.std.proofs.Common.{◌∙◌, codes, length, map, ap, sym}
use Rattle.std.specs.Prelude.{◌==◌}
use Rattle.promql_text.specs.Texts.{joined_text}
use Rattle.promql_text.specs.PrintedLen.{printed_len}
use Rattle.promql_label.specs.PlainMatchers.{group_text, matcher_text}
use Rattle.promql_label.specs.MatcherViews.{plain_matcher_of}
use Rattle.promql_label.proofs.label_lists.LabelPrintedLen.{plain_len, grouped_len}
use Rattle.promql_label.proofs.matchers.Matchers.printed_len.Goals as goal

pub returns-then-is_empty : goal.returns-then-is_empty
returns-then-is_empty c =
    plain_len (map plain_matcher_of c.args.self.now.matchers.items) c.args.self.now.or_matchers.items _
    (ap (λ gs. length gs == 0) (sym c.as_slice-groups.ensures.value) ∙ sym c.is_empty.ensures ∙ c.if-is_empty.true)
    (c.row_len.ensures ∙ ap (λ ms. printed_len (joined_text (codes ",") (map matcher_text (map plain_matcher_of ms)))) c.deref.ensures.value)

pub returns-else-is_empty : goal.returns-else-is_empty
returns-else-is_empty c =
    grouped_len (map plain_matcher_of c.args.self.now.matchers.items) c.args.self.now.or_matchers.items _
    (ap (λ gs. length gs == 0) (sym c.as_slice-groups.ensures.value) ∙ sym c.is_empty.ensures ∙ c.if-is_empty.false)
    (c.groups_len.ensures ∙ ap (λ gs. printed_len (joined_text (codes " or ") (map (λ g. group_text (map plain_matcher_of g.items)) gs))) c.as_slice-groups.ensures.value)
