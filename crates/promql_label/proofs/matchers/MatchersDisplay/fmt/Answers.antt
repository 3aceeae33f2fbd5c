use Rattle.std.proofs.Common.{◌∙◌, List, codes, map, sym, ap, Vec, Global}
use Rattle.std.proofs.Output.{has_written_styled_of_eq}
use Rattle.std.proofs.lemmas.Simd.{map-map}
use Rattle.promql_label.specs.PlainMatchers.{PlainMatcher, plain_matchers, matcher_text, matchers_text}
use Rattle.promql_label.specs.NextText.{text_of}
use Rattle.promql_label.specs.SortedTexts.{sorted_texts}
use Rattle.promql_label.specs.MatcherViews.{plain_matcher_of}
use Rattle.promql_label.specs.declared.matcher.Matcher.{Matcher}
use Rattle.promql_text.proofs.writing.AllOptions.{writes_at_plain}
use Rattle.promql_text.specs.Texts.{joined_text}
use Rattle.promql_label.proofs.readback.PrintedMatchers.{text_without_groups, text_of_groups}
use Rattle.promql_label.proofs.matchers.MatchersDisplay.fmt.Goals as goal

-- a group, as plain data
group_of : Vec Matcher Global → List PlainMatcher
group_of g = map plain_matcher_of g.items

pub returns-then-is_empty-clause-styled : goal.returns-then-is_empty-clause-styled
unfolding group_of
returns-then-is_empty-clause-styled g c = λ flush ok.
    let list = c.args.self.now in
    let none = sym c.is_empty.ensures ∙ c.if-is_empty.true in
    has_written_styled_of_eq _ _ _ _ _
    (ap (λ ms. joined_text (codes ",") (sorted_texts (map text_of ms))) c.deref.ensures.value
    ∙ ap (λ ts. joined_text (codes ",") (sorted_texts ts)) (sym (map-map matcher_text plain_matcher_of list.matchers.items))
    ∙ text_without_groups group_of (map plain_matcher_of list.matchers.items) c.as_slice-groups.result.now none
    ∙ ap (λ gs. matchers_text (plain_matchers (map plain_matcher_of list.matchers.items) (map group_of gs))) c.as_slice-groups.ensures.value)
    (c.write_sorted.ensures flush ok)

pub returns-else-is_empty-clause-styled : goal.returns-else-is_empty-clause-styled
unfolding group_of
returns-else-is_empty-clause-styled g c = λ flush ok.
    let list = c.args.self.now in
    let some = sym c.is_empty.ensures ∙ c.if-is_empty.false in
    has_written_styled_of_eq _ _ _ _ _
    (text_of_groups group_of (map plain_matcher_of list.matchers.items) c.as_slice-groups.result.now some
    ∙ ap (λ gs. matchers_text (plain_matchers (map plain_matcher_of list.matchers.items) (map group_of gs))) c.as_slice-groups.ensures.value)
    (c.write_groups.ensures flush ok)

pub returns-then-is_empty-clause-writes : goal.returns-then-is_empty-clause-writes
returns-then-is_empty-clause-writes g c = writes_at_plain g.W.Write.write_str_gives _ _ _ _ (returns-then-is_empty-clause-styled g c)

pub returns-else-is_empty-clause-writes : goal.returns-else-is_empty-clause-writes
returns-else-is_empty-clause-writes g c = writes_at_plain g.W.Write.write_str_gives _ _ _ _ (returns-else-is_empty-clause-styled g c)
