use Rattle.std.proofs.Common.{◌<◌, ◌≤◌, ◌∙◌, ap, length, slice_index_or, subst, sym}
use Rattle.std.specs.Prelude.{◌==◌}
use Rattle.promql_rewrite.proofs.enforcement.SecondMatchers.{has_second}
use Rattle.promql_rewrite.proofs.matcher_text.second_matcher.Goals as goal

pub returns-in-len2 : goal.returns-in-len2
returns-in-len2 c =
    let groups = c.as_slice.ensures.value in
    let matchers = c.as_slice-2.ensures.value in
    has_second c.args.expr.now c.in-VectorSelector.selector c.matcher-item.result c.in-VectorSelector.is
    (sym c.is_some.ensures ∙ c.if-is_some.false) (sym c.is_some-else-is_some.ensures ∙ c.if-is_some-2.false)
    (ap (λ l. length l == 0) (sym groups) ∙ sym c.is_empty.ensures ∙ c.if-not-is_empty.false)
    (subst (λ l. 2 ≤ length l) matchers c.in-len2.len_at_least) (subst (λ l. length l < 3) matchers c.in-len2.len_below)
    (c.matcher-item.is ∙ ap (λ l. slice_index_or l 1 c.matcher-item.result) matchers)
