use Rattle.std.proofs.Common.{◌∙◌, sym, subst, Ok}
use Rattle.promql_label.specs.MatcherViews.{plain_matcher_of, plain_matchers_of}
use Rattle.promql_syntax.specs.MatcherItems.{AddsItem}
use Rattle.promql_syntax.proofs.building.MatcherBuilding.{joins_item, joins_none, joined_or, joined_comma}
use Rattle.promql_syntax.proofs.grammar.selector.append_item.Goals as goal

pub returns-in-Err : goal.returns-in-Err
returns-in-Err c = λ on i s same joins.
    let built = rw c.in-Err.is at (c.in_ok-matcher.ensures i same) in
    rw c.in-Ok.is (joins_none _ s i _ built.answers built.allowed built.ends)

pub returns-in_ok-push_or-in-Ok-2 : goal.returns-in_ok-push_or-in-Ok-2
returns-in_ok-push_or-in-Ok-2 c = λ on i s same joins.
    let built = rw c.in-Ok-2.is at (c.in_ok-matcher.ensures i same) in
    let before = plain_matchers_of c.in-Ok.list in
    let made = joined_or s before (plain_matcher_of c.in-Ok-2.matcher) (sym c.if-by_or.true ∙ joins) ∙ sym c.in_ok-push_or-in-Ok-2.ensures.appended in
    rw c.in-Ok.is (subst (λ cs. AddsItem (Ok before) s i (Ok cs)) made (joins_item before s i _ built.answers built.allowed built.ends))

pub returns-in_ok-push-in-Ok-2-2 : goal.returns-in_ok-push-in-Ok-2-2
returns-in_ok-push-in-Ok-2-2 c = λ on i s same joins.
    let built = rw c.in-Ok-2.is at (c.in_ok-matcher.ensures i same) in
    let before = plain_matchers_of c.in-Ok.list in
    let made = joined_comma s before (plain_matcher_of c.in-Ok-2.matcher) (sym c.if-by_or.false ∙ joins) ∙ sym c.in_ok-push-in-Ok-2-2.ensures.appended in
    rw c.in-Ok.is (subst (λ cs. AddsItem (Ok before) s i (Ok cs)) made (joins_item before s i _ built.answers built.allowed built.ends))
