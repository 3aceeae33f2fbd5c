use Rattle.std.proofs.Common.{◌-◌, ◌∙◌, ap, arith, drop, inl, length, option_map, subst, sym}
use Rattle.std.proofs.lemmas.Iterator.Consumers.{YieldsList-from_first, count_from_yields_List, nth_from_yields_List}
use Rattle.promql_span.specs.PlacedTokens.{first_span, placed_tokens}
use Rattle.promql_span.specs.TokenSpans.{IsAtTokens}
use Rattle.promql_span.specs.TokensLeft.{placed_left}
use Rattle.promql_span.proofs.OrderedTokens.{ordered, tokens_fit}
use Rattle.promql_span.proofs.TakenTokens.{none_taken, taken_first, taken_fits}
use Rattle.promql_span.proofs.TokenRows.{first_at}
use Rattle.promql_span.proofs.places.token_left.Goals as goal

pub count-requires-clause-fits : goal.count-requires-clause-fits
count-requires-clause-fits c = inl (omega (arith, tokens_fit c.args.text.now, ap length c.new.ensures))

pub span_of-requires : goal.span_of-requires
span_of-requires c =
    let xs = placed_tokens c.args.text.now in
    let found = nth_from_yields_List c.nth.result c.nth.new.self _ c.nth.ensures.ran (YieldsList-from_first (λ x. x) placed_left xs c.new-2.ensures) in
    let fits = taken_fits (length c.args.text.now) 0 xs c.saturating_sub-before.result c.in-Some.token (ordered c.args.text.now) (sym found ∙ ap (option_map (λ x. x)) c.in-Some.is) in
    omega arith

pub returns-in-Some-clause-is : goal.returns-in-Some-clause-is
returns-in-Some-clause-is c =
    let s = c.args.text.now in
    let xs = placed_tokens s in
    let count = count_from_yields_List c.new.result _ c.count.ensures.ran (YieldsList-from_first (λ x. x) placed_left xs c.new.ensures) in
    let found = nth_from_yields_List c.nth.result c.nth.new.self _ c.nth.ensures.ran (YieldsList-from_first (λ x. x) placed_left xs c.new-2.ensures) in
    c.span_of.ensures ∙ taken_first s xs c.saturating_sub-before.result c.in-Some.token (sym found ∙ ap (option_map (λ x. x)) c.in-Some.is)
    ∙ ap (λ n. first_span s (drop n xs)) (c.saturating_sub-before.ensures ∙ ap (λ n. n - c.args.left) count)

pub returns-in-Some-clause-at : goal.returns-in-Some-clause-at
returns-in-Some-clause-at c = λ left some. subst (IsAtTokens c.args.text.now) (sym (returns-in-Some-clause-is c)) (first_at c.args.text.now c.args.left left some)

pub returns-in-None-clause-is : goal.returns-in-None-clause-is
returns-in-None-clause-is c =
    let s = c.args.text.now in
    let xs = placed_tokens s in
    let count = count_from_yields_List c.new.result _ c.count.ensures.ran (YieldsList-from_first (λ x. x) placed_left xs c.new.ensures) in
    let found = nth_from_yields_List c.nth.result c.nth.new.self _ c.nth.ensures.ran (YieldsList-from_first (λ x. x) placed_left xs c.new-2.ensures) in
    c.end_of_text.ensures ∙ none_taken s xs c.saturating_sub-before.result (sym found ∙ ap (option_map (λ x. x)) c.in-None.is)
    ∙ ap (λ n. first_span s (drop n xs)) (c.saturating_sub-before.ensures ∙ ap (λ n. n - c.args.left) count)

pub returns-in-None-clause-at : goal.returns-in-None-clause-at
returns-in-None-clause-at c = λ left some. subst (IsAtTokens c.args.text.now) (sym (returns-in-None-clause-is c)) (first_at c.args.text.now c.args.left left some)
