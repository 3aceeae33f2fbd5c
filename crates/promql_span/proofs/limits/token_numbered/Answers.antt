use Rattle.std.proofs.Common.{◌∙◌, ap, arith, length, option_map, sym}
use Rattle.std.proofs.lemmas.Iterator.Consumers.{YieldsList-from_first, nth_from_yields_List}
use Rattle.promql_span.specs.PlacedTokens.{placed_tokens}
use Rattle.promql_span.specs.TokensLeft.{placed_left}
use Rattle.promql_span.proofs.OrderedTokens.{ordered}
use Rattle.promql_span.proofs.TakenTokens.{none_taken, taken_first, taken_fits}
use Rattle.promql_span.proofs.limits.token_numbered.Goals as goal

pub span_of-requires : goal.span_of-requires
span_of-requires c =
    let xs = placed_tokens c.args.text.now in
    let found = nth_from_yields_List c.nth.result c.nth.new.self _ c.nth.ensures.ran (YieldsList-from_first (λ x. x) placed_left xs c.new.ensures) in
    let fits = taken_fits (length c.args.text.now) 0 xs c.args.index c.in-Some.token (ordered c.args.text.now) (sym found ∙ ap (option_map (λ x. x)) c.in-Some.is) in
    omega arith

pub returns-in-Some : goal.returns-in-Some
returns-in-Some c =
    let xs = placed_tokens c.args.text.now in
    let found = nth_from_yields_List c.nth.result c.nth.new.self _ c.nth.ensures.ran (YieldsList-from_first (λ x. x) placed_left xs c.new.ensures) in
    c.span_of.ensures ∙ taken_first c.args.text.now xs c.args.index c.in-Some.token (sym found ∙ ap (option_map (λ x. x)) c.in-Some.is)

pub returns-in-None : goal.returns-in-None
returns-in-None c =
    let xs = placed_tokens c.args.text.now in
    let found = nth_from_yields_List c.nth.result c.nth.new.self _ c.nth.ensures.ran (YieldsList-from_first (λ x. x) placed_left xs c.new.ensures) in
    c.end_of_text.ensures ∙ none_taken c.args.text.now xs c.args.index (sym found ∙ ap (option_map (λ x. x)) c.in-None.is)
