use Rattle.std.proofs.Common.{◌∙◌, sym}
use Rattle.std.proofs.lemmas.Iterator.Consumers.{YieldsList-from_first, nth_from_yields_List}
use Rattle.promql_span.specs.PlacedTokens.{placed_tokens}
use Rattle.promql_span.specs.TokensLeft.{placed_left}
use Rattle.promql_span.proofs.TakenTokens.{map_same, placed_fits}
use Rattle.promql_span.proofs.differences.difference_at.Goals as goal

pub difference_of-requires : goal.difference_of-requires
difference_of-requires c =
    let xs = placed_tokens c.args.text.now in
    let found = nth_from_yields_List c.nth.result c.nth.new.self _ c.nth.ensures.ran (YieldsList-from_first (λ x. x) placed_left xs c.new.ensures) in
    placed_fits c.args.text.now c.args.index c.nth.result (sym (map_same c.nth.result) ∙ found)

pub returns : goal.returns
returns c =
    let xs = placed_tokens c.args.text.now in
    let found = nth_from_yields_List c.nth.result c.nth.new.self _ c.nth.ensures.ran (YieldsList-from_first (λ x. x) placed_left xs c.new.ensures) in
    c.difference_of.ensures c.args.index (sym (map_same c.nth.result) ∙ found)
