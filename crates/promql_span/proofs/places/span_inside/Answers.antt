use Rattle.std.proofs.Common.{◌≡◌, ◌∙◌, None, ap, filter, length, subst, sym}
use Rattle.promql_span.specs.PlacedTokens.{placed_tokens}
use Rattle.promql_span.specs.SpanSteps.{begins_in, cover}
use Rattle.promql_span.specs.TokensLeft.{placed_left}
use Rattle.promql_span.proofs.OrderedTokens.{AreOrdered, ordered}
use Rattle.promql_span.proofs.places.span_inside.Goals as goal

pub loop-token-init : goal.loop-token-init
loop-token-init c =
    let s = c.args.text.now in
    let all : placed_left c.into_iter-token-iterator.result ≡ placed_tokens s = ap placed_left c.into_iter-token-iterator.ensures.into_iter_gives ∙ c.new-token-items.ensures in
    (tt, tt, (0, subst (AreOrdered (length s) 0) (sym all) (ordered s)), ap (λ xs. cover None (filter (begins_in c.args.part) xs)) all)
