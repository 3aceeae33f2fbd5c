use Rattle.std.proofs.Common.{◌≡◌, ◌+◌, ◌∙◌, ◌∷◌, None, Some, ap, arith, length, subst, sym}
use Rattle.promql_span.specs.PlacedTokens.{placed_tokens}
use Rattle.promql_span.specs.SpanSteps.{cover, in_range, through}
use Rattle.promql_span.specs.TokensLeft.{placed_left}
use Rattle.promql_span.proofs.OrderedTokens.{AreOrdered, ordered, tokens_fit}
use Rattle.promql_span.proofs.TokenRanges.{begins_before, is_past, is_within}
use Rattle.promql_span.proofs.places.span_of_tokens.Goals as goal
use Rattle.promql_span.proofs.places.span_of_tokens.Goals.{then-range-index+then-index-range, else-range-index, else-range-index-via-then-range-index+else-index-range, else-range-index-via-else-range-index}

pub loop-token-init : goal.loop-token-init
loop-token-init c =
    let s = c.args.text.now in
    let all : placed_left c.into_iter-token-iterator.result ≡ placed_tokens s = ap placed_left c.into_iter-token-iterator.ensures.into_iter_gives ∙ c.new-token-items.ensures in
    (tt, tt, (0, subst (AreOrdered (length s) 0) (sym all) (ordered s)), omega (arith, ap length all), ap (λ xs. cover None (in_range c.args.range 0 xs)) all)

pub loop-token-preserved : goal.loop-token-preserved
loop-token-preserved c =
    let s = c.args.text.now in
    let so_far = c.loop-token.invariant in
    let rest = placed_left c.next.new.self in
    let steps : placed_left c.loop-token.token-iterator ≡ c.in-Some.token ∷ rest = c.in-Some.ensures.steps in
    let count = so_far.3 in
    let covered = ap (λ xs. cover c.loop-token.found (in_range c.args.range c.loop-token.index xs)) (sym steps) ∙ so_far.4 in
    let ordered = subst (AreOrdered (length s) so_far.2.0) steps so_far.2.1 in
    let next : c.saturating_add-index.result ≡ c.loop-token.index + 1 = omega (arith, c.saturating_add-index.ensures, count, ap length steps, tokens_fit s) in (
      tt,
      tt,
      (_, ordered.3),
      omega (arith, next, count, ap length steps),
      subst (λ n. cover c.if-range-index.found (in_range c.args.range n rest) ≡ cover None (in_range c.args.range 0 (placed_tokens s))) (sym next)
          (elim c.if-range-index.branch [
            | then-range-index+then-index-range w ↦
                ap (λ o. cover o (in_range c.args.range (c.loop-token.index + 1) rest)) (w.found-is ∙ ap Some (w.through.ensures ∙ ap (through c.loop-token.found) w.span_of.ensures))
                ∙ ap (cover c.loop-token.found) (sym (is_within c.args.range c.loop-token.index c.in-Some.token rest w.if-range-index.true w.if-index-range.true)) ∙ covered
            | else-range-index w ↦
                ap (λ o. cover o (in_range c.args.range (c.loop-token.index + 1) rest)) w.found-is
                ∙ (elim w.else-range-index.branch [
                  | else-range-index-via-then-range-index+else-index-range v ↦ ap (cover c.loop-token.found) (sym (is_past c.args.range c.loop-token.index c.in-Some.token rest v.if-range-index.true v.if-index-range.false)) ∙ covered
                  | else-range-index-via-else-range-index v ↦ ap (cover c.loop-token.found) (sym (begins_before c.args.range c.loop-token.index c.in-Some.token rest v.if-range-index.false)) ∙ covered
                ])
          ]),
    )
