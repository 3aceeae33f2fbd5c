use Rattle.std.proofs.Common.{◌≡◌, ℕ, ◌+◌, List, ◌++◌, ap, drop, map, sym, ◌∙◌}
use Rattle.std.specs.Prelude.{option_map, option_to_list}
use Rattle.promql_text.specs.Texts.{Text}
use Rattle.promql_token.specs.Cursor.{tokens_left}
use Rattle.promql_span.specs.PlacedTokens.{placed_tokens}
use Rattle.promql_span.proofs.TakenTokens.{next_of, placed_fits}
use Rattle.promql_target.specs.Areas as areas
use Rattle.promql_target.specs.Refusals.{counted, kind_at, kinds, refusal_at, refusals}
use Rattle.promql_target.specs.declared.refusal.RefusalKind.{RefusalKind}
use Rattle.promql_target.proofs.FoundRefusals.{pushed}
use Rattle.promql_target.proofs.refusal.refusals.Goals as goal

pub push_refusal-requires : goal.push_refusal-requires
push_refusal-requires c =
    let q = c.args.query.now in
    let n = c.loop-token.invariant.0 in
    placed_fits q n c.next-lexeme.result (next_of (placed_tokens q) n c.next-lexeme.result _ _ c.loop-token.invariant.2 c.next-lexeme.ensures.steps).0

pub loop-token-preserved : goal.loop-token-preserved
loop-token-preserved c =
    let q = c.args.query.now in
    let target = c.args.target in
    let n = c.loop-token.invariant.0 in
    let place = c.loop-token.place in
    let found = c.loop-token.found.items in
    let t : ℕ × Text = (c.in-Some.token.0, c.in-Some.token.1.now) in
    let left = tokens_left c.next.new.self in
    let xs = placed_tokens q in
    let next = next_of xs n c.next-lexeme.result _ _ c.loop-token.invariant.2 c.next-lexeme.ensures.steps in
    let first = next_of (drop n xs) 0 c.next-lexeme.result _ _ c.loop-token.invariant.2 c.next-lexeme.ensures.steps in
    let here : List (ℕ × RefusalKind) = option_to_list (option_map (λ k. (n, k)) (counted target (kind_at place t left))) in
    let rest : List (ℕ × RefusalKind) = kinds target (n + 1) (areas.after place t.0) left in
    let is : found ++ map (refusal_at q) (here ++ rest) ≡ refusals target q =
    ap (λ ts. found ++ map (refusal_at q) (kinds target n place ts)) (sym c.in-Some.ensures.tokens) ∙ c.loop-token.invariant.1 in
    let adds : c.push_refusal.new.found.items ≡ found ++ map (refusal_at q) here =
    c.in_ok-push_refusal.ensures n first.0 ∙ ap (λ kind. found ++ map (refusal_at q) (option_to_list (option_map (λ k. (n, k)) kind))) c.refused_kind-kind.ensures in (
      n + 1,
      ap (λ p. c.push_refusal.new.found.items ++ map (refusal_at q) (kinds target (n + 1) p left)) c.after-place.ensures
          ∙ pushed (refusal_at q) found c.push_refusal.new.found.items (refusals target q) here rest is adds,
      next.1,
    )
