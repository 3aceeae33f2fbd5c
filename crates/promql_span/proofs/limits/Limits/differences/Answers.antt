use Rattle.std.proofs.Common.{◌≡◌, ℕ, ◌+◌, List, ◌++◌, ap, sym, ◌∙◌}
use Rattle.std.specs.Prelude.{option_map, option_to_list}
use Rattle.std.specs.List.{filter_map}
use Rattle.promql_text.specs.Texts.{Text}
use Rattle.promql_token.specs.Cursor.{tokens_left}
use Rattle.promql_span.specs.Differences.{counted, difference_at, differences, kind_at, kinds, stands_for}
use Rattle.promql_span.specs.PlacedTokens.{placed_tokens}
use Rattle.promql_span.specs.declared.differences.DifferenceKind.{DifferenceKind}
use Rattle.promql_span.proofs.FoundKinds.{pushed}
use Rattle.promql_span.proofs.TakenTokens.{next_of, placed_fits}
use Rattle.promql_span.proofs.limits.Limits.differences.Goals as goal

pub push_difference-requires : goal.push_difference-requires
push_difference-requires c =
    let q = c.args.query.now in
    let n = c.loop-token.invariant.0 in
    placed_fits q n c.next-place.result (next_of (placed_tokens q) n c.next-place.result _ _ c.loop-token.invariant.2 c.next-place.ensures.steps).0

pub loop-token-preserved : goal.loop-token-preserved
loop-token-preserved c =
    let q = c.args.query.now in
    let limits = c.args.self.now in
    let n = c.loop-token.invariant.0 in
    let before = c.loop-token.before in
    let found = c.loop-token.found.items in
    let t : ℕ × Text = (c.in-Some.token.0, c.in-Some.token.1.now) in
    let left = tokens_left c.next.new.self in
    let next = next_of (placed_tokens q) n c.next-place.result _ _ c.loop-token.invariant.2 c.next-place.ensures.steps in
    let here : List (ℕ × DifferenceKind) = option_to_list (option_map (λ k. (n, k)) (counted limits (kind_at before t left))) in
    let rest : List (ℕ × DifferenceKind) = kinds limits (n + 1) (stands_for before t.0) left in
    let is : found ++ filter_map (difference_at q) (here ++ rest) ≡ differences limits q =
    ap (λ ts. found ++ filter_map (difference_at q) (kinds limits n before ts)) (sym c.in-Some.ensures.tokens) ∙ c.loop-token.invariant.1 in
    let adds : c.push_difference.new.found.items ≡ found ++ filter_map (difference_at q) here =
    c.in_ok-push_difference.ensures n next.0 ∙ ap (λ kind. found ++ filter_map (difference_at q) (option_to_list (option_map (λ k. (n, k)) kind))) c.in_ok-kind.ensures in (
      n + 1,
      ap (λ b. c.push_difference.new.found.items ++ filter_map (difference_at q) (kinds limits (n + 1) b left)) c.stands_for-before.ensures
          ∙ pushed (difference_at q) found c.push_difference.new.found.items (differences limits q) here rest is adds,
      next.1,
    )
