use Rattle.std.proofs.Common.{◌≡◌, ◌+◌, ◌≤◌, ◌∙◌, ◌++◌, [], ◌∷◌, ap, arith, drop, sym}
use Rattle.std.specs.Prelude.{sum}
use Rattle.std.proofs.lemmas.List.Sums.{sum_by_push}
use Rattle.promql_span.specs.PlacedTokens.{first_span, placed_tokens}
use Rattle.promql_span.proofs.TokenMeasures.{passing_at, unmarked}
use Rattle.promql_span.proofs.limits.Measured.add.Goals as goal

pub returns-then-self-most : goal.returns-then-self-most
returns-then-self-most c = λ before after n all index measure old.
    let s = c.args.text.now in
    let most = c.args.most in
    let total = c.saturating_add-self.ensures in
    let fits = c.ranges.most.fits in
    let more : sum (before ++ n ∷ []) ≡ sum before + n = sum_by_push (λ k. k) before n in
    let low : c.args.self.now.size ≤ most = unmarked _ c.args.self.now.passed c.if-is_none.ensures old.passed in
    let place = c.token_numbered.ensures ∙ ap (λ k. first_span s (drop k (placed_tokens s))) (sym index) in
    record {
      size = omega (arith, total, old.size, measure, more);
      passed = (
        c.if-self-most.true,
        passing_at s most before after n c.token_numbered.result all
            (omega (arith, total, old.size, measure, low, fits, c.if-self-most.true))
            (omega (arith, total, old.size, measure, c.if-self-most.true)) place,
      );
    }
