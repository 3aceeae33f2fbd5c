use Rattle.std.proofs.Common.{◌∙◌, subst, sym}
use Rattle.promql_span.specs.PlacedTokens.{placed_tokens}
use Rattle.promql_span.specs.SpanSteps.{in_range}
use Rattle.promql_span.specs.TokenSpans.{IsAtTokens}
use Rattle.promql_span.proofs.Covered.{cover_is, cover_none, cover_some}
use Rattle.promql_span.proofs.TokenRanges.{range_row, same_range}
use Rattle.promql_span.proofs.TokenRows.{at_row}
use Rattle.promql_span.proofs.diagnosis.fault_span.Goals as goal

pub returns-in-Some-clause-at : goal.returns-in-Some-clause-at
returns-in-Some-clause-at c = λ any.
    let s = c.args.text.now in
    let found = sym c.span_of_tokens.ensures ∙ c.in-Some.is in
    let some = cover_some (in_range c.in-Tokens.range 0 (placed_tokens s)) c.in-Some.span found in
    subst (IsAtTokens s) (sym (cover_is s (in_range c.in-Tokens.range 0 (placed_tokens s)) c.in-Some.span found some)) (at_row s (in_range c.in-Tokens.range 0 (placed_tokens s)) (range_row c.in-Tokens.range (placed_tokens s) some))

pub returns-in-Some-clause-is : goal.returns-in-Some-clause-is
returns-in-Some-clause-is c = λ range same some.
    let s = c.args.text.now in
    let one = same_range c.in-Tokens.range range (sym c.in-Tokens.is ∙ same) in
    rw (sym one) (cover_is s (in_range c.in-Tokens.range 0 (placed_tokens s)) c.in-Some.span (sym c.span_of_tokens.ensures ∙ c.in-Some.is) (rw (sym one) at some))

pub returns-in-None-clause-is : goal.returns-in-None-clause-is
returns-in-None-clause-is c = λ range same some.
    let s = c.args.text.now in
    let one = same_range c.in-Tokens.range range (sym c.in-Tokens.is ∙ same) in
    absurd (cover_none (in_range c.in-Tokens.range 0 (placed_tokens s)) (sym c.span_of_tokens.ensures ∙ c.in-None.is) (rw (sym one) at some))
