use Rattle.std.proofs.Common.{◌∙◌, ap, subst, sym}
use Rattle.promql_span.specs.PlacedTokens.{placed_tokens}
use Rattle.promql_span.specs.TokenSpans.{IsAtTokens, span_over}
use Rattle.promql_span.proofs.Covered.{inside_is, nearest_are, outside_is}
use Rattle.promql_span.proofs.TokenRows.{chosen_at}
use Rattle.promql_span.proofs.places.span_between.Goals as goal

pub returns-in-Some-clause-is : goal.returns-in-Some-clause-is
returns-in-Some-clause-is c =
    inside_is c.args.text.now c.args.part (placed_tokens c.args.text.now) c.in-Some.span (sym c.span_inside.ensures ∙ c.in-Some.is)
    ∙ ap (span_over c.args.text.now) (nearest_are c.args.part (placed_tokens c.args.text.now))

pub returns-in-Some-clause-at : goal.returns-in-Some-clause-at
returns-in-Some-clause-at c = λ some. subst (IsAtTokens c.args.text.now) (sym (returns-in-Some-clause-is c)) (chosen_at c.args.text.now c.args.part some)

pub returns-in-None-clause-is : goal.returns-in-None-clause-is
returns-in-None-clause-is c =
    c.token_from.ensures ∙ outside_is c.args.text.now c.args.part (placed_tokens c.args.text.now) (sym c.span_inside.ensures ∙ c.in-None.is)
    ∙ ap (span_over c.args.text.now) (nearest_are c.args.part (placed_tokens c.args.text.now))

pub returns-in-None-clause-at : goal.returns-in-None-clause-at
returns-in-None-clause-at c = λ some. subst (IsAtTokens c.args.text.now) (sym (returns-in-None-clause-is c)) (chosen_at c.args.text.now c.args.part some)
