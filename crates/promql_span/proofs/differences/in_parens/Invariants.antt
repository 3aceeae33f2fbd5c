use Rattle.std.proofs.Common.{◌≡◌, length}
use Rattle.promql_token.specs.Cursor.{tokens_left}
use Rattle.promql_span.specs.Differences.{in_parens}
use Rattle.promql_span.proofs.differences.in_parens.Given as goal

abbrev pub decreases-loop-inner : goal.decreases-loop-inner
decreases-loop-inner l = length (tokens_left l.after)

abbrev pub invariant-loop-inner : goal.invariant-loop-inner
invariant-loop-inner l =
    (in_parens (tokens_left l.inner) ≡ in_parens (tokens_left l.tokens))
    × (tokens_left l.after ≡ tokens_left l.inner)
