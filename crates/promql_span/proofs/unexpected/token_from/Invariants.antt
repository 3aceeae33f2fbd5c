use Rattle.std.proofs.Common.{◌≡◌, filter, nat_le, option_map}
use Rattle.std.specs.Prelude.{slice_get}
use Rattle.promql_grammar.specs.Symbols.{token_kind}
use Rattle.promql_token.specs.Cursor.{tokens_left}
use Rattle.promql_token.specs.Lexing.{slice_texts}
use Rattle.promql_span.specs.TokensLeft.{placed_left}
use Rattle.promql_span.specs.Unexpected.{found_at}
use Rattle.promql_span.proofs.unexpected.token_from.Given as goal

-- the tokens to come are those of both, and the first from `at` on is among them
abbrev pub invariant-loop-place : goal.invariant-loop-place
invariant-loop-place l =
    (tokens_left l.tokens ≡ slice_texts l.text (placed_left l.place-iterator)) ×
    (option_map (λ t. (token_kind t.0, t.1)) (slice_get (slice_texts l.text (filter (λ x. nat_le l.at x.start) (placed_left l.place-iterator))) 0) ≡ found_at l.text l.at)
