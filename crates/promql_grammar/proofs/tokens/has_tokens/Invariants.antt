use Rattle.std.proofs.Common.{◌≡◌}
use Rattle.promql_token.specs.Lexing.{collect_items, items}
use Rattle.promql_token.specs.Scan.{items_left}
use Rattle.promql_grammar.proofs.Listing.{any_token, or_any}
use Rattle.promql_grammar.proofs.tokens.has_tokens.Given as goal

-- the tokens so far, and those to come
abbrev pub invariant-loop-found : goal.invariant-loop-found
invariant-loop-found l =
    (goal.iterator-loop-found).can_next l.found-iterator ×
    (goal.iterator-loop-found).is_finite l.found-iterator ×
    (or_any l.some (any_token (collect_items (items_left l.found-iterator))) ≡ any_token (collect_items (items l.text)))
