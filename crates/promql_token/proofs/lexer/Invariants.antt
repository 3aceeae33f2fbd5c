use Rattle.std.proofs.Common.{◌≡◌}
use Rattle.promql_token.specs.Lexing as spec
use Rattle.promql_token.specs.Scan.{items_left}
use Rattle.promql_token.proofs.lexer.Given as goal

-- the tokens so far, and those to come
abbrev pub invariant-loop-found : goal.invariant-loop-found
invariant-loop-found l =
    (goal.iterator-loop-found).can_next l.found-iterator ×
    (goal.iterator-loop-found).is_finite l.found-iterator ×
    (spec.with_front l.lexemes.items (spec.collect_items (items_left l.found-iterator)) ≡ spec.collect_items (spec.items l.s))
