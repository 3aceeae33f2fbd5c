use Rattle.std.proofs.Common.{◌≡◌, length, map}
use Rattle.promql_token.specs.Ids as spec
use Rattle.promql_token.specs.WordCases.{same_word}
use Rattle.promql_token.proofs.ids.lookup.Given as goal

abbrev pub invariant-loop-table : goal.invariant-loop-table
invariant-loop-table l =
    spec.lookup (same_word l.case) (map (λ k. (k.0.now, k.1)) l.table) l.word ≡ spec.lookup (same_word l.case) (map (λ k. (k.0.now, k.1)) l.initial.table) l.word

abbrev pub decreases-loop-table : goal.decreases-loop-table
decreases-loop-table l = length l.table
