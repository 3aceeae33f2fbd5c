use Rattle.std.proofs.Common.{◌≡◌, ◌+◌, ◌<◌, ◌^◌, length}
use Rattle.promql_grammar.specs.SymbolsLeft.{symbols_left}
use Rattle.promql_grammar.proofs.tokens.Tokens.count.Given as goal

-- those that were counted and those that are left
abbrev pub invariant-loop-rest : goal.invariant-loop-rest
invariant-loop-rest l = length (symbols_left l.fn.self) < 2 ^ 64 → l.count + length (symbols_left l.rest) ≡ length (symbols_left l.fn.self)

abbrev pub decreases-loop-rest : goal.decreases-loop-rest
decreases-loop-rest l = length (symbols_left l.rest)
