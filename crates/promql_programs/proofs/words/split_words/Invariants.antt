use Rattle.std.proofs.Common.{◌≡◌, false, length, map, string_bytes}
use Rattle.promql_programs.specs.Words.{split}
use Rattle.promql_programs.proofs.SplitWords.{joined}
use Rattle.promql_programs.proofs.words.split_words.Given as goal

abbrev pub decreases-loop-rest : goal.decreases-loop-rest
decreases-loop-rest l = length l.rest

-- the words so far, and what is made of those that are left
abbrev pub invariant-loop-rest : goal.invariant-loop-rest
invariant-loop-rest l =
    joined (map string_bytes l.options.items) (map string_bytes l.operands.items) (split l.is_value (map string_bytes l.rest)) ≡ split false (map string_bytes l.fn.words)
