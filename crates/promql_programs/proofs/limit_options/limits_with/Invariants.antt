use Rattle.std.proofs.Common.{◌≡◌, length, map, string_bytes}
use Rattle.promql_programs.specs.LimitOptions as spec
use Rattle.promql_programs.proofs.limit_options.limits_with.Given as goal

abbrev pub decreases-loop-rest : goal.decreases-loop-rest
decreases-loop-rest l = length l.rest

-- the limits so far, as the options to come change them
abbrev pub invariant-loop-rest : goal.invariant-loop-rest
invariant-loop-rest l = spec.limits_with l.changed (map string_bytes l.rest) ≡ spec.limits_with l.fn.limits (map string_bytes l.words)
