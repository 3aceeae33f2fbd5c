use Rattle.std.proofs.Common.{◌≡◌, length, map, string_bytes}
use Rattle.promql_programs.specs.CheckSettings as spec
use Rattle.promql_programs.proofs.check_settings.settings_with.Given as goal

abbrev pub decreases-loop-rest : goal.decreases-loop-rest
decreases-loop-rest l = length l.rest

-- the settings so far, as the options to come change them
abbrev pub invariant-loop-rest : goal.invariant-loop-rest
invariant-loop-rest l = spec.settings_with l.usual l.changed (map string_bytes l.rest) ≡ spec.settings_with l.fn.usual l.fn.settings (map string_bytes l.words)
