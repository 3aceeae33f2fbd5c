use Rattle.std.proofs.Common.{◌≡◌, length, map, string_bytes}
use Rattle.promql_programs.specs.FormatSettings as spec
use Rattle.promql_programs.proofs.format_settings.settings_with.Given as goal

abbrev pub decreases-loop-rest : goal.decreases-loop-rest
decreases-loop-rest l = length l.rest

-- the settings so far, as the options to come change them
abbrev pub invariant-loop-rest : goal.invariant-loop-rest
invariant-loop-rest l = spec.settings_with l.changed (map string_bytes l.rest) ≡ spec.settings_with l.fn.settings (map string_bytes l.words)
