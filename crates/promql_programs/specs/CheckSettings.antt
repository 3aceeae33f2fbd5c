-- The options of the program that checks a query (docs/reference/programs.md, "One query, checked").
use Rattle.std.specs.Prelude.{Bool, true, false, bytes_eq, codes, if◌then◌else◌, List, [], ◌∷◌, Option, Some, None, option_and_then}
use Rattle.std.specs.Map.{lookup}
use Rattle.promql_text.specs.Texts.{Text}
use Rattle.promql_span.specs.Targets.{for_check}
use Rattle.promql_programs.specs.LimitOptions.{default_limits, limits_with}
use Rattle.promql_programs.specs.declared.check_settings.CheckSettings.{CheckSettings}

-- whether WHEN asks for colours, where `auto` means this
abbrev pub colors_when : Bool → Text → Option Bool
colors_when usual word = lookup (bytes_eq word) ((codes "auto", usual) ∷ (codes "always", true) ∷ (codes "never", false) ∷ [])

-- options, those of the limits and `--color WHEN`; the last of one name counts
abbrev pub settings_with : Bool → CheckSettings → List Text → Option CheckSettings
settings_with usual s [] = Some s
settings_with usual s (name ∷ []) = None
settings_with usual s (name ∷ value ∷ words) =
    if bytes_eq name (codes "--color") then option_and_then (λ colors. settings_with usual (record s { colors = colors }) words) (colors_when usual value)
    else option_and_then (λ limits. settings_with usual (record s { limits = limits }) words) (limits_with s.limits (name ∷ value ∷ []))

abbrev pub check_settings_of : Bool → List Text → Option CheckSettings
check_settings_of usual = settings_with usual (record { limits = for_check default_limits; colors = usual })
