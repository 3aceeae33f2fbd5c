-- The options of a check, one and its value at a time.
use Rattle.std.proofs.Common.{◌≡◌, ◌-◌, ◌≤◌, Bool, true, false, [], ◌∷◌, List, length, drop, take, map, get_or, Some, None, Global, String, string_bytes, sym, ap, ◌∙◌, arith}
use Rattle.std.specs.Prelude.{bytes_eq, codes, if◌then◌else◌, Option, option_and_then}
use Rattle.std.proofs.lemmas.List.{take_rest}
use Rattle.promql_span.specs.declared.limits.Limits.{Limits}
use Rattle.promql_programs.specs.declared.check_settings.CheckSettings.{CheckSettings}
use Rattle.promql_programs.specs.CheckSettings.{colors_when, settings_with}
use Rattle.promql_programs.specs.LimitOptions.{limits_with}

abbrev is_color : String Global → Bool
is_color name = bytes_eq (string_bytes name) (codes "--color")

-- the settings after a word `--color`, and after another one
abbrev with_color : Bool → CheckSettings → String Global → List (String Global) → Option CheckSettings
with_color usual s v words =
    option_and_then (λ colors. settings_with usual (record s { colors = colors }) (map string_bytes words)) (colors_when usual (string_bytes v))

abbrev with_limits : Bool → CheckSettings → String Global → String Global → List (String Global) → Option CheckSettings
with_limits usual s w v words =
    option_and_then (λ limits. settings_with usual (record s { limits = limits }) (map string_bytes words)) (limits_with s.limits (string_bytes w ∷ string_bytes v ∷ []))

pub color_first : (usual : Bool) (s : CheckSettings) (words : List (String Global)) (name value : String Global) (colors : Bool) → 2 ≤ length words
    → name ≡ get_or words 0 name → value ≡ get_or words 1 value → is_color name ≡ true → colors_when usual (string_bytes value) ≡ Some colors
    → settings_with usual (record s { colors = colors }) (map string_bytes (take (length words - 2) (drop 2 words))) ≡ settings_with usual s (map string_bytes words)
color_first usual s [] name value colors long first second is asks = absurd (omega (arith, long))
color_first usual s (w ∷ []) name value colors long first second is asks = absurd (omega (arith, long))
color_first usual s (w ∷ v ∷ words) name value colors long first second is asks =
    ap (λ rest. settings_with usual (record s { colors = colors }) (map string_bytes rest)) (take_rest (w ∷ v ∷ words) 2)
    ∙ sym (ap (λ b. if b then with_color usual s v words else with_limits usual s w v words) (ap is_color (sym first) ∙ is)
    ∙ ap (option_and_then (λ colors. settings_with usual (record s { colors = colors }) (map string_bytes words))) (ap (λ v. colors_when usual (string_bytes v)) (sym second) ∙ asks))

pub limits_first : (usual : Bool) (s : CheckSettings) (words : List (String Global)) (name : String Global) (limits : Limits) → 2 ≤ length words
    → name ≡ get_or words 0 name → is_color name ≡ false → limits_with s.limits (map string_bytes (take 2 words)) ≡ Some limits
    → settings_with usual (record s { limits = limits }) (map string_bytes (take (length words - 2) (drop 2 words))) ≡ settings_with usual s (map string_bytes words)
limits_first usual s [] name limits long first is asks = absurd (omega (arith, long))
limits_first usual s (w ∷ []) name limits long first is asks = absurd (omega (arith, long))
limits_first usual s (w ∷ v ∷ words) name limits long first is asks =
    ap (λ rest. settings_with usual (record s { limits = limits }) (map string_bytes rest)) (take_rest (w ∷ v ∷ words) 2)
    ∙ sym (ap (λ b. if b then with_color usual s v words else with_limits usual s w v words) (ap is_color (sym first) ∙ is)
    ∙ ap (option_and_then (λ limits. settings_with usual (record s { limits = limits }) (map string_bytes words))) asks)

-- an option that is neither
pub none_first : (usual : Bool) (s : CheckSettings) (words : List (String Global)) (name : String Global) → 2 ≤ length words
    → name ≡ get_or words 0 name → is_color name ≡ false → limits_with s.limits (map string_bytes (take 2 words)) ≡ None
    → None ≡ settings_with usual s (map string_bytes words)
none_first usual s [] name long first is asks = absurd (omega (arith, long))
none_first usual s (w ∷ []) name long first is asks = absurd (omega (arith, long))
none_first usual s (w ∷ v ∷ words) name long first is asks =
    sym (ap (λ b. if b then with_color usual s v words else with_limits usual s w v words) (ap is_color (sym first) ∙ is)
    ∙ ap (option_and_then (λ limits. settings_with usual (record s { limits = limits }) (map string_bytes words))) asks)
