-- The options of the programs, which change the limits of queries (docs/reference/programs.md, "Limits of a query").
use Rattle.std.specs.Prelude.{ℕ, ◌^◌, ◌&&◌, bytes_eq, codes, if◌then◌else◌, length, List, [], ◌∷◌, nat_lt, Option, Some, None, option_and_then, option_map}
use Rattle.std.specs.Char.{digit_value}
use Rattle.std.specs.List.{list_all}
use Rattle.std.specs.Map.{lookup}
use Rattle.std.specs.Str.Parse.{digits_value, without_leading_plus}
use Rattle.promql_text.specs.Texts.{Text}
use Rattle.promql_span.specs.Targets.{target_named}
use Rattle.promql_span.specs.declared.differences.Printed.TheVariants.{Tree}
use Rattle.promql_span.specs.declared.limits.Limits.{Limits}
use Rattle.promql_span.specs.declared.target.Target.TheVariants.{Prometheus3}

-- a whole number below 2^64, in decimal digits, after a plus or not
abbrev pub number_in : Text → Option ℕ
number_in v =
    let ds = without_leading_plus v in
    if nat_lt 0 (length ds) && (list_all (λ b. nat_lt (digit_value b) 10) ds && nat_lt (digits_value 10 ds) (2 ^ 64)) then Some (digits_value 10 ds)
    else None

abbrev pub with_number : Limits → Text → ℕ → Option Limits
with_number limits name n = lookup (bytes_eq name)
    ((codes "--max-len", record limits { max_len = n }) ∷ (codes "--max-patterns", record limits { max_pattern_size = n })
    ∷ (codes "--max-output", record limits { max_output = n }) ∷ [])

-- "Targets": a target by its name, or an option with a number
abbrev pub with_option : Limits → Text → Text → Option Limits
with_option limits name value =
    if bytes_eq name (codes "--target") then option_map (λ target. record limits { target = target }) (target_named value)
    else option_and_then (with_number limits name) (number_in value)

-- options, each with its value; the last of one name counts
abbrev pub limits_with : Limits → List Text → Option Limits
limits_with limits [] = Some limits
limits_with limits (name ∷ []) = None
limits_with limits (name ∷ value ∷ words) = option_and_then (λ changed. limits_with changed words) (with_option limits name value)

abbrev pub default_limits : Limits
default_limits = record { max_len = 32768; max_pattern_size = 16000; max_output = 4194304; target = Prometheus3; printed = Tree }
