-- What the target of a text reads otherwise (docs/reference/programs.md, "Targets").
use Rattle.std.specs.Prelude.{ℕ, ◌==◌, Bool, if◌then◌else◌, bytes_eq, codes, [], ◌∷◌, Option, None}
use Rattle.std.specs.Map.{lookup}
use Rattle.promql_text.specs.Texts.{Text}
use Rattle.promql_span.specs.ByteEscapes.{byte_escape}
use Rattle.promql_span.specs.declared.differences.Printed.TheVariants.{Layout, Nothing, SortedLayout}
use Rattle.promql_span.specs.declared.limits.Limits.{Limits}
use Rattle.promql_span.specs.declared.span.Span.{Span}
use Rattle.promql_span.specs.declared.target.Target.{Target}
use Rattle.promql_span.specs.declared.target.Target.TheVariants.{Prometheus2, Prometheus3, Rules}

abbrev pub target_named : Text → Option Target
target_named name = lookup (bytes_eq name) ((codes "prometheus-2.42", Prometheus2) ∷ (codes "prometheus-3", Prometheus3) ∷ (codes "rules", Rules) ∷ [])

abbrev pub target_numbered : ℕ → Option Target
target_numbered n = lookup (λ m. n == m) ((0, Prometheus3) ∷ (1, Rules) ∷ (2, Prometheus2) ∷ [])

-- of a matcher it reads nothing otherwise but byte escapes
abbrev pub matcher_difference : Target → Text → Option Span
matcher_difference Rules text = None
matcher_difference target text = byte_escape text

-- limits for what the rules alone read
abbrev pub for_rules : Limits → Limits
for_rules limits = record limits { target = Rules }

-- limits for a query that is checked
abbrev pub for_check : Limits → Limits
for_check limits = record limits { printed = Nothing }

-- limits for a layout, which may have its matchers in order
abbrev pub for_layout : Bool → Limits → Limits
for_layout sorts limits = record limits { printed = if sorts then SortedLayout else Layout }
