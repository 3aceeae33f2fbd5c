-- What the loop over tokens has measured so far. Private: nothing rests on believing it.
use Rattle.std.specs.Prelude.{◌≡◌, ℕ, ◌-◌, ◌^◌, ◌<◌, ◌≤◌, min, List, sum, MatchOption}
use Rattle.promql_text.specs.Texts.{Text}
use Rattle.promql_span.specs.QueryLimits.{IsAtPassing}
use Rattle.promql_span.specs.declared.limits.Measured.{Measured}

-- these are the measures of the first tokens
pub record AreMeasured (s : Text) (most : ℕ) (before : List ℕ) (m : Measured) : Type 0 where
  pub size : m.size ≡ min (sum before) (2 ^ 64 - 1)
  pub passed : MatchOption m.passed (m.size ≤ most) (λ place. (most < m.size) × IsAtPassing s most place)
