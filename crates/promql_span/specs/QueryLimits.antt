-- The limits of a query (docs/reference/programs.md, "Limits of a query").
use Rattle.std.specs.Prelude.{◌≡◌, ℕ, ◌+◌, ◌-◌, ◌^◌, ◌<◌, ◌≤◌, min, Bool, false, ◌&&◌, ◌||◌, ◌==◌, if◌then◌else◌, List, [], ◌∷◌, drop, length, option_map, sum, take}
use Rattle.std.specs.Option.{unwrap_or}
use Rattle.promql_text.specs.Quoting.{unquoted_text}
use Rattle.promql_text.specs.Texts.{Text}
use Rattle.promql_token.specs.Cursor.{tokens_up_to_fault}
use Rattle.promql_token.specs.declared.ids.TheConstants.{T_EQL_REGEX, T_NEQ_REGEX, T_STRING}
use Rattle.promql_label.specs.PatternMeasure.{measure}
use Rattle.promql_span.specs.PlacedTokens.{first_span, placed_tokens}
use Rattle.promql_span.specs.declared.limits.LimitFault.{LimitFault}
use Rattle.promql_span.specs.declared.limits.LimitFault.TheVariants.{Memory, TooLong, PatternsTooLarge}
use Rattle.promql_span.specs.declared.limits.Limits.{Limits}
use Rattle.promql_span.specs.declared.limits.LongOutput.{LongOutput}
use Rattle.promql_span.specs.declared.span.Span.{Span}

-- the measure of the pattern that is the value of a string; none where it has no value
abbrev pub string_measure : Text → ℕ
string_measure t = unwrap_or (option_map measure (unquoted_text t)) 0

-- of each token, where the one before the first is `=~` or `!~` or is not: a string directly after those is a pattern
abbrev pub measures : Bool → List (ℕ × Text) → List ℕ
measures after_operator [] = []
measures after_operator (t ∷ ts) =
    (if after_operator && t.0 == T_STRING then string_measure t.1 else 0) ∷ measures (t.0 == T_EQL_REGEX || t.0 == T_NEQ_REGEX) ts

abbrev pub token_measures : Text → List ℕ
token_measures s = measures false (tokens_up_to_fault s)

-- all together, at most the greatest number
abbrev pub patterns_size : Text → ℕ
patterns_size s = min (sum (token_measures s)) (2 ^ 64 - 1)

-- the token with which they are more than `most`
abbrev pub IsAtPassing : Text → ℕ → Span → Type 0
IsAtPassing s most place =
    (n : ℕ) × (sum (take n (token_measures s)) ≤ most) × (most < sum (take (n + 1) (token_measures s)))
    × (place ≡ first_span s (drop n (placed_tokens s)))

pub record IsWithin (s : Text) (limits : Limits) : Type 0 where
  pub bytes : length s ≤ limits.max_len
  pub patterns : patterns_size s ≤ limits.max_pattern_size

-- why it is not within its limits
abbrev pub IsLimitFault : Text → Limits → LimitFault → Type 0
IsLimitFault s limits Memory = Unit {0}
IsLimitFault s limits (TooLong len most) = (len ≡ length s) × (most ≡ limits.max_len) × (most < len)
IsLimitFault s limits (PatternsTooLarge size most place) =
    (length s ≤ limits.max_len) × (size ≡ patterns_size s) × (most ≡ limits.max_pattern_size) × (most < size) × IsAtPassing s most place

-- what is printed of it is too long
abbrev pub IsLongOutput : Text → Limits → LongOutput → Type 0
IsLongOutput output limits fault = (fault.len ≡ length output) × (fault.most ≡ limits.max_output) × (fault.most < fault.len)
