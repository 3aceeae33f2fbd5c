-- A text without a tilde has no operator before a pattern, and so no pattern.
use Rattle.std.proofs.Common.{◌≡◌, ℕ, refl, ◌∙◌, ap, Bool, true, false, true≢false, ◌||◌, ◌-◌, List, [], ◌∷◌}
use Rattle.std.specs.Prelude.{◌==◌, ◌^◌, min, sum}
use Rattle.std.specs.List.{list_any}
use Rattle.promql_text.specs.Texts.{Text, code}
use Rattle.promql_token.specs.Cursor.{tokens_up_to_fault}
use Rattle.promql_token.specs.declared.ids.TheConstants.{T_EQL_REGEX, T_NEQ_REGEX}
use Rattle.promql_span.specs.QueryLimits.{measures, patterns_size}
use Rattle.promql_span.specs.QueryMarks.{has}
use Rattle.promql_span.proofs.OperatorTokens.{OfPunctuators, needs_byte}
use Rattle.promql_span.proofs.TokensWithout.{none_such}

abbrev is_operator : ℕ → Bool
is_operator id = id == T_EQL_REGEX || id == T_NEQ_REGEX

with_tilde : OfPunctuators is_operator (code "~")
with_tilde = record {
  outside = refl;
  braces = refl;
  brackets = refl;
  word = record { keyword = refl; name = refl; metric = refl; alternative = refl };
  other = refl;
}

abbrev has_operator : List (ℕ × Text) → Bool
has_operator = list_any (λ t. is_operator t.0)

no_measures : (ts : List (ℕ × Text)) → has_operator ts ≡ false → sum (measures false ts) ≡ 0
no_measures [] none = refl
no_measures (t ∷ ts) none = go (is_operator t.0) refl none (no_measures ts)
  where
    go : (b : Bool) → is_operator t.0 ≡ b → b || has_operator ts ≡ false → (has_operator ts ≡ false → sum (measures false ts) ≡ 0)
        → sum (measures (is_operator t.0) ts) ≡ 0
    go true is none rest = absurd (true≢false none)
    go false is none rest = ap (λ b. sum (measures b ts)) is ∙ rest none

pub no_pattern_without_tilde : (s : Text) → has (code "~") s ≡ false → patterns_size s ≡ 0
no_pattern_without_tilde s miss =
    ap (λ n. min n (2 ^ 64 - 1))
    (no_measures (tokens_up_to_fault s) (none_such (λ t. is_operator t.0) (has (code "~")) (needs_byte is_operator (code "~") with_tilde) s miss))
