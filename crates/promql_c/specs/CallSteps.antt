-- What is made of a query and the bytes of a matcher. Private: nothing rests on believing it.
use Rattle.std.specs.Prelude.{◌≡◌, ◌⊎◌, Result, Err}
use Rattle.std.specs.Str.{IsUtf8}
use Rattle.promql_text.specs.Texts.{Text}
use Rattle.promql_span.specs.declared.limits.Limits.{Limits}
use Rattle.promql_rewrite.specs.declared.matcher_text.MatcherError.TheVariants as matcher_error
use Rattle.promql_query.specs.EnforcedLines.{IsEnforcedLine}
use Rattle.promql_query.specs.QueryErrors.{OfTree}
use Rattle.promql_query.specs.declared.query_error.QueryError.{QueryError}
use Rattle.promql_query.specs.declared.query_error.QueryError.TheVariants as error

-- the line with the matcher in every selector
abbrev pub EnforcesBytes : Limits → Text → Text → Result Text QueryError → Type 0
EnforcesBytes limits query matcher made =
    (IsUtf8 matcher × IsEnforcedLine limits query matcher made)
    ⊎ ((¬ IsUtf8 matcher) × OfTree limits query (λ t made. made ≡ Err (error.Matcher matcher_error.NotAMatcher)) made)
