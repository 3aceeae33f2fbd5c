-- The layout of a query for people (docs/reference/formatting.md, "What is promised").
use Rattle.std.specs.Prelude.{◌≡◌, ◌⊎◌, if◌then◌else◌, Result}
use Rattle.promql_text.specs.Texts.{Text}
use Rattle.promql_formatter.specs.Formats.{IsLayoutOf}
use Rattle.promql_formatter.specs.Options.{IsTooLong, IsTooWide}
use Rattle.promql_formatter.specs.declared.options.FormatOptions.{FormatOptions}
use Rattle.promql_formatter.specs.declared.options.WideOption.{WideOption}
use Rattle.promql_span.specs.Targets.{for_layout, for_rules}
use Rattle.promql_span.specs.declared.limits.Limits.{Limits}
use Rattle.promql_span.specs.declared.limits.LongOutput.{LongOutput}
use Rattle.promql_query.specs.QueryErrors.{Gives, OfTree}
use Rattle.promql_query.specs.declared.query_error.QueryError.{QueryError}
use Rattle.promql_query.specs.declared.query_error.QueryError.TheVariants as error

-- none that reads back was made, or it would be too long, or an option asks for more than it may
abbrev pub HasNoLayout : FormatOptions → QueryError → Type 0
HasNoLayout options e =
    (e ≡ error.NotFormatted)
    ⊎ ((long : LongOutput) × IsTooLong options long × (e ≡ error.LongOutput long))
    ⊎ ((wide : WideOption) × IsTooWide options wide × (e ≡ error.WideLayout wide))

-- a layout that keeps what is written is read as the query is
abbrev pub layout_limits : FormatOptions → Limits → Limits
layout_limits options limits = if options.keep_spelling then for_rules limits else for_layout options.sort_matchers limits

-- a layout of the query, which has its tree and its comments; or why there is none
abbrev pub IsFormattedQuery : Limits → FormatOptions → Text → Result Text QueryError → Type 0
IsFormattedQuery limits options query = OfTree (layout_limits options limits) query (λ t. Gives (IsLayoutOf options query) (HasNoLayout options))
