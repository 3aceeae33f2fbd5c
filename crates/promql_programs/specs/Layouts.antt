-- What is written of a query that is formatted (docs/reference/programs.md, "One query, formatted").
use Rattle.std.specs.Prelude.{◌≡◌, ◌⊎◌, ◌==◌, ◌&&◌, Bool, true, false, ◌++◌, [], ◌∷◌, if◌then◌else◌, Result, Ok, Err, codes}
use Rattle.promql_text.specs.Texts.{Text}
use Rattle.promql_query.specs.FormattedQueries.{IsFormattedQuery}
use Rattle.promql_query.specs.QueryErrors.{Then}
use Rattle.promql_query.specs.declared.query_error.QueryError.{QueryError}
use Rattle.promql_query.specs.declared.query_error.QueryError.TheVariants as error
use Rattle.promql_programs.specs.declared.format_settings.FormatSettings.{FormatSettings}

abbrev pub begins_with_feed : Text → Bool
begins_with_feed [] = false
begins_with_feed (b ∷ z) = b == 10

-- the text with line feeds for line ends as Windows has them
abbrev pub with_feeds : Text → Text
with_feeds [] = []
with_feeds (b ∷ z) = if b == 13 && begins_with_feed z then with_feeds z else b ∷ with_feeds z

-- the text is its layout, with a line feed or without; its line ends may be those of Windows
abbrev pub IsFormatted : Text → Text → Type 0
IsFormatted query layout = (with_feeds query ≡ with_feeds layout) ⊎ (with_feeds query ≡ with_feeds (layout ++ codes "\n"))

-- the layout and a line feed are written; or nothing, where the query is only compared and is its layout; or it is compared, and is another
abbrev pub IsShown : Bool → Text → Text → Result Text QueryError → Type 0
IsShown false query layout made = made ≡ Ok (layout ++ codes "\n")
IsShown true query layout (Ok answer) = IsFormatted query layout × (answer ≡ [])
IsShown true query layout (Err e) = ¬ (IsFormatted query layout) × (e ≡ error.NotItsLayout)

-- what is written of the query, or why there is none: it has no layout, or is not that
abbrev pub IsFormatAnswer : FormatSettings → Text → Result Text QueryError → Type 0
IsFormatAnswer s query = Then (IsFormattedQuery s.limits s.options query) (IsShown s.is_check query)
