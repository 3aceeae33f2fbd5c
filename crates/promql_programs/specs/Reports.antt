-- What is said of a part of a query (docs/reference/programs.md, "One query, checked").
use Rattle.std.specs.Prelude.{◌++◌, Bool, codes}
use Rattle.promql_text.specs.Texts.{Text}
use Rattle.promql_span.specs.Locations.{location_text}
use Rattle.promql_span.specs.declared.location.Location.{Location}
use Rattle.promql_span.specs.declared.span.Span.{Span}
use Rattle.promql_query.specs.Rejecting.{marked_line}
use Rattle.promql_run.specs.Colors.{marked, painted}
use Rattle.promql_run.specs.declared.colors.TheConstants.{BOLD, GREEN}

-- where it is from, the line and the column, a message, and the line of the query with its mark; the place and the mark may have colours
abbrev pub report_text : Bool → (prefix : Text) → Text → Location → Span → Text → Text
report_text colors prefix query location span message =
    painted colors BOLD.now (prefix ++ location_text location ++ codes ":") ++ codes " " ++ message ++ codes "\n" ++ marked colors GREEN.now (marked_line query span) ++ codes "\n"
