-- What a check found. Private: nothing rests on believing it.
use Rattle.std.specs.Prelude.{◌≡◌, ◌⊎◌, ◌++◌, Bool, encode_utf8_all, string_bytes}
use Rattle.std.specs.Str.{chars}
use Rattle.promql_query.specs.Rejecting.{IsMessage}
use Rattle.promql_query.specs.declared.rejection.Rejection.{Rejection}
use Rattle.promql_text.specs.Texts.{Text}
use Rattle.promql_run.specs.Colors.{painted}
use Rattle.promql_run.specs.declared.colors.TheConstants.{MAGENTA}
use Rattle.promql_span.specs.Visible.{visible}
use Rattle.promql_programs.specs.Checking.{IsReported, IsSilent, IsWarned}
use Rattle.promql_programs.specs.Reports.{report_text}
use Rattle.promql_programs.specs.Sources.{IsQueryIn, IsTextIn}
use Rattle.promql_programs.specs.declared.check.TheConstants.{BYTE_ESCAPE}
use Rattle.promql_programs.specs.declared.check.Checked.{Checked}
use Rattle.promql_programs.specs.declared.check.Checked.TheVariants.{Accepted, Warned, Rejected}
use Rattle.promql_programs.specs.declared.check_settings.CheckSettings.{CheckSettings}
use Rattle.promql_programs.specs.declared.reports.TheConstants.{BYTE_ORDER_MARK, WARNING}
use Rattle.promql_programs.specs.declared.source.Source.{Source}

-- of a query
abbrev pub IsFound : CheckSettings → (prefix : Text) → Text → Checked → Type 0
IsFound s prefix query Accepted = IsSilent s.limits query
IsFound s prefix query (Warned warning) = IsWarned s prefix (string_bytes warning) query
IsFound s prefix query (Rejected status report) = IsReported s prefix status (string_bytes report) query

-- of the query of an input
abbrev pub IsChecked : CheckSettings → Source → Text → Checked → Type 0
IsChecked s source input found =
    (text : Text) × (query : Text) × IsTextIn source.is_file input text × IsQueryIn text query × IsFound s (string_bytes source.prefix) query found

-- what a warning says
abbrev pub warning_text : Bool → Text
warning_text colors = painted colors MAGENTA.now WARNING.now ++ BYTE_ESCAPE.now

-- this is the report of a rejection, with its message as it is shown; after that a byte order mark may be named
abbrev pub IsReport : Bool → (prefix : Text) → Text → Rejection → Text → Type 0
IsReport colors prefix query r report =
    (message : Text) × (said : Text) × IsMessage query r message × ((said ≡ message) ⊎ (said ≡ message ++ BYTE_ORDER_MARK.now))
    × (report ≡ report_text colors prefix query r.location r.span (encode_utf8_all (visible (chars said))))
