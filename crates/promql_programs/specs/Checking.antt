-- What a check of a query does (docs/reference/programs.md, "One query, checked").
use Rattle.std.specs.Prelude.{◌≡◌, ◌⊎◌, ℕ, ◌++◌, Bool, false, List, Option, Some, None, encode_utf8_all}
use Rattle.std.specs.Str.{chars}
use Rattle.std.specs.Io.KnownBytes.{Appends}
use Rattle.promql_text.specs.Texts.{Text}
use Rattle.promql_span.specs.ByteEscapes.{byte_escape}
use Rattle.promql_span.specs.Locations.{location_of}
use Rattle.promql_span.specs.Visible.{visible}
use Rattle.promql_span.specs.declared.span.Span.{Span}
use Rattle.promql_span.specs.declared.limits.Limits.{Limits}
use Rattle.promql_query.specs.Rejecting.{IsMessage, IsParsed, IsRejection, reason_number}
use Rattle.promql_query.specs.declared.rejection.Rejection.{Rejection}
use Rattle.promql_run.specs.Colors.{painted}
use Rattle.promql_run.specs.Inputs.{IsInput}
use Rattle.promql_run.specs.Programs.{Reads}
use Rattle.promql_run.specs.declared.colors.TheConstants.{MAGENTA}
use Rattle.promql_run.specs.declared.ended.Ended.{Ended}
use Rattle.promql_programs.specs.Reports.{report_text}
use Rattle.promql_programs.specs.Sources.{IsQueryIn, IsTextIn}
use Rattle.promql_programs.specs.declared.check.TheConstants.{BYTE_ESCAPE, LIMIT_STATUS, OTHERWISE_STATUS, REFUSED_STATUS, REJECTED_STATUS}
use Rattle.promql_programs.specs.declared.check_settings.CheckSettings.{CheckSettings}
use Rattle.promql_programs.specs.declared.reports.TheConstants.{BYTE_ORDER_MARK, WARNING}

-- the input has a query of which this is so
abbrev pub HasQuery : (is_file : Bool) → (Text → Type 0) → Option (List ℕ) → Option (List ℕ) → Type 0
HasQuery is_file P = IsInput (λ input. (text : Text) × (query : Text) × IsTextIn is_file input text × IsQueryIn text query × P query)

-- the query is accepted, and has no byte escape
abbrev pub IsSilent : Limits → Text → Type 0
IsSilent limits query = IsParsed limits query × (byte_escape query ≡ None)

-- it is accepted, and this is the warning of its first byte escape
abbrev pub IsWarned : CheckSettings → (prefix : Text) → Text → Text → Type 0
IsWarned s prefix warning query =
    IsParsed s.limits query
    × ((span : Span) × (byte_escape query ≡ Some span)
    × (warning ≡ report_text s.colors prefix query (location_of query span.start) span (painted s.colors MAGENTA.now WARNING.now ++ BYTE_ESCAPE.now)))

-- it is rejected with this status, and this is its report, with the message as it is shown; after that a byte order mark may be named
abbrev pub IsReported : CheckSettings → (prefix : Text) → ℕ → Text → Text → Type 0
IsReported s prefix status report query =
    (r : Rejection) × IsRejection s.limits query r × (status ≡ reason_number r.reason)
    × ((message : Text) × (said : Text) × IsMessage query r message × ((said ≡ message) ⊎ (said ≡ message ++ BYTE_ORDER_MARK.now))
    × (report ≡ report_text s.colors prefix query r.location r.span (encode_utf8_all (visible (chars said)))))

-- the statuses of a query that is rejected
abbrev pub IsRejected : ℕ → Type 0
IsRejected status = (status ≡ REJECTED_STATUS) ⊎ (status ≡ LIMIT_STATUS) ⊎ (status ≡ OTHERWISE_STATUS) ⊎ (status ≡ REFUSED_STATUS)

-- where the query is accepted, nothing is said, or the warning of a byte escape; where it is rejected, its report is; else an error ends it
pub record ChecksQuery {R E : Type 0} (remaining : R → Option (List ℕ)) (said : E → Option (List ℕ)) (s : CheckSettings) (is_file : Bool) (prefix : Text)
    (reader reader_after : Ended R) (errors errors_after : Ended E) (status : ℕ) : Type 0 where
  pub reads : Reads remaining reader reader_after status
  pub accepted : status ≡ 0 → (HasQuery is_file (IsSilent s.limits) (remaining reader.inner) (remaining reader_after.inner) × (errors_after ≡ errors))
      ⊎ ((warning : Text) × HasQuery is_file (IsWarned s prefix warning) (remaining reader.inner) (remaining reader_after.inner)
      × (errors_after.failed ≡ false → Appends (said errors.inner) (said errors_after.inner) warning))
  pub rejected : IsRejected status → (report : Text)
      × HasQuery is_file (IsReported s prefix status report) (remaining reader.inner) (remaining reader_after.inner)
      × (errors_after.failed ≡ false → Appends (said errors.inner) (said errors_after.inner) report)
  pub known : (status ≡ 0) ⊎ (status ≡ 1) ⊎ (status ≡ 2) ⊎ (status ≡ 3) ⊎ IsRejected status
