-- Why and where a query is rejected (docs/reference/programs.md, "Errors").
use Rattle.std.specs.Prelude.{◌≡◌, ℕ, List, ◌++◌, map, MatchOption, Option, Some, None, Ok, Err, encode_utf8_all}
use Rattle.std.specs.Str.{chars}
use Rattle.promql_span.specs.Locations.{location_of}
use Rattle.promql_text.specs.Texts.{Text}
use Rattle.promql_ast.specs.Tree.{Tree}
use Rattle.promql_span.specs.ErrorPlaces.{IsPlaceOf}
use Rattle.promql_span.specs.PlacedTokens.{end_of}
use Rattle.promql_span.specs.QueryLimits.{IsLimitFault, IsWithin}
use Rattle.promql_span.specs.Differences.{difference, differences}
use Rattle.promql_span.specs.Snippets.{snippet_text}
use Rattle.promql_span.specs.Unexpected.{IsUnexpected, unexpected_text}
use Rattle.promql_span.specs.declared.unexpected.Unexpected.{Unexpected}
use Rattle.promql_span.specs.declared.limits.LimitFault.{LimitFault}
use Rattle.promql_span.specs.declared.limits.LimitFault.TheVariants.{Memory, TooLong, PatternsTooLarge}
use Rattle.promql_span.specs.declared.differences.Difference.{Difference}
use Rattle.promql_span.specs.declared.limits.Limits.{Limits}
use Rattle.promql_span.specs.declared.span.Span.{Span}
use Rattle.promql_span.specs.declared.target.Target.{Target}
use Rattle.promql_target.specs.Refusals.{refusal, refusals}
use Rattle.promql_target.specs.declared.refusal.Refusal.{Refusal}
use Rattle.promql_syntax.specs.ParseAnswers.{IsAnswerTo, plain_error_of}
use Rattle.promql_syntax.specs.declared.parser.ParseError.TheVariants.{Syntax, TooDeep}
use Rattle.promql_query.specs.declared.rejection.TheConstants.{PLAIN_SYNTAX_ERROR, TOO_MANY_LEVELS}
use Rattle.promql_query.specs.declared.findings.Finding.{Finding}
use Rattle.promql_query.specs.declared.rejection.Reason.{Reason}
use Rattle.promql_query.specs.declared.rejection.Reason.TheVariants.{Limit, Otherwise, Parse, Refused}
use Rattle.promql_query.specs.declared.rejection.Rejection.{Rejection}

-- the line of the query where the span begins, with its mark below
abbrev pub marked_line : Text → Span → Text
marked_line query span = encode_utf8_all (snippet_text (chars query) span)

abbrev pub reason_number : Reason → ℕ
reason_number (Parse e) = 4
reason_number (Limit fault) = 14
reason_number (Otherwise kind) = 23
reason_number (Refused target kind) = 24

-- a query that is too long is rejected at its end
abbrev pub limit_place : Text → LimitFault → Option Span
limit_place query Memory = None
limit_place query (TooLong len most) = Some (end_of query)
limit_place query (PatternsTooLarge size most place) = Some place

-- the query is not within its limits, or it is and the parser rejects it, or its target reads this part otherwise, or it is checked and its
-- target rejects this part; and that is the place
-- (`IsPlaceOf` gives the error Memory no part)
abbrev pub IsReason : Limits → Text → Reason → Span → Type 0
IsReason limits query (Limit fault) span = IsLimitFault query limits fault × (limit_place query fault ≡ Some span)
IsReason limits query (Otherwise kind) span =
    IsWithin query limits × ((t : Tree) × IsAnswerTo query (Ok t)) × (difference limits query ≡ Some (record { kind = kind; span = span }))
IsReason limits query (Refused target kind) span =
    IsWithin query limits × ((t : Tree) × IsAnswerTo query (Ok t)) × (difference limits query ≡ None)
    × (target ≡ limits.target) × (refusal limits query ≡ Some (record { kind = kind; span = span }))
IsReason limits query (Parse e) span = IsWithin query limits × IsAnswerTo query (Err (plain_error_of e)) × IsPlaceOf query e (Some span)

-- this is why the query is rejected, at this part of it, and where that begins
abbrev pub IsRejection : Limits → Text → Rejection → Type 0
IsRejection limits query r = IsReason limits query r.reason r.span × (r.location ≡ location_of query r.span.start)

-- this was found and expected at the place of the rejection, where it is a syntax error; of any other nothing is told
abbrev pub IsTold : Text → Rejection → Option Unexpected → Type 0
IsTold query r (Some u) = (r.reason ≡ Parse Syntax) × IsUnexpected query r.span.start u
IsTold query r None = ¬ (r.reason ≡ Parse Syntax)

-- the message for people without that; others are those of their reasons
abbrev pub IsPlainMessage : Reason → Text → Type 0
IsPlainMessage (Parse Syntax) message = message ≡ PLAIN_SYNTAX_ERROR.now
IsPlainMessage (Parse TooDeep) message = message ≡ TOO_MANY_LEVELS.now
IsPlainMessage _ message = Unit {0}

-- the message for people: what was expected where that is told, else the plain one
abbrev pub IsMessage : Text → Rejection → Text → Type 0
IsMessage query r message =
    (told : Option Unexpected) × IsTold query r told × MatchOption told (IsPlainMessage r.reason message) (λ u. message ≡ unexpected_text u)

-- the query is within its limits, its target reads no part of it otherwise, and rejects none where it is checked; and it has this tree
abbrev pub IsRead : Limits → Text → Tree → Type 0
IsRead limits query t = (IsWithin query limits × (difference limits query ≡ None) × (refusal limits query ≡ None)) × IsAnswerTo query (Ok t)

-- it has a tree
abbrev pub IsParsed : Limits → Text → Type 0
IsParsed limits query = (t : Tree) × IsRead limits query t

abbrev pub read_otherwise : Difference → Finding
read_otherwise d = record { reason = Otherwise d.kind; span = d.span }

abbrev pub refused : Target → Refusal → Finding
refused target r = record { reason = Refused target r.kind; span = r.span }

-- the parts of a query that its target reads otherwise, and those that it rejects
abbrev pub findings : Limits → Text → List Finding
findings limits query = map read_otherwise (differences limits query) ++ map (refused limits.target) (refusals limits.target query)
