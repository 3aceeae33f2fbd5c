-- The answer to a line, with its id.
use Rattle.std.proofs.Common.{◌≡◌, ◌++◌, ◌∙◌, None, Some, ap, codes, inl, inr, refl, subst, sym, true, false}
use Rattle.std.specs.Prelude.{ℕ, Bool, Option, option_and_then, option_map}
use Rattle.std.specs.Option.{option_map_or}
use Rattle.std.specs.Str.{IsUtf8}
use Rattle.serde_json.specs.Data.{Data, string}
use Rattle.serde_json.specs.Find.{get}
use Rattle.serde_json.specs.Read.{read}
use Rattle.serde_json.specs.Written.{compact_text}
use Rattle.promql_text.specs.Texts.{Text}
use Rattle.promql_query.specs.Batch.{HasId, IsIdOf, IsLineAnswer, IsPlainAnswer, error_value, wanted_text}
use Rattle.promql_query.specs.BatchSteps.{FailsWith}
use Rattle.promql_query.specs.QueryErrors.{query_error_number, rejected_in}
use Rattle.promql_query.specs.Requests.{matcher_in, query_in, unknown_in, value_fault, wanted_in}
use Rattle.promql_query.specs.declared.query_error.QueryError.TheVariants.{NotARequest}
use Rattle.promql_query.specs.declared.rejected_query.RejectedQuery.{RejectedQuery}
use Rattle.promql_query.specs.declared.request_fault.RequestFault.TheVariants.{NotJson}
use Rattle.promql_query.specs.declared.settings.Settings.{Settings}

-- an answer is an object
abbrev IsObject : Text → Type 0
IsObject printed = (members : Text) × (printed ≡ codes "{" ++ members)

error_value_text : (code : ℕ) (message : Text) (o : Option RejectedQuery) → IsObject (compact_text (error_value code message o))
error_value_text code message None = (_, refl)
error_value_text code message (Some r) = (_, refl)

plain_object : (settings : Settings) (line printed : Text) (is_ok : Bool) → IsPlainAnswer settings line printed is_ok → IsObject printed
plain_object settings line printed true (asked, asks, (output, has, (warning, warns, is))) =
    (codes "\"ok\":" ++ (wanted_text asked.2 output ++ (warning ++ codes "}")), is)
plain_object settings line printed false (e, fails, (message, is)) =
    let made = error_value_text (query_error_number e) message (rejected_in e) in (made.0, is ∙ made.1)

-- where the line has no id
pub without_id : (settings : Settings) (line printed : Text) (is_ok : Bool) → IsIdOf line None → IsPlainAnswer settings line printed is_ok → IsLineAnswer settings line printed is_ok
without_id settings line printed is_ok none plain =
    let whole = plain_object settings line printed is_ok plain in
    inl (whole.0, subst (λ p. IsPlainAnswer settings line p is_ok) whole.1 plain, (None, none, whole.1))

-- where it has that of its value, if there is one
pub with_its_id : (settings : Settings) (line answer printed : Text) (is_ok : Bool) (value : Data) → IsUtf8 line → read line ≡ Some value → IsPlainAnswer settings line answer is_ok
    → ((members : Text) → answer ≡ codes "{" ++ members → HasId (get (codes "id") value) members printed) → IsLineAnswer settings line printed is_ok
with_its_id settings line answer printed is_ok value utf8 is plain has =
    let whole = plain_object settings line answer is_ok plain in
    inl (whole.0, subst (λ p. IsPlainAnswer settings line p is_ok) whole.1 plain, (get (codes "id") value, inl (utf8, sym (ap (option_and_then (get (codes "id"))) is)), has whole.0 whole.1))

-- no id is in what is no JSON, nor in a query in quotes
pub none_unread : (line : Text) → IsUtf8 line → read line ≡ None → IsIdOf line None
none_unread line utf8 is = inl (utf8, sym (ap (option_and_then (get (codes "id"))) is))

pub none_in_quotes : (line query : Text) → IsUtf8 line → read line ≡ Some (string query) → IsIdOf line None
none_in_quotes line query utf8 is = inl (utf8, sym (ap (option_and_then (get (codes "id"))) is))

pub none_in_bytes : (line : Text) → ¬ IsUtf8 line → IsIdOf line None
none_in_bytes line not_utf8 = inr (not_utf8, refl)

-- what is no JSON is no request
pub unread_fails : (settings : Settings) (line : Text) → IsUtf8 line → read line ≡ None → FailsWith settings line (NotARequest NotJson)
unread_fails settings line utf8 is = inl (
  utf8,
  ap (option_and_then (λ d. option_and_then (λ query. option_map (λ m. (query, matcher_in d, m)) (wanted_in settings.format d)) (query_in d))) is,
  ap (option_and_then unknown_in) is,
  sym (ap (λ d. option_map_or (value_fault settings.format) d NotJson) is),
)
