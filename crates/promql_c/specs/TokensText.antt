-- The text of the tokens of any text (docs/guide/bindings.md, "Tokens").
use Rattle.std.specs.Prelude.{◌≡◌, ◌⊎◌, ℕ, ◌+◌, ◌<◌, ◌≤◌, ◌&&◌, ◌||◌, ◌==◌, nat_lt, if◌then◌else◌, List, [], ◌∷◌, codes, length, map, None, Result, Ok, Err}
use Rattle.serde_json.specs.Data.{Data, number, string, unsigned}
use Rattle.serde_json.specs.Written.{compact_text}
use Rattle.promql_text.specs.Texts.{Text}
use Rattle.promql_token.specs.Ids.{is_aggregator, is_operator}
use Rattle.promql_token.specs.TextTokens.{AreTextTokens}
use Rattle.promql_token.specs.declared.ids.TheConstants.{T_COMMENT, T_DURATION, T_EQL, T_ERROR, T_IDENTIFIER, T_KEYWORDS_START, T_METRIC_IDENTIFIER, T_NUMBER, T_PREPROCESSOR_END, T_STRING}
use Rattle.promql_token.specs.declared.lexeme.Lexeme.{Lexeme}
use Rattle.promql_json.specs.JsonParts.{list}
use Rattle.promql_span.specs.declared.limits.Limits.{Limits}
use Rattle.promql_query.specs.QueryErrors.{ReadsQuery}
use Rattle.promql_query.specs.declared.query_error.QueryError.{QueryError}
use Rattle.promql_query.specs.declared.query_error.QueryError.TheVariants as error

-- what kind of token an id is of
abbrev pub kind_name : ℕ → Text
kind_name id =
    if id == T_COMMENT then codes "comment"
    else (if id == T_ERROR then codes "error"
    else (if id == T_NUMBER then codes "number"
    else (if id == T_DURATION then codes "duration"
    else (if id == T_STRING then codes "string"
    else (if id == T_IDENTIFIER || id == T_METRIC_IDENTIFIER then codes "name"
    else (if is_aggregator id then codes "aggregator"
    else (if id == T_EQL || is_operator id then codes "operator"
    else (if nat_lt T_KEYWORDS_START id && nat_lt id T_PREPROCESSOR_END then codes "keyword" else codes "punctuation"))))))))

-- its kind, and the numbers of the bytes from and up to which it goes
abbrev pub token_value : Lexeme → Data
token_value x = list (string (kind_name x.id) ∷ number (unsigned x.start) ∷ number (unsigned (x.start + x.len)) ∷ [])

-- the tokens of a text, accepted or not, in their order
abbrev pub IsTokensText : Text → Text → Type 0
IsTokensText s text = (xs : List Lexeme) × AreTextTokens s xs × (text ≡ compact_text (list (map token_value xs)))

-- of a text that is no longer than a query may be; a longer one is rejected as a query is
abbrev pub GivesTokens : Limits → Text → Result Text QueryError → Type 0
GivesTokens limits s (Ok text) = (length s ≤ limits.max_len) × IsTokensText s text
GivesTokens limits s (Err e) = ((limits.max_len < length s) × ReadsQuery (λ r. r.expectation ≡ None) limits s (Err e)) ⊎ (e ≡ error.Memory)
