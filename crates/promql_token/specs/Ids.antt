-- Ids of tokens: their texts, the keywords and the classes (docs/reference/tokens.md, "Ids").
use Rattle.std.specs.Prelude.{ℕ, Bool, ◌&&◌, ◌==◌, nat_lt, List, [], ◌∷◌, codes, map, slice_get, Option}
use Rattle.std.specs.List.{list_any}
use Rattle.std.specs.Option.{unwrap_or}
use Rattle.std.specs.Str.{bytes_eq, str_eq_ignore_ascii_case}
use Rattle.promql_token.specs.declared.ids.TheConstants.{TEXTS, KEYWORDS, T_AGGREGATORS_END, T_AGGREGATORS_START, T_BOTTOMK, T_COUNT_VALUES, T_EQLC, T_GTE, T_GTR, T_LAND, T_LIMITK, T_LIMIT_RATIO, T_LOR, T_LSS, T_LTE, T_LUNLESS, T_NEQ, T_OPERATORS_END, T_OPERATORS_START, T_QUANTILE, T_TOPK}
use Rattle.promql_text.specs.Texts.{Text}
pub use Rattle.promql_text.specs.Texts.{lookup}

-- the text that an id prints as
abbrev pub text_of : ℕ → Text
text_of id = unwrap_or (slice_get (map (λ row. row.1.now) TEXTS) id) (codes "unknown token")

-- the words that are keywords, and their ids
abbrev pub keywords : List (Text × ℕ)
keywords = map (λ k. (k.0.now, k.1)) KEYWORDS

-- the keyword that a word is, in lower case
unfoldable pub keyword : Text → Option ℕ
keyword = lookup bytes_eq keywords

-- the keyword that a word is in any case of its letters
unfoldable pub keyword_in_any_case : Text → Option ℕ
keyword_in_any_case = lookup str_eq_ignore_ascii_case keywords

-- ---- classes

abbrev pub is_operator : ℕ → Bool
is_operator id = nat_lt T_OPERATORS_START id && nat_lt id T_OPERATORS_END

abbrev pub is_aggregator : ℕ → Bool
is_aggregator id = nat_lt T_AGGREGATORS_START id && nat_lt id T_AGGREGATORS_END

-- whether it is one of them
abbrev pub is_one_of : List ℕ → ℕ → Bool
is_one_of ids id = list_any (λ k. id == k) ids

abbrev pub is_aggregator_with_param : ℕ → Bool
is_aggregator_with_param = is_one_of (T_TOPK ∷ T_BOTTOMK ∷ T_COUNT_VALUES ∷ T_QUANTILE ∷ T_LIMITK ∷ T_LIMIT_RATIO ∷ [])

abbrev pub is_comparison_operator : ℕ → Bool
is_comparison_operator = is_one_of (T_EQLC ∷ T_NEQ ∷ T_LTE ∷ T_LSS ∷ T_GTE ∷ T_GTR ∷ [])

abbrev pub is_set_operator : ℕ → Bool
is_set_operator = is_one_of (T_LAND ∷ T_LOR ∷ T_LUNLESS ∷ [])
