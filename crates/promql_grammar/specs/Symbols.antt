-- What a token is to the grammar (docs/reference/grammar.md, "Kinds of tokens").
use Rattle.std.specs.Prelude.{ℕ, Bool, true, false, ◌==◌, ◌||◌, if◌then◌else◌, List, [], ◌∷◌, slice_get}
use Rattle.std.specs.List.{list_any}
use Rattle.std.specs.Option.{unwrap_or, option_map}
use Rattle.promql_text.specs.Texts.{Text}
use Rattle.promql_token.specs.declared.ids.TheConstants.{T_ADD, T_SUB, T_LAND, T_LOR, T_LUNLESS, T_ATAN2}
use Rattle.promql_grammar.specs.declared.token_kinds.TokenKind.{TokenKind}
use Rattle.promql_grammar.specs.declared.token_kinds.TokenKind.TheVariants as kind
use Rattle.promql_grammar.specs.declared.token_kinds.TheConstants.{TOKEN_KINDS}

-- the kind of a token id, by a table in the order of the ids
abbrev pub kind_in : List (ℕ × TokenKind) → ℕ → TokenKind
kind_in table id = unwrap_or (option_map (λ row. row.1) (slice_get table id)) kind.Other

abbrev pub token_kind : ℕ → TokenKind
token_kind = kind_in TOKEN_KINDS

-- the operators that are words, and those that may be unary; for the code and for proofs
abbrev pub is_word_operator : ℕ → Bool
is_word_operator op = list_any (λ k. op == k) (T_LAND ∷ T_LOR ∷ T_LUNLESS ∷ T_ATAN2 ∷ [])

abbrev pub is_plus_or_minus : ℕ → Bool
is_plus_or_minus op = op == T_ADD || op == T_SUB

-- identifiers, and the words that may be names of metrics as well
abbrev pub may_be_name : TokenKind → Bool
may_be_name kind.Identifier = true
may_be_name kind.MetricIdentifier = true
may_be_name (kind.Operator op) = is_word_operator op
may_be_name (kind.Aggregator op) = true
may_be_name kind.By = true
may_be_name kind.Without = true
may_be_name kind.Offset = true
may_be_name kind.Start = true
may_be_name kind.End = true
may_be_name kind.Smoothed = true
may_be_name kind.Anchored = true
may_be_name _ = false

-- strings, identifiers, and the words that may be labels as well
abbrev pub may_be_label : TokenKind → Bool
may_be_label kind.String = true
may_be_label kind.MetricIdentifier = false
may_be_label kind.Bool = true
may_be_label kind.On = true
may_be_label kind.Ignoring = true
may_be_label kind.GroupLeft = true
may_be_label kind.GroupRight = true
may_be_label k = may_be_name k

-- the words that may be a function's name
abbrev pub may_be_called : TokenKind → Bool
may_be_called kind.Identifier = true
may_be_called kind.Start = true
may_be_called kind.End = true
may_be_called _ = false

-- the kinds with which an expression may begin
abbrev pub may_begin : TokenKind → Bool
may_begin kind.Number = true
may_begin kind.Duration = true
may_begin kind.String = true
may_begin kind.LeftParen = true
may_begin kind.LeftBrace = true
may_begin (kind.Operator op) = is_plus_or_minus op || is_word_operator op
may_begin k = may_be_name k

-- the kinds of punctuation: their tokens have one text each
abbrev pub is_punct : TokenKind → Bool
is_punct kind.LeftParen = true
is_punct kind.RightParen = true
is_punct kind.LeftBrace = true
is_punct kind.RightBrace = true
is_punct kind.LeftBracket = true
is_punct kind.RightBracket = true
is_punct kind.Comma = true
is_punct kind.Colon = true
is_punct kind.Equal = true
is_punct kind.EqualRegex = true
is_punct kind.NotEqualRegex = true
is_punct kind.At = true
is_punct _ = false

-- a token to the grammar: punctuation, or a word of its kind with its text
pub data Symbol : Type 0 where
  punct : TokenKind → Symbol
  word : TokenKind → Text → Symbol

-- a token is its id and its text
abbrev pub symbol_of : ℕ × Text → Symbol
symbol_of t = if is_punct (token_kind t.0) then punct (token_kind t.0) else word (token_kind t.0) t.1

-- the same of a kind and a text; for proofs
abbrev pub symbol : TokenKind → Text → Symbol
symbol k text = if is_punct k then punct k else word k text

-- whether an expression may begin with the first token
abbrev pub begins : List Symbol → Bool
begins [] = false
begins (punct k ∷ ts) = may_begin k
begins (word k text ∷ ts) = may_begin k
