-- Which kinds are punctuation, and which words may be names (docs/reference/grammar.md, "Kinds of tokens"), as lists; and the operators by
-- level (there, "Grammar"). Laws say by these what Symbols and Grammar compute.
use Rattle.std.specs.Prelude.{ℕ, List, [], ◌∷◌, ◌++◌, map}
use Rattle.promql_token.specs.declared.ids.TheConstants.{T_LOR, T_LAND, T_LUNLESS, T_EQLC, T_NEQ, T_LTE, T_LSS, T_GTE, T_GTR, T_ADD, T_SUB, T_ATAN2}
use Rattle.promql_grammar.specs.declared.token_kinds.TokenKind.{TokenKind}
use Rattle.promql_grammar.specs.declared.token_kinds.TokenKind.TheVariants.{Anchored, At, Bool, By, Colon, Comma, End, Equal, EqualRegex, GroupLeft, GroupRight, Identifier, Ignoring, LeftBrace, LeftBracket, LeftParen, NotEqualRegex, Offset, On, Operator, RightBrace, RightBracket, RightParen, Smoothed, Start, String, Without}

abbrev pub punctuation : List TokenKind
punctuation =
    LeftParen ∷ RightParen ∷ LeftBrace ∷ RightBrace ∷ LeftBracket ∷ RightBracket ∷ Comma ∷ Colon ∷ Equal ∷ EqualRegex ∷ NotEqualRegex ∷ At ∷ []

-- the operators that are words, and the keywords that may be names
abbrev pub name_words : List TokenKind
name_words = map Operator (T_LAND ∷ T_LOR ∷ T_LUNLESS ∷ T_ATAN2 ∷ []) ++ (By ∷ Without ∷ Offset ∷ Start ∷ End ∷ Smoothed ∷ Anchored ∷ [])

-- what may be a label, beside an aggregator
abbrev pub label_kinds : List TokenKind
label_kinds = String ∷ Identifier ∷ Bool ∷ On ∷ Ignoring ∷ GroupLeft ∷ GroupRight ∷ name_words

-- the operators of levels 1 to 4
abbrev pub low_levels : List (List ℕ)
low_levels = (T_LOR ∷ []) ∷ (T_LAND ∷ T_LUNLESS ∷ []) ∷ (T_EQLC ∷ T_NEQ ∷ T_LTE ∷ T_LSS ∷ T_GTE ∷ T_GTR ∷ []) ∷ (T_ADD ∷ T_SUB ∷ []) ∷ []
