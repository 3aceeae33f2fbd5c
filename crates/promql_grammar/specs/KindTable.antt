-- The kinds of the ids, as the page has them (docs/reference/grammar.md, "Kinds of tokens").
use Rattle.std.specs.Prelude.{List, [], ◌∷◌}
use Rattle.promql_token.specs.declared.ids.TheConstants.{T_ADD, T_DIV, T_EQLC, T_GTE, T_GTR, T_LAND, T_LOR, T_LSS, T_LTE, T_LUNLESS, T_MOD, T_MUL, T_NEQ, T_POW, T_SUB, T_ATAN2, T_AVG, T_BOTTOMK, T_COUNT, T_COUNT_VALUES, T_GROUP, T_MAX, T_MIN, T_QUANTILE, T_STDDEV, T_STDVAR, T_SUM, T_TOPK, T_LIMITK, T_LIMIT_RATIO}
use Rattle.promql_grammar.specs.declared.token_kinds.TokenKind.{TokenKind}
use Rattle.promql_grammar.specs.declared.token_kinds.TokenKind.TheVariants.{Aggregator, Anchored, At, Bool, By, Colon, Comma, Duration, End, Equal, EqualRegex, Fill, FillLeft, FillRight, GroupLeft, GroupRight, Identifier, Ignoring, LeftBrace, LeftBracket, LeftParen, MetricIdentifier, NotEqualRegex, Number, Offset, On, Operator, Other, RightBrace, RightBracket, RightParen, Smoothed, Start, String, Without}

-- from id 0 on
abbrev pub kinds : List TokenKind
kinds =
    Equal ∷ Other ∷ Colon ∷ Comma ∷ Other ∷ Duration ∷ Other ∷ Other ∷ Identifier ∷ LeftBrace ∷ LeftBracket ∷ LeftParen ∷ Other ∷ Other ∷
    MetricIdentifier ∷ Number ∷ RightBrace ∷ RightBracket ∷ RightParen ∷ Other ∷ Other ∷ String ∷ Other ∷ Other ∷ Operator T_ADD ∷
    Operator T_DIV ∷ Operator T_EQLC ∷ EqualRegex ∷ Operator T_GTE ∷ Operator T_GTR ∷ Operator T_LAND ∷ Operator T_LOR ∷ Operator T_LSS ∷
    Operator T_LTE ∷ Operator T_LUNLESS ∷ Operator T_MOD ∷ Operator T_MUL ∷ Operator T_NEQ ∷ NotEqualRegex ∷ Operator T_POW ∷
    Operator T_SUB ∷ At ∷ Operator T_ATAN2 ∷ Other ∷ Other ∷ Aggregator T_AVG ∷ Aggregator T_BOTTOMK ∷ Aggregator T_COUNT ∷
    Aggregator T_COUNT_VALUES ∷ Aggregator T_GROUP ∷ Aggregator T_MAX ∷ Aggregator T_MIN ∷ Aggregator T_QUANTILE ∷ Aggregator T_STDDEV ∷
    Aggregator T_STDVAR ∷ Aggregator T_SUM ∷ Aggregator T_TOPK ∷ Aggregator T_LIMITK ∷ Aggregator T_LIMIT_RATIO ∷ Other ∷ Other ∷ Bool ∷
    By ∷ GroupLeft ∷ GroupRight ∷ Ignoring ∷ Offset ∷ Smoothed ∷ Anchored ∷ On ∷ Without ∷ Fill ∷ FillLeft ∷ FillRight ∷ Other ∷ Other ∷
    Start ∷ End ∷ Other ∷ Other ∷ Other ∷ Other ∷ Other ∷ Other ∷ Other ∷ Other ∷ []
