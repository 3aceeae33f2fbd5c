-- The tables of the page, as it has them (docs/reference/tokens.md, "Ids", "Keywords", "Faults"): a table in the code with another row more or
-- less, in another place or with other words differs.
use Rattle.std.specs.Prelude.{ℕ, List, [], ◌∷◌, codes}
use Rattle.promql_text.specs.Texts.{Text}
use Rattle.promql_token.specs.declared.fault.LexFaultKind.{LexFaultKind}
use Rattle.promql_token.specs.declared.fault.LexFaultKind.TheVariants as fault
use Rattle.promql_token.specs.declared.ids.TheConstants.{T_ADD, T_AGGREGATORS_END, T_AGGREGATORS_START, T_ANCHORED, T_AT, T_ATAN2, T_AVG, T_BLANK, T_BOOL, T_BOTTOMK, T_BY, T_CLOSE_HIST, T_COLON, T_COMMA, T_COMMENT, T_COUNT, T_COUNT_VALUES, T_DIV, T_DURATION, T_END, T_EOF, T_EQL, T_EQLC, T_EQL_REGEX, T_ERROR, T_FILL, T_FILL_LEFT, T_FILL_RIGHT, T_GROUP, T_GROUP_LEFT, T_GROUP_RIGHT, T_GTE, T_GTR, T_IDENTIFIER, T_IGNORING, T_KEYWORDS_END, T_KEYWORDS_START, T_LAND, T_LEFT_BRACE, T_LEFT_BRACKET, T_LEFT_PAREN, T_LIMITK, T_LIMIT_RATIO, T_LOR, T_LSS, T_LTE, T_LUNLESS, T_MAX, T_METRIC_IDENTIFIER, T_MIN, T_MOD, T_MUL, T_NEQ, T_NEQ_REGEX, T_NUMBER, T_OFFSET, T_ON, T_OPEN_HIST, T_OPERATORS_END, T_OPERATORS_START, T_POW, T_PREPROCESSOR_END, T_PREPROCESSOR_START, T_QUANTILE, T_RIGHT_BRACE, T_RIGHT_BRACKET, T_RIGHT_PAREN, T_SEMICOLON, T_SMOOTHED, T_SPACE, T_START, T_STARTSYMBOLS_END, T_STARTSYMBOLS_START, T_START_EXPRESSION, T_START_METRIC, T_START_METRIC_SELECTOR, T_START_SERIES_DESCRIPTION, T_STDDEV, T_STDVAR, T_STEP, T_STRING, T_SUB, T_SUM, T_TIMES, T_TOPK, T_WITHOUT}

-- the constants, in the order of their ids from 0 on, and the texts of these ids
abbrev pub texts : List (ℕ × Text)
texts =
    (T_EQL, codes "=") ∷ (T_BLANK, codes "_") ∷ (T_COLON, codes ":") ∷ (T_COMMA, codes ",") ∷ (T_COMMENT, codes "#") ∷
    (T_DURATION, codes "[du]") ∷ (T_EOF, codes "<eof>") ∷ (T_ERROR, codes "{Err}") ∷ (T_IDENTIFIER, codes "{ID}") ∷
    (T_LEFT_BRACE, codes "{") ∷ (T_LEFT_BRACKET, codes "[") ∷ (T_LEFT_PAREN, codes "(") ∷ (T_OPEN_HIST, codes "{{") ∷
    (T_CLOSE_HIST, codes "}}") ∷ (T_METRIC_IDENTIFIER, codes "{Metric_ID}") ∷ (T_NUMBER, codes "{Num}") ∷ (T_RIGHT_BRACE, codes "}") ∷
    (T_RIGHT_BRACKET, codes "]") ∷ (T_RIGHT_PAREN, codes ")") ∷ (T_SEMICOLON, codes ",") ∷ (T_SPACE, codes "<space>") ∷
    (T_STRING, codes "{Str}") ∷ (T_TIMES, codes "x") ∷ (T_OPERATORS_START, codes "operators_start") ∷ (T_ADD, codes "+") ∷
    (T_DIV, codes "/") ∷ (T_EQLC, codes "==") ∷ (T_EQL_REGEX, codes "=~") ∷ (T_GTE, codes ">=") ∷ (T_GTR, codes ">") ∷
    (T_LAND, codes "and") ∷ (T_LOR, codes "or") ∷ (T_LSS, codes "<") ∷ (T_LTE, codes "<=") ∷ (T_LUNLESS, codes "unless") ∷
    (T_MOD, codes "%") ∷ (T_MUL, codes "*") ∷ (T_NEQ, codes "!=") ∷ (T_NEQ_REGEX, codes "!~") ∷ (T_POW, codes "^") ∷ (T_SUB, codes "-") ∷
    (T_AT, codes "@") ∷ (T_ATAN2, codes "atan2") ∷ (T_OPERATORS_END, codes "operators_end") ∷
    (T_AGGREGATORS_START, codes "aggregators_start") ∷ (T_AVG, codes "avg") ∷ (T_BOTTOMK, codes "bottomk") ∷ (T_COUNT, codes "count") ∷
    (T_COUNT_VALUES, codes "count_values") ∷ (T_GROUP, codes "group") ∷ (T_MAX, codes "max") ∷ (T_MIN, codes "min") ∷
    (T_QUANTILE, codes "quantile") ∷ (T_STDDEV, codes "stddev") ∷ (T_STDVAR, codes "stdvar") ∷ (T_SUM, codes "sum") ∷
    (T_TOPK, codes "topk") ∷ (T_LIMITK, codes "limitk") ∷ (T_LIMIT_RATIO, codes "limit_ratio") ∷
    (T_AGGREGATORS_END, codes "aggregators_end") ∷ (T_KEYWORDS_START, codes "keywords_start") ∷ (T_BOOL, codes "bool") ∷
    (T_BY, codes "by") ∷ (T_GROUP_LEFT, codes "group_left") ∷ (T_GROUP_RIGHT, codes "group_right") ∷ (T_IGNORING, codes "ignoring") ∷
    (T_OFFSET, codes "offset") ∷ (T_SMOOTHED, codes "smoothed") ∷ (T_ANCHORED, codes "anchored") ∷ (T_ON, codes "on") ∷
    (T_WITHOUT, codes "without") ∷ (T_FILL, codes "fill") ∷ (T_FILL_LEFT, codes "fill_left") ∷ (T_FILL_RIGHT, codes "fill_right") ∷
    (T_KEYWORDS_END, codes "keywords_end") ∷ (T_PREPROCESSOR_START, codes "preprocessor_start") ∷ (T_START, codes "start") ∷
    (T_END, codes "end") ∷ (T_STEP, codes "step") ∷ (T_PREPROCESSOR_END, codes "preprocessors_end") ∷
    (T_STARTSYMBOLS_START, codes "not used") ∷ (T_START_METRIC, codes "not used") ∷ (T_START_SERIES_DESCRIPTION, codes "not used") ∷
    (T_START_EXPRESSION, codes "not used") ∷ (T_START_METRIC_SELECTOR, codes "not used") ∷ (T_STARTSYMBOLS_END, codes "not used") ∷ []

-- the words that are keywords and their ids, by first letter
abbrev pub keywords : List (Text × ℕ)
keywords =
    (codes "and", T_LAND) ∷ (codes "avg", T_AVG) ∷ (codes "atan2", T_ATAN2) ∷ (codes "anchored", T_ANCHORED) ∷ (codes "by", T_BY) ∷
    (codes "bool", T_BOOL) ∷ (codes "bottomk", T_BOTTOMK) ∷ (codes "count", T_COUNT) ∷ (codes "count_values", T_COUNT_VALUES) ∷
    (codes "end", T_END) ∷ (codes "fill", T_FILL) ∷ (codes "fill_left", T_FILL_LEFT) ∷ (codes "fill_right", T_FILL_RIGHT) ∷
    (codes "group_left", T_GROUP_LEFT) ∷ (codes "group_right", T_GROUP_RIGHT) ∷ (codes "group", T_GROUP) ∷ (codes "inf", T_NUMBER) ∷
    (codes "ignoring", T_IGNORING) ∷ (codes "limitk", T_LIMITK) ∷ (codes "limit_ratio", T_LIMIT_RATIO) ∷ (codes "max", T_MAX) ∷
    (codes "min", T_MIN) ∷ (codes "nan", T_NUMBER) ∷ (codes "on", T_ON) ∷ (codes "or", T_LOR) ∷ (codes "offset", T_OFFSET) ∷
    (codes "quantile", T_QUANTILE) ∷ (codes "sum", T_SUM) ∷ (codes "start", T_START) ∷ (codes "stddev", T_STDDEV) ∷
    (codes "stdvar", T_STDVAR) ∷ (codes "smoothed", T_SMOOTHED) ∷ (codes "topk", T_TOPK) ∷ (codes "unless", T_LUNLESS) ∷
    (codes "without", T_WITHOUT) ∷ []

-- the words of the faults: what a message has before the character, or the whole message
abbrev pub messages : List (LexFaultKind × Text)
messages =
    (fault.UnclosedParen, codes "unclosed left parenthesis") ∷
    (fault.AfterEqual, codes "unexpected character after '=': '~'") ∷
    (fault.AfterBang, codes "unexpected character after '!': '") ∷
    (fault.BangAtEnd, codes "'!' can not be at the end") ∷
    (fault.AfterDot, codes "unexpected character after '.': '") ∷
    (fault.DotAtEnd, codes "unexpected character: '.'") ∷
    (fault.RightParen, codes "unexpected right parenthesis ')'") ∷
    (fault.RightBrace, codes "unexpected right brace '}'") ∷
    (fault.RightBracket, codes "unexpected right bracket ']'") ∷
    (fault.Character, codes "unexpected character: '") ∷
    (fault.Numeral, codes "bad number or duration syntax") ∷
    (fault.Escape, codes "unknown escape sequence '") ∷
    (fault.EscapeAtEnd, codes "escape sequence not terminated") ∷
    (fault.OpenString, codes "unterminated quoted string ") ∷
    (fault.AfterBangInBraces, codes "unexpected character after '!' inside braces: '") ∷
    (fault.BraceInBraces, codes "unexpected left brace '{' inside braces") ∷
    (fault.InBraces, codes "unexpected character inside braces: '") ∷
    (fault.EndInBraces, codes "unexpected end of input inside braces") ∷
    (fault.SecondColon, codes "unexpected second colon(:) in brackets") ∷
    (fault.FirstColon, codes "expect duration before first colon(:) in brackets") ∷
    (fault.BracketInBrackets, codes "unexpected left brace '[' inside brackets") ∷
    (fault.InBrackets, codes "unexpected character inside brackets: '") ∷
    (fault.EndInBrackets, codes "unexpected end of input inside brackets") ∷
    []
