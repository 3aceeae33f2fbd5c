-- Kinds of tokens by their names for people (docs/reference/grammar.md, "What is expected").
use Rattle.std.specs.Prelude.{Bool, true, false, not, ◌&&◌, ◌++◌, if◌then◌else◌, Option, Some, None, codes}
use Rattle.std.specs.List.{position_or_len}
use Rattle.std.specs.Option.{unwrap_or}
use Rattle.promql_text.specs.Texts.{Text}
use Rattle.promql_token.specs.Ids.{text_of}
use Rattle.promql_token.specs.declared.ids.TheConstants.{T_MUL}
use Rattle.promql_grammar.specs.Symbols.{may_be_label, may_begin}
use Rattle.promql_grammar.specs.contracts.token_kinds.TokenKindPartialEq.TheImpl as same
use Rattle.promql_grammar.specs.declared.token_kinds.TheConstants.{TOKEN_KINDS}
use Rattle.promql_grammar.specs.declared.token_kinds.TokenKind.{TokenKind}
use Rattle.promql_grammar.specs.declared.token_kinds.TokenKind.TheVariants as kind

abbrev pub quoted : Text → Text
quoted text = codes "\"" ++ text ++ codes "\""

-- the text of the first id of the kind
abbrev pub text_of_kind : TokenKind → Text
text_of_kind k = text_of (position_or_len (λ row. same.ghosts.eq row.1 k) TOKEN_KINDS)

-- what tokens of the kind are, where they have several texts
abbrev pub class_name : TokenKind → Option Text
class_name kind.Number = Some (codes "number")
class_name kind.Duration = Some (codes "duration")
class_name kind.String = Some (codes "string")
class_name kind.Identifier = Some (codes "identifier")
class_name kind.MetricIdentifier = Some (codes "metric name")
class_name (kind.Aggregator id) = Some (codes "aggregation")
class_name _ = None

-- that, or in quotes the one text that they have
abbrev pub kind_name : TokenKind → Text
kind_name kind.Other = codes "other token"
kind_name k = unwrap_or (class_name k) (quoted (text_of_kind k))

abbrev pub is_operator : TokenKind → Bool
is_operator (kind.Operator id) = true
is_operator _ = false

-- among the kinds that a test holds of: those with which an expression may begin have one name together, as have those that may be
-- labels, and the operators
abbrev pub name_among : (TokenKind → Bool) → TokenKind → Text
name_among has k =
    if (has kind.Number && has kind.LeftBrace) && may_begin k then codes "expression"
    else if (has kind.Identifier && not (has kind.Number)) && (not (same.ghosts.eq k kind.String) && may_be_label k) then codes "label name"
    else if has (kind.Operator T_MUL) && is_operator k then codes "operator"
    else kind_name k
