-- How the tokens of a selector's matchers are parsed. Private: nothing rests on believing it.
use Rattle.std.specs.Prelude.{◌≡◌, Bool, true, false, ◌==◌, if◌then◌else◌, Option, Some, None, option_map, List, ◌∷◌, Ok, Err}
use Rattle.promql_text.specs.Texts.{Text}
use Rattle.promql_token.specs.declared.ids.TheConstants.{T_LOR, T_NEQ}
use Rattle.promql_grammar.specs.declared.matcher_tokens.Item.{Item}
use Rattle.promql_grammar.specs.declared.matcher_tokens.MatchOperator.{MatchOperator}
use Rattle.promql_grammar.specs.declared.matcher_tokens.MatchOperator.TheVariants as operators
use Rattle.promql_grammar.specs.declared.token_kinds.TokenKind.{TokenKind}
use Rattle.promql_grammar.specs.declared.token_kinds.TokenKind.TheVariants as kind
use Rattle.promql_grammar.specs.Symbols.{Symbol, punct, word}
use Rattle.promql_grammar.specs.GrammarParts as part
use Rattle.promql_grammar.specs.Parsing.{Read, misfit}

-- the operator of a matcher that a token is, and what the code holds of it
abbrev pub match_operator_of : TokenKind → Text → Option part.MatchOperator
match_operator_of kind.Equal text = Some part.equal
match_operator_of kind.EqualRegex text = Some part.equal_regex
match_operator_of kind.NotEqualRegex text = Some part.not_equal_regex
match_operator_of (kind.Operator op) text = if op == T_NEQ then Some (part.not_equal text) else None
match_operator_of k text = None

abbrev pub operator_of_part : part.MatchOperator → MatchOperator
operator_of_part part.equal = operators.Equal
operator_of_part (part.not_equal text) = operators.NotEqual
operator_of_part part.equal_regex = operators.EqualRegex
operator_of_part part.not_equal_regex = operators.NotEqualRegex

-- this operator was read, or none
pub record IsMatchOperator (op : MatchOperator) (rest : List Symbol) (read : Read (Option part.MatchOperator)) : Type 0 where
  pub operator : part.MatchOperator
  pub is : read ≡ Ok (Some operator, rest)
  pub same : op ≡ operator_of_part operator

abbrev pub ParsesMatchOperator : Option MatchOperator → List Symbol → Read (Option part.MatchOperator) → Type 0
ParsesMatchOperator (Some op) rest read = IsMatchOperator op rest read
ParsesMatchOperator None rest read = read ≡ Ok (None, rest)

-- what building needs of a matcher's tokens: kind and text of its name, its operator, and the text of its value
abbrev pub Parts : Type 0
Parts = TokenKind × Text × Option (MatchOperator × Text)

abbrev pub item_parts : part.Item → Parts
item_parts (part.matcher quoted t s v) = (part.name_kind quoted, t, Some (operator_of_part s, v))
item_parts (part.lone t) = (kind.String, t, None)

abbrev pub parts_of : Item → Parts
parts_of item = (item.kind, item.name.now, option_map (λ x. (x.0, x.1.now)) item.value)

pub record ParsesItem (item : Item) (rest : List Symbol) (read : Read part.Item) : Type 0 where
  pub part : part.Item
  pub is : read ≡ Ok (part, rest)
  pub same : parts_of item ≡ item_parts part

-- what follows a matcher: the end, a comma and the end, or the separator before the next
pub data ItemEnd : Type 0 where
  closes : ItemEnd
  comma_closes : ItemEnd
  joins : part.Separator → ItemEnd

abbrev pub parse_item_end : List Symbol → Read ItemEnd
parse_item_end (punct kind.RightBrace ∷ ts) = Ok (closes, ts)
parse_item_end (punct kind.Comma ∷ (punct kind.RightBrace ∷ ts)) = Ok (comma_closes, ts)
parse_item_end (punct kind.Comma ∷ ts) = Ok (joins None, ts)
parse_item_end (word (kind.Operator op) t ∷ ts) = if op == T_LOR then Ok (joins (Some t), ts) else Err (misfit (word (kind.Operator op) t ∷ ts))
parse_item_end ts = Err (misfit ts)

abbrev pub is_or : part.Separator → Bool
is_or None = false
is_or (Some text) = true

-- whether the next matcher begins a group, where there is a next one
abbrev pub next_group : ItemEnd → Option Bool
next_group closes = None
next_group comma_closes = None
next_group (joins s) = Some (is_or s)

pub record ParsesItemEnd (next : Option Bool) (rest : List Symbol) (read : Read ItemEnd) : Type 0 where
  pub end : ItemEnd
  pub is : read ≡ Ok (end, rest)
  pub same : next ≡ next_group end
