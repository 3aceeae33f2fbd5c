-- What the parser's functions for parts take from the tokens. Private: nothing rests on believing it.
use Rattle.std.specs.Prelude.{◌≡◌, Bool, true, false, ◌==◌, if◌then◌else◌, Option, Some, None, IfSome, List, [], ◌∷◌, Ok, Err}
use Rattle.std.specs.Option.{option_map_or}
use Rattle.promql_text.specs.Texts.{Text}
use Rattle.promql_token.specs.declared.ids.TheConstants.{T_ADD, T_SUB}
use Rattle.promql_grammar.specs.declared.token_kinds.TokenKind.{TokenKind}
use Rattle.promql_grammar.specs.declared.token_kinds.TokenKind.TheVariants as kind
use Rattle.promql_grammar.specs.Results.{◌then◌}
use Rattle.promql_grammar.specs.Symbols.{Symbol, punct, word, may_be_label}
use Rattle.promql_grammar.specs.GrammarParts as part
use Rattle.promql_grammar.specs.GrammarParts.{is_minus}
use Rattle.promql_grammar.specs.Grammar.{Arguments, yield_arguments}
use Rattle.promql_grammar.specs.Parsing.{Read, eat_sign, misfit, parse_number, parse_time}

-- the tokens of a flag, and of the step of a subquery, if there is one
abbrev pub yield_flag : Option Text → List Symbol
yield_flag flag = option_map_or (λ text. word kind.Bool text ∷ []) flag []

abbrev pub yield_step : Option part.Time → List Symbol
yield_step step = option_map_or part.yield_time step []

-- the tokens of braces, if there are any, and of the arguments after the first
abbrev pub yield_any_braces : Option part.Braces → List Symbol
yield_any_braces b = option_map_or part.yield_braces b []

abbrev pub yield_rest : Arguments → List Symbol
yield_rest ds = yield_arguments (punct kind.Comma ∷ []) ds

-- the labels of a clause, and those of a group, if there are any
abbrev pub IsClause : part.Clause → Type 0
IsClause c = IfSome c (λ (before, (by, text, ls)). part.IsLabels ls)

abbrev pub IsGroup : part.Group → Type 0
IsGroup g = IfSome g (λ (left, text, ls). IfSome ls part.IsLabels)

abbrev pub IsGrouping : part.Grouping → Type 0
IsGrouping (by, text, ls) = part.IsLabels ls

-- `by` or `without`
abbrev pub StartsGrouping : List Symbol → Type 0
StartsGrouping (word kind.By text ∷ ts) = Unit {0}
StartsGrouping (word kind.Without text ∷ ts) = Unit {0}
StartsGrouping ts = ⊥

abbrev pub HasNoGrouping : List Symbol → Type 0
HasNoGrouping (word kind.By text ∷ ts) = ⊥
HasNoGrouping (word kind.Without text ∷ ts) = ⊥
HasNoGrouping ts = Unit {0}

-- whether the sign of a number is a minus, if it is one
abbrev pub minus_sign : TokenKind → Option Bool
minus_sign (kind.Operator op) = if op == T_ADD then Some false else (if op == T_SUB then Some true else None)
minus_sign k = None

-- the sign of a number was parsed, or none, and whether it is a minus
pub record ParsesSign (minus : Bool) (rest : List Symbol) (read : Read part.Signed) : Type 0 where
  pub sign : part.Signed
  pub is : read ≡ Ok (sign, rest)
  pub counts : minus ≡ is_minus sign

-- a number with its sign
abbrev pub parse_signed_number : List Symbol → Read (part.Signed × Text)
parse_signed_number ts = eat_sign ts then λ s. parse_number s.1 then λ n. Ok ((s.0, n.0), n.1)

-- a time with its sign
abbrev pub parse_offset : List Symbol → Read (part.Signed × part.Time)
parse_offset ts = eat_sign ts then λ s. parse_time s.1 then λ t. Ok ((s.0, t.0), t.1)

-- a label, or none, is the first token
abbrev pub HasNoLabel : List Symbol → Type 0
HasNoLabel [] = Unit {0}
HasNoLabel (punct k ∷ ts) = Unit {0}
HasNoLabel (word k text ∷ ts) = may_be_label k ≡ false

pub record EatsLabel (k : TokenKind) (text : Text) (ts rest : List Symbol) : Type 0 where
  pub may : may_be_label k ≡ true
  pub first : ts ≡ word k text ∷ rest

-- how a label ends: with the list, with a comma and the list, or with a comma
pub data LabelEnd : Type 0 where
  closes : LabelEnd
  comma_closes : LabelEnd
  comma : LabelEnd

abbrev pub parse_label_end : List Symbol → Read LabelEnd
parse_label_end (punct kind.RightParen ∷ ts) = Ok (closes, ts)
parse_label_end (punct kind.Comma ∷ (punct kind.RightParen ∷ ts)) = Ok (comma_closes, ts)
parse_label_end (punct kind.Comma ∷ ts) = Ok (comma, ts)
parse_label_end ts = Err (misfit ts)

abbrev pub is_last_label : LabelEnd → Bool
is_last_label comma = false
is_last_label _ = true

pub record ParsesLabelEnd (last : Bool) (rest : List Symbol) (read : Read LabelEnd) : Type 0 where
  pub end : LabelEnd
  pub is : read ≡ Ok (end, rest)
  pub ends : last ≡ is_last_label end
