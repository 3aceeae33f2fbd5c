-- The parts of an expression that hold no expression, and their tokens (docs/reference/grammar.md, "Parts").
use Rattle.std.specs.Prelude.{◌≡◌, Bool, true, false, not, if◌then◌else◌, Option, IfSome, List, [], ◌∷◌, ◌++◌}
use Rattle.std.specs.Option.{option_map_or}
use Rattle.promql_text.specs.Texts.{Text}
use Rattle.promql_token.specs.declared.ids.TheConstants.{T_NEQ, T_LOR, T_ADD, T_SUB}
use Rattle.promql_grammar.specs.declared.token_kinds.TokenKind.{TokenKind}
use Rattle.promql_grammar.specs.declared.token_kinds.TokenKind.TheVariants as kind
use Rattle.promql_grammar.specs.Symbols.{Symbol, punct, word, may_be_label}

-- "Times": a number of seconds, or a duration
pub data Time : Type 0 where
  seconds duration : Text → Time

abbrev pub yield_time : Time → List Symbol
yield_time (seconds text) = word kind.Number text ∷ []
yield_time (duration text) = word kind.Duration text ∷ []

-- "Signs": nothing, or an operator `+` or `-`
abbrev pub Signed : Type 0
Signed = Option ((minus : Bool) × Text)

abbrev pub yield_signed : Signed → List Symbol
yield_signed s = option_map_or (λ (minus, text). word (kind.Operator (if minus then T_SUB else T_ADD)) text ∷ []) s []

-- a minus negates, a plus does not
abbrev pub is_minus : Signed → Bool
is_minus s = option_map_or (λ (minus, text). minus) s false

-- "Labels": what follows an opening parenthesis: none, a last one, or one with a comma after it and what follows that
pub data Labels : Type 0 where
  no_label : Labels
  last : TokenKind → Text → Labels
  next : TokenKind → Text → Labels → Labels

abbrev pub yield_names : Labels → List Symbol
yield_names no_label = punct kind.RightParen ∷ []
yield_names (last k text) = word k text ∷ punct kind.RightParen ∷ []
yield_names (next k text ls) = word k text ∷ punct kind.Comma ∷ yield_names ls

abbrev pub yield_labels : Labels → List Symbol
yield_labels ls = punct kind.LeftParen ∷ yield_names ls

abbrev pub IsLabels : Labels → Type 0
IsLabels no_label = Unit {0}
IsLabels (last k text) = may_be_label k ≡ true
IsLabels (next k text ls) = (may_be_label k ≡ true) × IsLabels ls

-- "Clauses": what an aggregation keeps (`by`) or drops (`without`), before or after its arguments
abbrev pub Grouping : Type 0
Grouping = (by : Bool) × Text × Labels

abbrev pub Clause : Type 0
Clause = Option ((before : Bool) × Grouping)

abbrev pub yield_grouping : Grouping → List Symbol
yield_grouping (by, text, ls) = word (if by then kind.By else kind.Without) text ∷ yield_labels ls

abbrev pub yield_before : Clause → List Symbol
yield_before c = option_map_or (λ (before, g). if before then yield_grouping g else []) c []

abbrev pub yield_after : Clause → List Symbol
yield_after c = option_map_or (λ (before, g). if before then [] else yield_grouping g) c []

-- "Modifiers": what may come between an operator and its right side; a grouping word is bare or has labels
abbrev pub Group : Type 0
Group = Option ((left : Bool) × Text × Option Labels)

abbrev pub Matching : Type 0
Matching = Option ((on : Bool) × Text × Labels × Group)

abbrev pub FillValue : Type 0
FillValue = Signed × Text

-- one value for both sides, one for a side, or that and one for the other side
pub data Fills : Type 0 where
  no_fill : Fills
  both : Text → FillValue → Fills
  one : (left : Bool) → Text → FillValue → Fills
  two : (left : Bool) → Text → FillValue → Text → FillValue → Fills

abbrev pub Modifier : Type 0
Modifier = (flag : Option Text) × Matching × Fills

abbrev pub yield_group : Group → List Symbol
yield_group g = option_map_or (λ (left, text, ls). word (if left then kind.GroupLeft else kind.GroupRight) text ∷ option_map_or yield_labels ls []) g []

abbrev pub yield_matching : Matching → List Symbol
yield_matching m = option_map_or (λ (on, text, ls, g). word (if on then kind.On else kind.Ignoring) text ∷ (yield_labels ls ++ yield_group g)) m []

abbrev pub yield_value : FillValue → List Symbol
yield_value (s, number) = punct kind.LeftParen ∷ (yield_signed s ++ word kind.Number number ∷ punct kind.RightParen ∷ [])

abbrev pub yield_side : Bool → Text → FillValue → List Symbol
yield_side left text v = word (if left then kind.FillLeft else kind.FillRight) text ∷ yield_value v

abbrev pub yield_fills : Fills → List Symbol
yield_fills no_fill = []
yield_fills (both text v) = word kind.Fill text ∷ yield_value v
yield_fills (one left text v) = yield_side left text v
yield_fills (two left text v text' w) = yield_side left text v ++ yield_side (not left) text' w

abbrev pub yield_modifier : Modifier → List Symbol
yield_modifier (flag, m, f) = option_map_or (λ text. word kind.Bool text ∷ []) flag [] ++ (yield_matching m ++ yield_fills f)

abbrev pub IsMatching : Matching → Type 0
IsMatching m = IfSome m (λ (on, text, ls, g). IsLabels ls × IfSome g (λ (left, text, ls). IfSome ls IsLabels))

-- "Selectors": a name, matchers in braces, or both
pub data MatchOperator : Type 0 where
  equal equal_regex not_equal_regex : MatchOperator
  not_equal : Text → MatchOperator

abbrev pub yield_match_operator : MatchOperator → Symbol
yield_match_operator equal = punct kind.Equal
yield_match_operator (not_equal text) = word (kind.Operator T_NEQ) text
yield_match_operator equal_regex = punct kind.EqualRegex
yield_match_operator not_equal_regex = punct kind.NotEqualRegex

pub data Item : Type 0 where
  matcher : (quoted : Bool) → Text → MatchOperator → Text → Item
  lone : Text → Item

-- items are separated by an `or`, with its text, or by a comma
pub data Items : Type 0 where
  last_item : Item → (comma : Bool) → Items
  next_item : Item → (joint : Option Text) → Items → Items

abbrev pub Braces : Type 0
Braces = Option Items

-- a matcher's name is an identifier or a string
abbrev pub yield_item : Item → List Symbol
yield_item (matcher quoted text s value) =
    word (if quoted then kind.String else kind.Identifier) text ∷ yield_match_operator s ∷ word kind.String value ∷ []
yield_item (lone text) = word kind.String text ∷ []

abbrev pub yield_items : Items → List Symbol
yield_items (last_item i comma) = yield_item i ++ (if comma then punct kind.Comma ∷ punct kind.RightBrace ∷ [] else punct kind.RightBrace ∷ [])
yield_items (next_item i joint is) = yield_item i ++ option_map_or (word (kind.Operator T_LOR)) joint (punct kind.Comma) ∷ yield_items is

abbrev pub yield_braces : Braces → List Symbol
yield_braces b = punct kind.LeftBrace ∷ option_map_or yield_items b (punct kind.RightBrace ∷ [])

-- "Postfixes": what may follow a base
pub data Postfix : Type 0 where
  range : Time → Postfix
  subquery : Time → Option Time → Postfix
  at_number : Signed → Text → Postfix
  at_bound : (start : Bool) → Text → Postfix
  offset : Text → Signed → Time → Postfix
  mode : (smoothed : Bool) → Text → Postfix

abbrev pub yield_postfix : Postfix → List Symbol
yield_postfix (range t) = punct kind.LeftBracket ∷ (yield_time t ++ punct kind.RightBracket ∷ [])
yield_postfix (subquery t s) = punct kind.LeftBracket ∷ (yield_time t ++ punct kind.Colon ∷ (option_map_or yield_time s [] ++ punct kind.RightBracket ∷ []))
yield_postfix (at_number s text) = punct kind.At ∷ (yield_signed s ++ word kind.Number text ∷ [])
yield_postfix (at_bound start text) = punct kind.At ∷ word (if start then kind.Start else kind.End) text ∷ punct kind.LeftParen ∷ punct kind.RightParen ∷ []
yield_postfix (offset text s t) = word kind.Offset text ∷ (yield_signed s ++ yield_time t)
yield_postfix (mode smoothed text) = word (if smoothed then kind.Smoothed else kind.Anchored) text ∷ []

-- Words for parts of these, which proofs and private definitions have: nothing rests on believing them.
abbrev pub Separator : Type 0
Separator = Option Text

abbrev pub yield_separator : Separator → Symbol
yield_separator s = option_map_or (word (kind.Operator T_LOR)) s (punct kind.Comma)

abbrev pub name_kind : Bool → TokenKind
name_kind quoted = if quoted then kind.String else kind.Identifier
