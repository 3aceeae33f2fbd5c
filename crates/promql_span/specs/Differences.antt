-- What Prometheus reads otherwise (docs/reference/programs.md, "Targets").
use Rattle.std.specs.Prelude.{ℕ, ◌+◌, ◌-◌, Bool, true, false, ◌&&◌, ◌||◌, ◌==◌, not, nat_lt, if◌then◌else◌, List, [], ◌∷◌, ◌++◌, codes, drop, length, Option, Some, None, option_and_then, option_map, option_to_list, is_some, Result, Ok, Err, slice_get, slice_index, take, take_while}
use Rattle.std.specs.List.{filter_map, list_any}
use Rattle.std.specs.Str.{bytes_eq, str_eq_ignore_ascii_case}
use Rattle.promql_text.specs.NumberText.{read_number}
use Rattle.promql_text.specs.Texts.{Text, code}
use Rattle.promql_text.specs.Values.{is_zero}
use Rattle.promql_text.specs.declared.number.Number.{Number}
use Rattle.promql_text.specs.declared.number.NumberFault.{NumberFault}
use Rattle.promql_token.specs.Cursor.{tokens_up_to_fault}
use Rattle.promql_token.specs.declared.ids.TheConstants.{T_ADD, T_AT, T_BOOL, T_COMMA, T_EQL, T_EQL_REGEX, T_ATAN2, T_IDENTIFIER, T_LAND, T_LEFT_BRACE, T_LEFT_PAREN, T_LOR, T_LUNLESS, T_NEQ, T_NEQ_REGEX, T_NUMBER, T_OPERATORS_END, T_OPERATORS_START, T_POW, T_RIGHT_BRACE, T_STRING, T_SUB}
use Rattle.promql_grammar.specs.Symbols.{is_plus_or_minus}
use Rattle.promql_span.specs.ByteEscapes.{escape_in, first_escape}
use Rattle.promql_span.specs.PlacedTokens.{first_span, placed_tokens}
use Rattle.promql_span.specs.declared.differences.Difference.{Difference}
use Rattle.promql_span.specs.declared.differences.DifferenceKind.{DifferenceKind}
use Rattle.promql_span.specs.declared.differences.DifferenceKind.TheVariants as kind
use Rattle.promql_span.specs.declared.differences.Printed.{Printed}
use Rattle.promql_span.specs.declared.differences.Printed.TheVariants.{Layout, Nothing, SortedLayout, Tree}
use Rattle.promql_span.specs.declared.limits.Limits.{Limits}
use Rattle.promql_span.specs.declared.span.Span.{Span}
use Rattle.promql_span.specs.declared.target.Target.{Target}
use Rattle.promql_span.specs.declared.target.Target.TheVariants.{Rules}

-- tokens, each its id and its text
abbrev pub Tokens : Type 0
Tokens = List (ℕ × Text)

-- whether this is the first token
abbrev pub comes_first : ℕ → Tokens → Bool
comes_first id [] = false
comes_first id (t ∷ ts) = t.0 == id

-- the tokens after signs
abbrev pub after_signs : Tokens → Tokens
after_signs [] = []
after_signs (t ∷ ts) = if is_plus_or_minus t.0 then after_signs ts else t ∷ ts

-- ---- "Negative zeros"

abbrev pub reads_zero : Result Number NumberFault → Bool
reads_zero (Ok n) = is_zero n
reads_zero (Err e) = false

-- a number that is zero and no base of a power
abbrev pub begins_with_zero : Tokens → Bool
begins_with_zero [] = false
begins_with_zero (t ∷ ts) = t.0 == T_NUMBER && (reads_zero (read_number t.1) && not (comes_first T_POW ts))

-- whether a minus after this token has one operand
abbrev pub is_before_operand : ℕ → Bool
is_before_operand id =
    list_any (λ k. id == k) (T_LEFT_PAREN ∷ T_COMMA ∷ T_BOOL ∷ []) || (nat_lt T_OPERATORS_START id && (nat_lt id T_OPERATORS_END && not (id == T_AT)))

-- what stands for a token after this one: a name for a word that is an operator elsewhere
abbrev pub stands_for : ℕ → ℕ → ℕ
stands_for before id =
    if is_before_operand before && list_any (λ k. id == k) (T_LAND ∷ T_LOR ∷ T_LUNLESS ∷ T_ATAN2 ∷ []) then T_IDENTIFIER else id

abbrev pub is_negative_zero : ℕ → ℕ × Text → Tokens → Bool
is_negative_zero before t ts = t.0 == T_SUB && (is_before_operand before && begins_with_zero (after_signs ts))

-- ---- "Parts of a millisecond"

-- how many characters of a number come before its point
abbrev pub len_to_point : Text → ℕ
len_to_point text = length (take_while (λ b. not (b == code ".")) text)

-- more than three come after it, or there is an exponent below zero
abbrev pub is_fine : Text → Bool
is_fine text = nat_lt 4 (length text - len_to_point text) || list_any (λ b. b == code "-") text

abbrev pub begins_with_fine : Tokens → Bool
begins_with_fine [] = false
begins_with_fine (t ∷ ts) = t.0 == T_NUMBER && is_fine t.1

abbrev pub is_fine_time : ℕ × Text → Tokens → Bool
is_fine_time t ts = t.0 == T_AT && begins_with_fine (after_signs ts)

-- ---- strings

-- "U+FFFD": what comes after a backslash
abbrev pub spells_replacement : Text → Bool
spells_replacement z = str_eq_ignore_ascii_case (take 5 z) (codes "ufffd") || str_eq_ignore_ascii_case (take 9 z) (codes "u0000fffd")

abbrev pub has_replacement : Text → Bool
has_replacement [] = false
has_replacement (b ∷ z) = (b == code "\\" && spells_replacement z) || has_replacement z

-- of a string in quotes; between backticks there are no escapes
abbrev pub string_kind : Text → Option DifferenceKind
string_kind z =
    if slice_index z 0 == code "`" then None else
    if is_some (first_escape false 0 z) then Some kind.ByteEscape else
    if has_replacement z then Some kind.ReplacementEscape else None

-- ---- calls whose argument Prometheus looks at as it is written

-- the tokens after parentheses
abbrev pub in_parens : Tokens → Tokens
in_parens [] = []
in_parens (t ∷ ts) = if t.0 == T_LEFT_PAREN then in_parens ts else t ∷ ts

-- whether these tokens call one of these functions; the argument is `in_parens` of the later ones
abbrev pub calls : List Text → ℕ × Text → Tokens → Bool
calls names t ts = t.0 == T_IDENTIFIER && (list_any (bytes_eq t.1) names && comes_first T_LEFT_PAREN ts)

-- "Pluses"
abbrev pub has_plus : ℕ × Text → Tokens → Bool
has_plus t ts = calls (codes "timestamp" ∷ codes "absent" ∷ []) t ts && comes_first T_ADD (in_parens ts)

-- "Matchers of one label": the label of each matcher before the closing brace, and whether its operator is `=`; `before` is the text of the token before
abbrev pub matched_labels : Text → Tokens → List (Text × Bool)
matched_labels before [] = []
matched_labels before (t ∷ ts) =
    if t.0 == T_RIGHT_BRACE then [] else
    if list_any (λ k. t.0 == k) (T_EQL ∷ T_NEQ ∷ T_EQL_REGEX ∷ T_NEQ_REGEX ∷ []) then (before, t.0 == T_EQL) ∷ matched_labels t.1 ts
    else matched_labels t.1 ts

-- what comes after a brace; a name may be before it
abbrev pub after_brace : Tokens → Tokens
after_brace [] = []
after_brace (t ∷ ts) = if t.0 == T_LEFT_BRACE then ts else if comes_first T_LEFT_BRACE ts then drop 1 ts else []

-- a label in quotes may be any label
abbrev pub is_quoted : Text → Bool
is_quoted l = list_any (λ q. slice_index l 0 == q) (code "\"" ∷ code "'" ∷ code "`" ∷ [])

abbrev pub may_be_same : Text → Text → Bool
may_be_same l m = bytes_eq l m || (is_quoted l || is_quoted m)

-- two matchers that may be of one label, one of them with `=`
abbrev pub clash : Text × Bool → Text × Bool → Bool
clash m n = may_be_same m.0 n.0 && (m.1 || n.1)

abbrev pub clashes : List (Text × Bool) → Bool
clashes [] = false
clashes (m ∷ ms) = list_any (clash m) ms || clashes ms

abbrev pub has_repeated_label : ℕ × Text → Tokens → Bool
has_repeated_label t ts = calls (codes "absent" ∷ codes "absent_over_time" ∷ []) t ts && clashes (matched_labels [] (after_brace (in_parens ts)))

-- ---- the first difference

-- what is read otherwise at this token, which has one before it and others after it
abbrev pub kind_at : ℕ → ℕ × Text → Tokens → Option DifferenceKind
kind_at before t ts =
    if t.0 == T_STRING then string_kind t.1 else
    if is_negative_zero before t ts then Some kind.NegativeZero else
    if is_fine_time t ts then Some kind.PartOfMillisecond else
    if has_plus t ts then Some kind.Plus else
    if has_repeated_label t ts then Some kind.RepeatedLabel else None

-- in a layout signs, and times after `@`, stay as they are written
abbrev pub is_of_layout : DifferenceKind → Bool
is_of_layout kind.NegativeZero = false
is_of_layout kind.PartOfMillisecond = false
is_of_layout kind.Plus = false
is_of_layout k = true

abbrev pub is_of_print : Printed → DifferenceKind → Bool
is_of_print Tree k = true
is_of_print Layout kind.RepeatedLabel = false
is_of_print Layout k = is_of_layout k
is_of_print SortedLayout k = is_of_layout k
is_of_print Nothing k = true

-- these rules read nothing otherwise
abbrev pub is_of : Target → Printed → DifferenceKind → Bool
is_of Rules printed k = false
is_of target printed k = is_of_print printed k

abbrev pub counted : Limits → Option DifferenceKind → Option DifferenceKind
counted limits None = None
counted limits (Some kind) = if is_of limits.target limits.printed kind then Some kind else None

-- all of them, each with the number of its token; `n` is that of the first
abbrev pub kinds : Limits → ℕ → ℕ → Tokens → List (ℕ × DifferenceKind)
kinds limits n before [] = []
kinds limits n before (t ∷ ts) =
    option_to_list (option_map (λ kind. (n, kind)) (counted limits (kind_at before t ts))) ++ kinds limits (n + 1) (stands_for before t.0) ts

-- an expression begins as after a parenthesis
abbrev pub kinds_of : Limits → Text → List (ℕ × DifferenceKind)
kinds_of limits s = kinds limits 0 T_LEFT_PAREN (tokens_up_to_fault s)

-- where it is: the first byte escape of the string, or the token
abbrev pub place_of : Text → ℕ → DifferenceKind → Option Span
place_of s n kind.ByteEscape = option_and_then (escape_in s) (slice_get (placed_tokens s) n)
place_of s n k = Some (first_span s (drop n (placed_tokens s)))

abbrev pub difference_at : Text → ℕ × DifferenceKind → Option Difference
difference_at s (n, kind) = option_map (λ span. record { kind = kind; span = span }) (place_of s n kind)

-- the parts of a query that the target reads otherwise than what is printed
abbrev pub differences : Limits → Text → List Difference
differences limits s = filter_map (difference_at s) (kinds_of limits s)

abbrev pub difference : Limits → Text → Option Difference
difference limits s = option_and_then (difference_at s) (slice_get (kinds_of limits s) 0)
