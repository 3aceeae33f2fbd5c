-- What a printed tree has after an expression: no parenthesis opens there.
use Rattle.std.proofs.Common.{◌≡◌, ℕ, zero, suc, ◌+◌, refl, ◌∙◌, ap, arith, Bool, true, false, cond, not, ◌&&◌, Option, Some, None, List, [], ◌∷◌, ◌++◌, append_assoc}
use Rattle.std.specs.Prelude.{◌==◌, slice_index}
use Rattle.std.specs.Char.{is_ascii_whitespace}
use Rattle.std.specs.List.{prefix_len}
use Rattle.promql_text.specs.Texts.{Text}
use Rattle.promql_token.specs.Classes.{is_in}
use Rattle.promql_token.specs.Ids.{text_of}
use Rattle.promql_token.specs.TokenScanning.{opens}
use Rattle.promql_token.specs.declared.class.Class.TheVariants as class
use Rattle.promql_grammar.specs.declared.token_kinds.TokenKind.TheVariants as kind
use Rattle.promql_grammar.specs.Grammar as grammar
use Rattle.promql_grammar.specs.Grammar.{Arguments}
use Rattle.promql_grammar.specs.GrammarParts as part
use Rattle.promql_grammar.specs.Symbols.{Symbol, token_kind, punct, word}
use Rattle.promql_kind.specs.Modifiers.{Clause, including, excluding}
use Rattle.promql_ast.specs.Shifts.{Shift, back, ahead, Moment, at_start, at_end, at_time}
use Rattle.promql_syntax.proofs.parsing.Booleans.{and_cases, not_true}
use Rattle.promql_syntax.proofs.lexed.Lexes.{ends_word, is_clear}
use Rattle.promql_syntax.proofs.printed.PrintedItems.{Item, token, blank, newline, any_braces_line, before_line, closing_line, indent_items, postfix_line, render, rest_line, rest_lines, spell}
use Rattle.promql_syntax.proofs.printed.PrintedParts.{clause, moment, shift}
use Rattle.promql_syntax.proofs.parsing.TokenKindRows.{operators_pass}
use Rattle.promql_syntax.proofs.lexed.LexedEnds.{clear_ends, clear_shut}

-- ---- where no parenthesis opens

-- a byte that is no white space and no `(` comes first
abbrev is_plain : Text → Bool
is_plain [] = false
is_plain (b ∷ w) = not (is_ascii_whitespace b) && not (b == 40)

plain_shut : (w r : Text) → is_plain w ≡ true → opens (w ++ r) ≡ false
plain_shut [] r is = cc
plain_shut (b ∷ w) r is =
    let both = and_cases (not (is_ascii_whitespace b)) _ is in
    ap (λ c. slice_index (b ∷ (w ++ r)) (0 + cond c (1 + prefix_len (is_in class.White) (w ++ r)) 0) == 40) (not_true _ both.0) ∙ not_true _ both.1

space_shut : (r : Text) → opens r ≡ false → opens (32 ∷ r) ≡ false
space_shut r shut =
    let more : 0 + (1 + prefix_len (is_in class.White) r) ≡ suc (0 + prefix_len (is_in class.White) r) = omega arith in
    ap (λ k. slice_index (32 ∷ r) k == 40) more ∙ shut

line_shut : (r : Text) → opens r ≡ false → opens (10 ∷ r) ≡ false
line_shut r shut =
    let more : 0 + (1 + prefix_len (is_in class.White) r) ≡ suc (0 + prefix_len (is_in class.White) r) = omega arith in
    ap (λ k. slice_index (10 ∷ r) k == 40) more ∙ shut

-- ---- items before which no parenthesis opens, whatever follows them

abbrev OpensNothing : List Item → Type 0
OpensNothing is = (r : Text) → opens (render is ++ r) ≡ false

token_shut : (s : Symbol) (is : List Item) → is_plain (spell s) ≡ true → OpensNothing (token s ∷ is)
token_shut s is plain r = ap opens (append_assoc (spell s) (render is) r) ∙ plain_shut (spell s) (render is ++ r) plain

indented_shut : (level : ℕ) (is : List Item) → OpensNothing is → OpensNothing (indent_items level is)
indented_shut zero is shut r = shut r
indented_shut (suc level) is shut r =
    let z = render (indent_items level is) ++ r in
    space_shut (32 ∷ z) (space_shut z (indented_shut level is shut r))

operator_shut : (op : ℕ) (is : List Item) → token_kind op ≡ kind.Operator op → OpensNothing (token (word (kind.Operator op) (text_of op)) ∷ is)
operator_shut op is known = token_shut (word (kind.Operator op) (text_of op)) is (operators_pass (λ op. is_plain (text_of op)) refl op known)

-- ---- items that may follow an expression, whatever follows them

abbrev pub IsClear : List Item → Type 0
IsClear is = (r : Text) → is_clear (render is ++ r) ≡ true

blank_clear : (is : List Item) → OpensNothing is → IsClear (blank ∷ is)
blank_clear is shut r = ap not (space_shut (render is ++ r) (shut r))

newline_clear : (is : List Item) → OpensNothing is → IsClear (newline ∷ is)
newline_clear is shut r = ap not (line_shut (render is ++ r) (shut r))

pub operator_clear : (op : ℕ) (is : List Item) → token_kind op ≡ kind.Operator op → IsClear (blank ∷ token (word (kind.Operator op) (text_of op)) ∷ is)
operator_clear op is known = blank_clear (token (word (kind.Operator op) (text_of op)) ∷ is) (operator_shut op is known)

pub operator_line_clear : (level op : ℕ) (is : List Item) → token_kind op ≡ kind.Operator op → IsClear (newline ∷ indent_items level (token (word (kind.Operator op) (text_of op)) ∷ is))
operator_line_clear level op is known =
    let items = token (word (kind.Operator op) (text_of op)) ∷ is in
    newline_clear (indent_items level items) (indented_shut level items (operator_shut op is known))

pub closing_clear : (level : ℕ) (after : List Item) → IsClear (closing_line level after)
closing_clear level after =
    let items = token (punct kind.RightParen) ∷ after in
    newline_clear (indent_items level items) (indented_shut level items (token_shut (punct kind.RightParen) after refl))

pub rest_clear : (ds : Arguments) → IsClear (rest_line ds)
rest_clear grammar.none r = refl
rest_clear (grammar.more d ds) r = refl

pub rest_lines_clear : (ds : Arguments) (level most : ℕ) (after : List Item) → IsClear after → IsClear (rest_lines ds level most after)
rest_lines_clear grammar.none level most after clear r = clear r
rest_lines_clear (grammar.more d ds) level most after clear r = refl

pub moment_clear : (m : Moment) → IsClear (postfix_line (moment m))
moment_clear at_start r = refl
moment_clear at_end r = refl
moment_clear (at_time t) r = refl

pub shift_clear : (s : Shift) → IsClear (postfix_line (shift s))
shift_clear (back n) r = refl
shift_clear (ahead n) r = refl

-- ---- what follows a name

-- braces, or what may follow an expression
pub braces_end : (b : Option part.Braces) (r : Text) → is_clear r ≡ true → (ends_word (render (any_braces_line b) ++ r) ≡ true) × (opens (render (any_braces_line b) ++ r) ≡ false)
braces_end None r clear = (clear_ends r clear, clear_shut r clear)
braces_end (Some None) r clear = (refl, refl)
braces_end (Some (Some is)) r clear = (refl, refl)

-- a grouping, or the parenthesis after it
pub clause_ends : (m : Option Clause) (is : List Item) (r : Text) → ends_word (render (before_line (clause m) ++ token (punct kind.LeftParen) ∷ is) ++ r) ≡ true
clause_ends None is r = refl
clause_ends (Some (including [])) is r = refl
clause_ends (Some (including (l ∷ ls))) is r = refl
clause_ends (Some (excluding ls)) is r = refl
