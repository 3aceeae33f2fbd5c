-- The lexer reads printed fill values as their tokens.
use Rattle.std.proofs.Common.{◌≡◌, ℕ, suc, refl, ap, Bool, true, false, not, ◌&&◌, Option, Some, None, List, [], ◌∷◌, ◌++◌, codes}
use Rattle.std.specs.Prelude.{◌==◌, IfSome}
use Rattle.std.proofs.lemmas.Bool.{cond_both}
use Rattle.promql_text.specs.NumberText.{number_text}
use Rattle.promql_text.specs.Texts.{Text}
use Rattle.promql_text.specs.Values.{IsNumber, is_below_zero, neg}
use Rattle.promql_text.specs.declared.number.Number.{Number}
use Rattle.promql_text.specs.declared.number.Number.TheVariants as number
use Rattle.promql_text.proofs.numbers.OneForm.{negated_in_form}
use Rattle.promql_token.specs.Ids.{keyword_in_any_case}
use Rattle.promql_token.specs.Laws.{is_word}
use Rattle.promql_token.specs.TokenScanning.{word_id}
use Rattle.promql_token.specs.declared.ids.TheConstants.{T_SUB, T_FILL, T_FILL_LEFT, T_FILL_RIGHT, T_NUMBER}
use Rattle.promql_token.proofs.printed.ValueTokens.{joins_number_text}
use Rattle.promql_grammar.specs.declared.token_kinds.TokenKind.{TokenKind}
use Rattle.promql_grammar.specs.declared.token_kinds.TokenKind.TheVariants as kind
use Rattle.promql_grammar.specs.GrammarParts as part
use Rattle.promql_grammar.specs.Symbols.{punct, symbol_of, word}
use Rattle.promql_kind.specs.Modifiers.{fills, number_eq}
use Rattle.promql_syntax.proofs.lexed.Lexes.{Lexes, at_depth}
use Rattle.promql_syntax.proofs.printed.PrintedItems.{Item, token, blank, fills_line, render, signed_line, value_line}
use Rattle.promql_syntax.proofs.printed.PrintedParts.{fill_words, magnitude, value}
use Rattle.promql_syntax.proofs.printed.PrintedParts as printed
use Rattle.promql_syntax.proofs.lexed.LexedItems.{Reads, append_lex, blank_then, close_reads, known_reads, nothing, open_reads, token_then}
use Rattle.promql_syntax.proofs.lexed.LexedPunctuators.{minus_lex}

pub minus_reads : (depth : ℕ) (r : Text) → Reads (at_depth depth) (at_depth depth) (word (kind.Operator T_SUB) (codes "-")) r
minus_reads depth r = record { id = T_SUB; is = refl; reads = minus_lex depth r }

-- the number of a value, and the parenthesis after it
number_lex : (depth : ℕ) (v : Number) → IsNumber v → is_below_zero v ≡ false → Lexes (at_depth (suc depth)) (at_depth depth) (token (word kind.Number (number_text v)) ∷ token (punct kind.RightParen) ∷ [])
number_lex depth v is above =
    let inner = at_depth (suc depth) in
    token_then inner inner (at_depth depth) (word kind.Number (number_text v)) (token (punct kind.RightParen) ∷ [])
    (λ r. record { id = T_NUMBER; is = refl; reads = joins_number_text (suc depth) v (41 ∷ r) is above refl refl })
    (token_then inner (at_depth depth) (at_depth depth) (punct kind.RightParen) [] (λ r. close_reads depth r) (nothing (at_depth depth)))

abbrev signed_items : Bool → Number → List Item
signed_items below v = signed_line (printed.sign below) ++ token (word kind.Number (number_text v)) ∷ token (punct kind.RightParen) ∷ []

signed_lex : (depth : ℕ) (below : Bool) (v : Number) → IsNumber v → is_below_zero v ≡ false → Lexes (at_depth (suc depth)) (at_depth depth) (signed_items below v)
signed_lex depth false v is above = number_lex depth v is above
signed_lex depth true v is above =
    let inner = at_depth (suc depth) in
    let rest = token (word kind.Number (number_text v)) ∷ token (punct kind.RightParen) ∷ [] in
    token_then inner inner (at_depth depth) (word (kind.Operator T_SUB) (codes "-")) rest (λ r. minus_reads (suc depth) (render rest ++ r)) (number_lex depth v is above)

pub negated_above : (v : Number) → is_below_zero v ≡ true → is_below_zero (neg v) ≡ false
negated_above (number.Finite d) below = ap (λ b. not b && not (d.digits == 0)) below
negated_above number.Inf below = cc
negated_above number.NegInf below = refl
negated_above number.NaN below = refl

value_lex : (depth : ℕ) (v : Number) → IsNumber v → Lexes (at_depth depth) (at_depth depth) (value_line (value v))
value_lex depth v is =
    let o = at_depth depth in
    let size = magnitude v in
    let above : is_below_zero size ≡ false = cond_both (is_below_zero v) (neg v) v (λ n. is_below_zero n ≡ false) (λ below. negated_above v below) (λ none. none) in
    let number : IsNumber size = cond_both (is_below_zero v) (neg v) v IsNumber (λ _. negated_in_form v is) (λ _. is) in
    let rest = signed_line (printed.sign (is_below_zero v)) ++ token (word kind.Number (number_text size)) ∷ token (punct kind.RightParen) ∷ [] in
    blank_then depth o (token (punct kind.LeftParen) ∷ rest)
    (token_then o (at_depth (suc depth)) o (punct kind.LeftParen) rest (λ r. open_reads depth (render rest ++ r)) (signed_lex depth (is_below_zero v) size number above))

-- a fill word before its value, and what follows the value
fill_then : (depth id : ℕ) (k : TokenKind) (w : Text) (v : Number) (is : List Item) → is_word w ≡ true → ((z : Text) → word_id w (32 ∷ 40 ∷ z) ≡ id) → symbol_of (id, w) ≡ word k w → IsNumber v
    → Lexes (at_depth depth) (at_depth depth) is → Lexes (at_depth depth) (at_depth depth) (blank ∷ token (word k w) ∷ (value_line (value v) ++ is))
fill_then depth id k w v is letters known symbol number more =
    let o = at_depth depth in
    let inside = (signed_line (printed.sign (is_below_zero v)) ++ token (word kind.Number (number_text (magnitude v))) ∷ token (punct kind.RightParen) ∷ []) ++ is in
    blank_then depth o (token (word k w) ∷ (value_line (value v) ++ is))
    (token_then o o o (word k w) (value_line (value v) ++ is) (λ r. known_reads depth w (32 ∷ 40 ∷ (render inside ++ r)) id k letters (known (render inside ++ r)) symbol refl)
    (append_lex o o o (value_line (value v)) is (value_lex depth v number) more))

fill_last : (depth id : ℕ) (k : TokenKind) (w : Text) (v : Number) → is_word w ≡ true → ((z : Text) → word_id w (32 ∷ 40 ∷ z) ≡ id) → symbol_of (id, w) ≡ word k w → IsNumber v
    → Lexes (at_depth depth) (at_depth depth) (blank ∷ token (word k w) ∷ value_line (value v))
fill_last depth id k w v letters known symbol number =
    let o = at_depth depth in
    let inside = signed_line (printed.sign (is_below_zero v)) ++ token (word kind.Number (number_text (magnitude v))) ∷ token (punct kind.RightParen) ∷ [] in
    blank_then depth o (token (word k w) ∷ value_line (value v))
    (token_then o o o (word k w) (value_line (value v)) (λ r. known_reads depth w (32 ∷ 40 ∷ (render inside ++ r)) id k letters (known (render inside ++ r)) symbol refl) (value_lex depth v number))

fill_id : (z : Text) → word_id (codes "fill") (32 ∷ 40 ∷ z) ≡ T_FILL
unfolding keyword_in_any_case
fill_id z = refl

fill_left_id : (z : Text) → word_id (codes "fill_left") (32 ∷ 40 ∷ z) ≡ T_FILL_LEFT
unfolding keyword_in_any_case
fill_left_id z = refl

fill_right_id : (z : Text) → word_id (codes "fill_right") (32 ∷ 40 ∷ z) ≡ T_FILL_RIGHT
unfolding keyword_in_any_case
fill_right_id z = refl

pub fills_lex : (depth : ℕ) (right left : Option Number) → IfSome right IsNumber → IfSome left IsNumber → Lexes (at_depth depth) (at_depth depth) (fills_line (fill_words (fills right left)))
fills_lex depth None None a b = nothing (at_depth depth)
fills_lex depth (Some r) None a b = fill_last depth T_FILL_RIGHT kind.FillRight (codes "fill_right") r refl fill_right_id refl a
fills_lex depth None (Some l) a b = fill_last depth T_FILL_LEFT kind.FillLeft (codes "fill_left") l refl fill_left_id refl b
fills_lex depth (Some r) (Some l) a b =
    cond_both (number_eq l r) (part.both (codes "fill") (value l)) (part.two true (codes "fill_left") (value l) (codes "fill_right") (value r)) (λ f. Lexes (at_depth depth) (at_depth depth) (fills_line f))
    (λ _. fill_last depth T_FILL kind.Fill (codes "fill") l refl fill_id refl b)
    (λ _. fill_then depth T_FILL_LEFT kind.FillLeft (codes "fill_left") l (blank ∷ token (word kind.FillRight (codes "fill_right")) ∷ value_line (value r)) refl fill_left_id refl b
    (fill_last depth T_FILL_RIGHT kind.FillRight (codes "fill_right") r refl fill_right_id refl a))
