-- The tokens of a text, and what the loop over them keeps.
use Rattle.std.proofs.Common.{◌≡◌, ℕ, suc, Bool, true, false, List, [], ◌∷◌, length, refl, sym, ap, ◌∙◌, arith}
use Rattle.std.specs.Prelude.{◌==◌, ◌||◌, not, Result, Ok, Err, filter}
use Rattle.std.specs.List.{list_any}
use Rattle.std.proofs.lemmas.Bool.{cond-true, cond-false}
use Rattle.std.proofs.lemmas.Bool.Decides.{nat_tests}
use Rattle.promql_token.specs.declared.lexeme.Lexeme.{Lexeme}
use Rattle.promql_token.specs.declared.fault.LexFault.{LexFault}
use Rattle.promql_token.specs.Lexing.{slice_texts, result_texts, text_at, collect_items, items, lex}
use Rattle.promql_token.specs.Cursor.{is_before_end}
use Rattle.promql_grammar.specs.Results.{on_result}
use Rattle.promql_text.specs.Texts.{Text}
use Rattle.promql_grammar.specs.SourceTokens.{Token, has_any, tokens}
use Rattle.promql_token.specs.declared.ids.TheConstants.{T_EOF}

abbrev pub is_token : Lexeme → Bool
is_token x = not (x.id == T_EOF)

abbrev pub any_token : Result (List Lexeme) LexFault → Result Bool LexFault
any_token lexed = on_result (list_any is_token) lexed

-- tokens were seen before the rest
abbrev pub or_any : Bool → Result Bool LexFault → Result Bool LexFault
or_any some (Ok more) = Ok (some || more)
or_any some (Err e) = Err e

-- the tokens of lexemes, without the end
abbrev pub tokens_of_lexemes : Text → List Lexeme → List Token
tokens_of_lexemes s xs = filter is_before_end (slice_texts s xs)

listed-token : (s : Text) (x : Lexeme) (xs : List Lexeme) → is_token x ≡ true → tokens_of_lexemes s (x ∷ xs) ≡ (x.id, text_at s x) ∷ tokens_of_lexemes s xs
listed-token s x xs token = cond-true (is_token x) _ _ token

listed-end : (s : Text) (x : Lexeme) (xs : List Lexeme) → is_token x ≡ false → tokens_of_lexemes s (x ∷ xs) ≡ tokens_of_lexemes s xs
listed-end s x xs end = cond-false (is_token x) _ _ end

pub some_zero : (n : ℕ) → (suc n == 0) ≡ false
some_zero n = grind (arith, nat_tests)

-- there is a token in the list where a lexeme is one
some_listed : (s : Text) (xs : List Lexeme) → not (length (tokens_of_lexemes s xs) == 0) ≡ list_any is_token xs
some_listed s [] = refl
some_listed s (x ∷ xs) = by_test (is_token x) refl (some_listed s xs)
  where
    by_test : (b : Bool) → is_token x ≡ b → not (length (tokens_of_lexemes s xs) == 0) ≡ list_any is_token xs → not (length (tokens_of_lexemes s (x ∷ xs)) == 0) ≡ list_any is_token (x ∷ xs)
    by_test true token rest = ap (λ l. not (length l == 0)) (listed-token s x xs token) ∙ ap not (some_zero (length (tokens_of_lexemes s xs))) ∙ sym (ap (λ b. b || list_any is_token xs) token)
    by_test false end rest = ap (λ l. not (length l == 0)) (listed-end s x xs end) ∙ rest ∙ sym (ap (λ b. b || list_any is_token xs) end)

pub any_listed : (s : Text) (r : Result (List Lexeme) LexFault) → has_any (on_result (filter is_before_end) (result_texts s r)) ≡ any_token r
any_listed s (Ok xs) = ap Ok (some_listed s xs)
any_listed s (Err e) = refl

pub has_any_tokens : (s : Text) → has_any (tokens s) ≡ any_token (collect_items (items s))
unfolding lex
has_any_tokens s = any_listed s (collect_items (items s))

-- the list is what the lexer gives, without the end
pub whole_list : (r : Result (List Token) LexFault) (list : List Token) → on_result (filter is_before_end) r ≡ Ok list → (ts : List Token) × (r ≡ Ok ts) × (filter is_before_end ts ≡ list)
whole_list (Ok ts) list is = (ts, refl, cc)
whole_list (Err e) list is = cc
