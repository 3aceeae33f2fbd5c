-- A printed tree has the tokens of its derivation.
use Rattle.std.proofs.Common.{◌≡◌, ◌+◌, refl, sym, ◌∙◌, ap, Bool, true, false, cond, ◌&&◌, List, [], ◌∷◌, ◌++◌, append-nil, map, Ok}
use Rattle.std.specs.Prelude.{drop, filter}
use Rattle.std.specs.List.{list_all}
use Rattle.std.proofs.lemmas.List.{map-append}
use Rattle.promql_text.specs.Texts.{Text}
use Rattle.promql_token.specs.Cursor.{is_before_end}
use Rattle.promql_token.specs.Lexing.{ScannedText, state_after_scan, found, goes_on, len_of, start, pieces}
use Rattle.promql_token.specs.Lexing as lexing
use Rattle.promql_token.specs.declared.ids.TheConstants.{T_EOF}
use Rattle.promql_token.specs.declared.state.State.{State}
use Rattle.promql_grammar.specs.SourceTokens.{Token, tokens}
use Rattle.promql_token.proofs.one_reading.Spans.{lexes}
use Rattle.promql_token.proofs.one_reading.Steps.{pieces_end, pieces_are}
use Rattle.promql_grammar.specs.Grammar.{Derivation, IsWellFormed, yield}
use Rattle.promql_grammar.specs.Results.{on_result}
use Rattle.promql_grammar.specs.Symbols.{symbol_of}
use Rattle.promql_syntax.specs.ParseAnswers.{Derives}
use Rattle.promql_syntax.proofs.parsing.Booleans.{and_cases}
use Rattle.promql_syntax.proofs.lexed.Lexes.{LexesBefore, at_depth, is_clear}
use Rattle.promql_syntax.proofs.printed.PrintedItems.{Item, render, strip}

-- ---- the end

abbrev tokens_read : List Token → List ScannedText
tokens_read ts = map (λ t. Ok t) ts

abbrev after_first : State → Text → List ScannedText
after_first state z = let f = found state z in pieces (state_after_scan state f.scanned_text) (drop (f.trivia + len_of f.scanned_text) z)

-- what is read before something else is no end
before_end : (ts : List Token) (w : ScannedText) (state : State) (z : Text) → pieces state z ≡ tokens_read ts ++ (w ∷ []) → list_all is_before_end ts ≡ true
before_end [] w state z e = refl
before_end (t ∷ ts) w state z e = go (goes_on (found state z).scanned_text) refl (sym (pieces_are state z) ∙ e) (λ h. before_end ts w _ _ h)
  where
    some : (us : List Token) → ◌≡◌ {A = List ScannedText} [] (tokens_read us ++ (w ∷ [])) → ⊥
    some [] e = cc
    some (u ∷ us) e = cc

    go : (b : Bool) → goes_on (found state z).scanned_text ≡ b → ◌≡◌ {A = List ScannedText} ((found state z).scanned_text ∷ cond b (after_first state z) []) (Ok t ∷ (tokens_read ts ++ (w ∷ [])))
        → (after_first state z ≡ tokens_read ts ++ (w ∷ []) → list_all is_before_end ts ≡ true) → list_all is_before_end (t ∷ ts) ≡ true
    go true goes e later =
        let first : (found state z).scanned_text ≡ Ok t = cc in
        let rest : after_first state z ≡ tokens_read ts ++ (w ∷ []) = cc in
        let here : is_before_end t ≡ true = ap goes_on (sym first) ∙ goes in
        ap (λ b. b && list_all is_before_end ts) here ∙ later rest
    go false goes e later = let rest : ◌≡◌ {A = List ScannedText} [] (tokens_read ts ++ (w ∷ [])) = cc in absurd (some ts rest)

abbrev the_end : List Token
the_end = (T_EOF, []) ∷ []

without_end : (ts : List Token) → list_all is_before_end ts ≡ true → filter is_before_end (ts ++ the_end) ≡ ts
without_end [] all = refl
without_end (t ∷ ts) all =
    let both = and_cases (is_before_end t) _ all in
    let rest = filter is_before_end (ts ++ the_end) in
    ap (λ b. cond b (t ∷ rest) rest) both.0 ∙ ap (λ us. t ∷ us) (without_end ts both.1)

-- ---- texts

-- what is read to the end outside is the token list
token_list : (z : Text) (ts : List Token) → pieces start z ≡ tokens_read ts ++ pieces start [] → tokens z ≡ Ok ts
token_list z ts is =
    let whole : pieces start z ≡ tokens_read ts ++ (Ok (T_EOF, []) ∷ []) = is ∙ ap (λ ws. tokens_read ts ++ ws) pieces_end in
    let all : lexing.tokens z ≡ Ok (ts ++ the_end) = lexes z (ts ++ the_end) (whole ∙ sym (map-append {B = ScannedText} (λ t. Ok t) ts the_end)) in
    ap (on_result (filter is_before_end)) all ∙ ap (λ us. Ok us) (without_end ts (before_end ts (Ok (T_EOF, [])) start z whole))

-- where items are read as the tokens of a derivation, their text derives it
pub items_derive : (is : List Item) (d : Derivation) → LexesBefore is_clear (at_depth 0) (at_depth 0) is → strip is ≡ yield d → IsWellFormed d → Derives (render is) d
items_derive is d reads same formed =
    let front = reads [] refl in
    let whole : pieces start (render is) ≡ tokens_read front.0 ++ pieces start [] = ap (pieces start) (sym (append-nil (render is))) ∙ front.2 in
    record { formed = formed; spells = ap (on_result (map symbol_of)) (token_list (render is) front.0 whole) ∙ ap (λ ts. Ok ts) (front.1 ∙ same) }
