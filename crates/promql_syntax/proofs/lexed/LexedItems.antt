-- The lexer reads printed items one after the other.
use Rattle.std.proofs.Common.{◌≡◌, ℕ, suc, refl, sym, ◌∙◌, ap, Bool, true, false, List, [], ◌∷◌, ◌++◌, map, Ok, append_assoc}
use Rattle.std.specs.Prelude.{slice_index}
use Rattle.std.proofs.lemmas.List.{map-append}
use Rattle.promql_text.specs.Texts.{Text}
use Rattle.promql_token.specs.Classes.{is_in}
use Rattle.promql_token.specs.Laws.{is_word}
use Rattle.promql_token.specs.Lexing.{ScannedText, pieces}
use Rattle.promql_token.specs.TokenScanning.{word_id}
use Rattle.promql_token.specs.declared.class.Class.TheVariants as class
use Rattle.promql_token.specs.declared.state.State.{State}
use Rattle.promql_token.proofs.printed.Concatenation.{joins_word}
use Rattle.promql_token.proofs.one_reading.Steps.{pieces_run}
use Rattle.promql_grammar.specs.declared.token_kinds.TokenKind.{TokenKind}
use Rattle.promql_grammar.specs.declared.token_kinds.TokenKind.TheVariants as kind
use Rattle.promql_grammar.specs.Symbols.{Symbol, punct, symbol, symbol_of, word}
use Rattle.promql_syntax.proofs.lexed.Lexes.{Lexes, LexesBefore, at_depth}
use Rattle.promql_syntax.proofs.printed.PrintedItems.{Item, token, blank, newline, render, spell}
use Rattle.promql_syntax.proofs.lexed.LexedPunctuators.{close_lex, comma_lex, open_lex}
use Rattle.promql_syntax.proofs.printed.PrintedBytes.{render_append}
use Rattle.promql_syntax.proofs.printed.PrintedExprTokens.{strip_append}
use Rattle.promql_token.specs.declared.ids.TheConstants.{T_COMMA, T_LEFT_PAREN, T_RIGHT_PAREN}

-- ---- items one after the other

-- a token before a text
pub record Reads (before after : State) (s : Symbol) (r : Text) : Type 0 where
  pub id : ℕ
  pub is : symbol_of (id, spell s) ≡ s
  pub reads : pieces before (spell s ++ r) ≡ Ok (id, spell s) ∷ pieces after r

pub nothing : (a : State) → Lexes a a []
nothing a r = ([], refl, refl)

-- ---- before texts that pass a test

pub before_any : (test : Text → Bool) (a b : State) (is : List Item) → Lexes a b is → LexesBefore test a b is
before_any test a b is more r passes = more r

-- a test that lets fewer texts pass
pub before_fewer : (test fewer : Text → Bool) (a b : State) (is : List Item) → ((r : Text) → fewer r ≡ true → test r ≡ true) → LexesBefore test a b is → LexesBefore fewer a b is
before_fewer test fewer a b is weaker more r passes = more r (weaker r passes)

pub token_before : (test : Text → Bool) (a b c : State) (s : Symbol) (is : List Item) → ((r : Text) → test r ≡ true → Reads a b s (render is ++ r)) → LexesBefore test b c is → LexesBefore test a c (token s ∷ is)
token_before test a b c s is front more r passes =
    let f = front r passes in
    let m = more r passes in (
      (f.id, spell s) ∷ m.0,
      λ i. f.is i ∷ m.1 i,
      ap (pieces a) (append_assoc (spell s) (render is) r) ∙ f.reads ∙ ap (λ ws. Ok (f.id, spell s) ∷ ws) m.2,
    )

-- a token that ends the items
pub last_before : (test : Text → Bool) (a b : State) (s : Symbol) → ((r : Text) → test r ≡ true → Reads a b s r) → LexesBefore test a b (token s ∷ [])
last_before test a b s front = token_before test a b b s [] front (before_any test b b [] (nothing b))

pub blank_before : (test : Text → Bool) (depth : ℕ) (c : State) (is : List Item) → LexesBefore test (at_depth depth) c is → LexesBefore test (at_depth depth) c (blank ∷ is)
blank_before test depth c is more r passes = let m = more r passes in (m.0, m.1, pieces_run (at_depth depth) (32 ∷ []) (render is ++ r) refl refl ∙ m.2)

pub newline_before : (test : Text → Bool) (depth : ℕ) (c : State) (is : List Item) → LexesBefore test (at_depth depth) c is → LexesBefore test (at_depth depth) c (newline ∷ is)
newline_before test depth c is more r passes = let m = more r passes in (m.0, m.1, pieces_run (at_depth depth) (10 ∷ []) (render is ++ r) refl refl ∙ m.2)

pub append_before : (early late : Text → Bool) (a b c : State) (is js : List Item) → ((r : Text) → late r ≡ true → early (render js ++ r) ≡ true) → LexesBefore early a b is → LexesBefore late b c js
    → LexesBefore late a c (is ++ js)
append_before early late a b c is js meets first second r passes =
    let f = first (render js ++ r) (meets r passes) in
    let s = second r passes in (
      f.0 ++ s.0,
      map-append symbol_of f.0 s.0 ∙ (λ i. f.1 i ++ s.1 i) ∙ sym (strip_append is js),
      ap (λ z. pieces a (z ++ r)) (render_append is js) ∙ ap (pieces a) (append_assoc (render is) (render js) r) ∙ f.2
          ∙ ap (λ ws. map (λ t. Ok t) f.0 ++ ws) s.2 ∙ sym (append_assoc {A = ScannedText} (map (λ t. Ok t) f.0) (map (λ t. Ok t) s.0) (pieces c r))
          ∙ ap (λ ws. ws ++ pieces c r) (sym (map-append {B = ScannedText} (λ t. Ok t) f.0 s.0)),
    )

-- ---- before any text

abbrev any : Text → Bool
any r = true

pub token_then : (a b c : State) (s : Symbol) (is : List Item) → ((r : Text) → Reads a b s (render is ++ r)) → Lexes b c is → Lexes a c (token s ∷ is)
token_then a b c s is front more r = token_before any a b c s is (λ r passes. front r) (before_any any b c is more) r refl

pub blank_then : (depth : ℕ) (c : State) (is : List Item) → Lexes (at_depth depth) c is → Lexes (at_depth depth) c (blank ∷ is)
blank_then depth c is more r = blank_before any depth c is (before_any any (at_depth depth) c is more) r refl

pub newline_then : (depth : ℕ) (c : State) (is : List Item) → Lexes (at_depth depth) c is → Lexes (at_depth depth) c (newline ∷ is)
newline_then depth c is more r = newline_before any depth c is (before_any any (at_depth depth) c is more) r refl

pub append_lex : (a b c : State) (is js : List Item) → Lexes a b is → Lexes b c js → Lexes a c (is ++ js)
append_lex a b c is js first second r =
    append_before any any a b c is js (λ r passes. refl) (before_any any a b is first) (before_any any b c js second) r refl

-- ---- punctuation

pub open_reads : (depth : ℕ) (r : Text) → Reads (at_depth depth) (at_depth (suc depth)) (punct kind.LeftParen) r
open_reads depth r = record { id = T_LEFT_PAREN; is = refl; reads = open_lex depth r }

pub comma_reads : (depth : ℕ) (r : Text) → Reads (at_depth depth) (at_depth depth) (punct kind.Comma) r
comma_reads depth r = record { id = T_COMMA; is = refl; reads = comma_lex depth r }

pub close_reads : (depth : ℕ) (r : Text) → Reads (at_depth (suc depth)) (at_depth depth) (punct kind.RightParen) r
close_reads depth r = record { id = T_RIGHT_PAREN; is = refl; reads = close_lex depth r }

-- ---- words

pub known_reads : (depth : ℕ) (w r : Text) (id : ℕ) (k : TokenKind) → is_word w ≡ true → word_id w r ≡ id → symbol_of (id, w) ≡ word k w → is_in class.Word (slice_index r 0) ≡ false
    → Reads (at_depth depth) (at_depth depth) (word k w) r
known_reads depth w r id k is known symbol stop = record { id = id; is = symbol; reads = joins_word depth w r is stop ∙ ap (λ n. Ok (n, w) ∷ pieces (at_depth depth) r) known }
