-- Names of metrics: words, and none of them empty.
use Rattle.std.proofs.Common.{◌≡◌, ◌≢◌, refl, sym, ◌∙◌, ap, subst, true, false, cond, Some, None, Result, Ok, Err, List, [], ◌∷◌, map}
use Rattle.std.specs.Str.{bytes_eq}
use Rattle.std.proofs.lemmas.Slice.Eq.{bytes_eq-Decides}
use Rattle.promql_text.specs.Texts.{Text}
use Rattle.promql_token.specs.Lexing.{cut, found, lex}
use Rattle.promql_token.specs.TokenScanning.{after_trivia}
use Rattle.promql_token.specs.TokenScanning.{outside, scan_token, trivia_len}
use Rattle.promql_token.specs.declared.fault.LexFault.{LexFault}
use Rattle.promql_grammar.specs.Grammar as grammar
use Rattle.promql_grammar.specs.Results.{on_result}
use Rattle.promql_grammar.specs.Symbols.{is_punct, may_be_name, punct, symbol_of, token_kind, word}
use Rattle.promql_grammar.specs.declared.token_kinds.TokenKind.{TokenKind}
use Rattle.promql_grammar.specs.declared.token_kinds.TokenKind.TheVariants as kind
use Rattle.promql_grammar.specs.SourceTokens.{Token, tokens}
use Rattle.promql_syntax.proofs.parsing.Booleans.{and_cases}
use Rattle.promql_syntax.proofs.printed.PrintedParts.{word_kind}
use Rattle.promql_syntax.proofs.readback.SpelledWords.{has_words}
use Rattle.promql_rewrite.specs.PrintableConditions.{PrintableName}
use Rattle.promql_rewrite.specs.Renaming.{is_name, is_name_in}

-- ---- no name is empty

empty : is_name [] ≡ false
unfolding lex cut found trivia_len after_trivia scan_token outside
empty = refl

pub some_name : (name : Text) → is_name name ≡ true → name ≢ []
some_name [] is same = let both : true ≡ false = sym is ∙ empty in cc
some_name (b ∷ name) is same = cc

-- ---- a name is a word

no_punct : (k : TokenKind) → may_be_name k ≡ true → is_punct k ≡ false
no_punct kind.LeftParen may = cc
no_punct kind.RightParen may = cc
no_punct kind.LeftBrace may = cc
no_punct kind.RightBrace may = cc
no_punct kind.LeftBracket may = cc
no_punct kind.RightBracket may = cc
no_punct kind.Comma may = cc
no_punct kind.Colon may = cc
no_punct kind.Equal may = cc
no_punct kind.EqualRegex may = cc
no_punct kind.NotEqualRegex may = cc
no_punct kind.At may = cc
no_punct k may = refl

by_tokens : (name : Text) (r : Result (List Token) LexFault) → tokens name ≡ r → is_name_in name r ≡ true → PrintableName (Some name)
unfolding word_kind
by_tokens name (Err f) lexed h = cc
by_tokens name (Ok []) lexed h = cc
by_tokens name (Ok (t ∷ u ∷ ts)) lexed h = cc
by_tokens name (Ok (t ∷ [])) lexed h =
    let both = and_cases (bytes_eq t.1 name) (may_be_name (token_kind t.0)) h in
    let same : t.1 ≡ name = (bytes_eq-Decides t.1 name).0 both.0 in
    let plain = no_punct (token_kind t.0) both.1 in
    let spells : on_result (map symbol_of) (tokens name) ≡ Ok (word (token_kind t.0) name ∷ []) =
    ap (on_result (map symbol_of)) lexed ∙ (λ i. Ok (cond (plain i) (punct (token_kind t.0)) (word (token_kind t.0) (same i)) ∷ [])) in
    let w = has_words name (grammar.selector (token_kind t.0) name None) (record { formed = both.1; spells = spells }) in
    (w.letters, subst (λ k. may_be_name k ≡ true) w.kind both.1)

pub named_word : (name : Text) → is_name name ≡ true → PrintableName (Some name)
named_word name is = by_tokens name (tokens name) refl is
