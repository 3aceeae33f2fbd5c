-- Worked texts with their tokens or faults (docs/reference/tokens.md, "Worked texts").
use Rattle.std.specs.Prelude.{ℕ, List, [], ◌∷◌, ◌++◌, codes, Option, Some, None, Result, Ok, Err}
use Rattle.promql_token.specs.declared.fault.LexFault.{LexFault}
use Rattle.promql_token.specs.declared.fault.LexFaultKind.{LexFaultKind}
use Rattle.promql_token.specs.declared.fault.LexFaultKind.TheVariants.{UnclosedParen, AfterEqual, AfterBang, BangAtEnd, AfterDot, DotAtEnd, RightParen, RightBrace, RightBracket, Character, Numeral, Escape, EscapeAtEnd, OpenString, AfterBangInBraces, BraceInBraces, InBraces, EndInBraces, SecondColon, FirstColon, BracketInBrackets, InBrackets, EndInBrackets}
use Rattle.promql_token.specs.declared.ids.TheConstants.{T_ADD, T_COLON, T_DURATION, T_EOF, T_FILL, T_IDENTIFIER, T_LEFT_BRACE, T_LEFT_BRACKET, T_LEFT_PAREN, T_LOR, T_NUMBER, T_RIGHT_BRACE, T_RIGHT_BRACKET, T_RIGHT_PAREN, T_STRING}
use Rattle.promql_token.specs.declared.lexeme.Lexeme.{Lexeme}
use Rattle.promql_text.specs.Texts.{Text, code}

abbrev pub token : ℕ → ℕ → ℕ → Lexeme
token id start len = record { id = id; start = start; len = len }

abbrev pub fault : LexFaultKind → ℕ → Option ℕ → Result (List Lexeme) LexFault
fault kind at ch = Err (record { kind = kind; at = at; ch = ch })

pub record ExampleTokens (Gives : Text → Result (List Lexeme) LexFault → Type 0) : Type 0 where
  pub fill_word : Gives (codes "fill (1)") (Ok (token T_FILL 0 4 ∷ token T_LEFT_PAREN 5 1 ∷ token T_NUMBER 6 1 ∷ token T_RIGHT_PAREN 7 1 ∷ token T_EOF 8 0 ∷ []))
  pub fill_name : Gives (codes "fill 1") (Ok (token T_IDENTIFIER 0 4 ∷ token T_NUMBER 5 1 ∷ token T_EOF 6 0 ∷ []))
  pub or_words : Gives (codes "{or or}") (Ok (token T_LEFT_BRACE 0 1 ∷ token T_LOR 1 2 ∷ token T_IDENTIFIER 4 2 ∷ token T_RIGHT_BRACE 6 1 ∷ token T_EOF 7 0 ∷ []))
  pub duration : Gives (codes "5m30s") (Ok (token T_DURATION 0 5 ∷ token T_EOF 5 0 ∷ []))
  pub hexadecimal : Gives (codes "0x1e+5") (Ok (token T_NUMBER 0 4 ∷ token T_ADD 4 1 ∷ token T_NUMBER 5 1 ∷ token T_EOF 6 0 ∷ []))
  pub bare_exponent : Gives (codes "1e") (Ok (token T_NUMBER 0 2 ∷ token T_EOF 2 0 ∷ []))
  pub comment : Gives (codes "a # b" ++ code "\n" ∷ codes "c") (Ok (token T_IDENTIFIER 0 1 ∷ token T_IDENTIFIER 6 1 ∷ token T_EOF 7 0 ∷ []))
  pub raw_string : Gives (code "`" ∷ code "\\" ∷ 113 ∷ code "`" ∷ []) (Ok (token T_STRING 0 4 ∷ token T_EOF 4 0 ∷ []))
  pub spaced_colon : Gives (codes "foo[ :5m]") (Ok (token T_IDENTIFIER 0 3 ∷ token T_LEFT_BRACKET 3 1 ∷ token T_COLON 5 1 ∷ token T_DURATION 6 2 ∷ token T_RIGHT_BRACKET 8 1 ∷ token T_EOF 9 0 ∷ []))

pub record ExampleFaults (Gives : Text → Result (List Lexeme) LexFault → Type 0) : Type 0 where
  pub unclosed_paren : Gives (codes "(1") (fault UnclosedParen 2 None)
  pub after_equal : Gives (codes "a=~b") (fault AfterEqual 2 None)
  pub after_bang : Gives (codes "a !b") (fault AfterBang 3 (Some 98))
  pub bang_at_end : Gives (codes "a!") (fault BangAtEnd 2 None)
  pub bang_at_end_in_braces : Gives (codes "{a!") (fault BangAtEnd 3 None)
  pub after_dot : Gives (codes "1 .a") (fault AfterDot 3 (Some 97))
  pub dot_at_end : Gives (codes "a .") (fault DotAtEnd 2 None)
  pub right_paren : Gives (codes "(1))") (fault RightParen 3 None)
  pub right_brace : Gives (codes "a}") (fault RightBrace 1 None)
  pub right_bracket : Gives (codes "a]") (fault RightBracket 1 None)
  pub character : Gives (codes "a{b=" ++ code "\"" ∷ 195 ∷ 169 ∷ code "\"" ∷ codes "} ~") (fault Character 10 (Some 126))
  pub numeral : Gives (codes "1x2") (fault Numeral 0 None)
  pub numeral_in_brackets : Gives (codes "a[5x]") (fault Numeral 2 None)
  pub escape : Gives (code "\"" ∷ code "\\" ∷ 113 ∷ code "\"" ∷ []) (fault Escape 2 (Some 113))
  pub wide_escape : Gives (code "\"" ∷ code "\\" ∷ 195 ∷ 169 ∷ code "\"" ∷ []) (fault Escape 2 (Some 233))
  pub escape_at_end : Gives (code "\"" ∷ 97 ∷ code "\\" ∷ []) (fault EscapeAtEnd 3 None)
  pub open_string : Gives (codes "a 'b") (fault OpenString 2 (Some 39))
  pub after_bang_in_braces : Gives (codes "{a!b") (fault AfterBangInBraces 3 (Some 98))
  pub brace_in_braces : Gives (codes "{{") (fault BraceInBraces 1 None)
  pub in_braces : Gives (codes "{a=1}") (fault InBraces 3 (Some 49))
  pub end_in_braces : Gives (codes "a b {") (fault EndInBraces 5 None)
  pub second_colon : Gives (codes "a[5m:1m:") (fault SecondColon 7 None)
  pub first_colon : Gives (codes "foo[:5m]") (fault FirstColon 4 None)
  pub bracket_in_brackets : Gives (codes "a[[") (fault BracketInBrackets 2 None)
  pub in_brackets : Gives (codes "a[b]") (fault InBrackets 2 (Some 98))
  pub no_comment : Gives (codes "a[5m # ]") (fault InBrackets 5 (Some 35))
  pub end_in_brackets : Gives (codes "a[5m ") (fault EndInBrackets 5 None)
