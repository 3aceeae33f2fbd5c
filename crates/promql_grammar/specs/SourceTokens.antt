-- The tokens of a text before its end (docs/reference/grammar.md, "Tokens").
use Rattle.std.specs.Prelude.{ℕ, Bool, not, ◌==◌, List, length, Result, filter}
use Rattle.promql_text.specs.Texts.{Text}
use Rattle.promql_token.specs.declared.fault.LexFault.{LexFault}
use Rattle.promql_token.specs.Cursor.{is_before_end}
use Rattle.promql_token.specs.Lexing as lexing
use Rattle.promql_grammar.specs.Results.{on_result}

-- a token is its id and its text
abbrev pub Token : Type 0
Token = ℕ × Text

-- the tokens of a text before its end, or its lexical fault
abbrev pub tokens : Text → Result (List Token) LexFault
tokens text = on_result (filter is_before_end) (lexing.tokens text)

-- whether there is a token; for proofs
abbrev pub has_any : Result (List Token) LexFault → Result Bool LexFault
has_any tokens = on_result (λ ts. not (length ts == 0)) tokens
