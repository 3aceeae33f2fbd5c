-- What is left of a text's tokens. Private: nothing rests on believing it.
use Rattle.std.specs.Prelude.{◌≡◌, ℕ, ◌+◌, ◌<◌, ◌≤◌, ◌^◌, Bool, List, [], ◌∷◌, ◌++◌, length, map, if◌then◌else◌, Option, None, Some}
use Rattle.promql_token.specs.Cursor.{tokens_left, ends_in_fault}
use Rattle.promql_token.specs.declared.cursor.Cursor as token
use Rattle.promql_grammar.specs.declared.token_kinds.TokenKind.TheVariants as kind
use Rattle.promql_grammar.specs.Symbols.{symbol, symbol_of, word, Symbol}
use Rattle.promql_grammar.specs.declared.tokens.Tokens as code
use Rattle.promql_grammar.specs.declared.tokens.Lookahead.{Lookahead}
use Rattle.promql_grammar.specs.declared.tokens.Lookahead.TheVariants.{Token, Fault, End}

-- a lexical fault, in the place of a token that no derivation has
abbrev pub fault_symbol : Symbol
fault_symbol = word kind.Other []

abbrev pub symbols_from : Lookahead → List Symbol → List Symbol
symbols_from (Token k text) rest = symbol k text.now ∷ rest
symbols_from Fault rest = fault_symbol ∷ []
symbols_from End rest = []

-- what comes where a cursor's tokens end: the fault, if there is one, or something in place of the fault or the end
abbrev pub last_symbols : Bool → Option Lookahead → List Symbol
last_symbols faulty None = if faulty then fault_symbol ∷ [] else []
last_symbols faulty (Some last) = symbols_from last []

-- the symbols that a cursor gives, and what comes then
abbrev pub cursor_symbols : token.Cursor → Option Lookahead → List Symbol
cursor_symbols c last = map symbol_of (tokens_left c) ++ last_symbols (ends_in_fault c) last

abbrev pub symbols_left : code.Tokens → List Symbol
symbols_left ts = symbols_from ts.lookahead (cursor_symbols ts.rest ts.last)

-- fewer are left of the one than of the other, or no more
abbrev pub IsShorter : code.Tokens → code.Tokens → Type 0
IsShorter new old = length (symbols_left new) < length (symbols_left old)

abbrev pub IsNoLonger : code.Tokens → code.Tokens → Type 0
IsNoLonger new old = length (symbols_left new) ≤ length (symbols_left old)

-- how many tokens were taken, so the index of the first that is left
abbrev pub tokens_taken : code.Tokens → ℕ
tokens_taken ts = ts.index

-- how many there are in all: a lexical fault is counted as one
abbrev pub token_count : code.Tokens → ℕ
token_count ts = tokens_taken ts + length (symbols_left ts)

-- from `old` to `new` as many were taken as are not left any more; the counter would wrap at 2 ^ 64
abbrev pub CountsTaken : code.Tokens → code.Tokens → Type 0
CountsTaken old new = token_count old < 2 ^ 64 → token_count new ≡ token_count old
