-- Why the parser's functions fail, beside what parsing gives. Private: nothing rests on believing it.
use Rattle.std.specs.Prelude.{◌≡◌, List, MatchResult, Result, Err}
use Rattle.promql_grammar.specs.declared.read_error.ReadError.{ReadError}
use Rattle.promql_grammar.specs.declared.read_error.ReadError.TheVariants.{Memory, Syntax, TooDeep}
use Rattle.promql_grammar.specs.Parsing.{Stop, misfit, too_high}
use Rattle.promql_grammar.specs.Symbols.{Symbol}

-- an error, and the tokens that are left: of Syntax those from the first that does not fit
abbrev pub Failure : Type 0
Failure = ReadError × List Symbol

-- parsing fails in this way, or memory ran out
abbrev pub Fails : {A : Type 0} → Failure → Result A Stop → Type 0
Fails (Memory, rest) read = Unit {0}
Fails (Syntax, rest) read = read ≡ Err (misfit rest)
Fails (TooDeep, rest) read = read ≡ Err too_high

-- the result is a value of what parsing gives, which leaves these tokens; or parsing fails so
abbrev pub Reads : {A B : Type 0} → (B → List Symbol → Result A Stop → Type 0) → List Symbol → Result A Stop → Result B ReadError → Type 0
Reads Parses rest read result = MatchResult result (λ value. Parses value rest read) (λ e. Fails (e, rest) read)
