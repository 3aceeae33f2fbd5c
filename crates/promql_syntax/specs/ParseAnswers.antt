-- The answer to a text (docs/reference/grammar.md, "The answer to a text").
use Rattle.std.specs.Prelude.{◌≡◌, ◌≢◌, ◌↔◌, ◌+◌, ◌<◌, ◌≤◌, List, [], ◌∷◌, length, map, Result, Ok, Err, string_bytes}
use Rattle.std.specs.List.{AllByRecursion}
use Rattle.promql_text.specs.Texts.{Text}
use Rattle.promql_token.specs.declared.fault.LexFault.{LexFault}
use Rattle.promql_grammar.specs.SourceTokens.{Token, tokens}
use Rattle.promql_label.specs.Answers as regex
use Rattle.promql_ast.specs.Faults as trees
use Rattle.promql_ast.specs.Height.{height as tree_height}
use Rattle.promql_ast.specs.Normal.{normal}
use Rattle.promql_ast.specs.Text.{text as line_text}
use Rattle.promql_ast.specs.Tree.{Tree}
use Rattle.promql_ast.specs.Typed.{Typed}
use Rattle.promql_grammar.specs.Grammar.{Derivation, yield, height, IsWellFormed}
use Rattle.promql_grammar.specs.Results.{on_result}
use Rattle.promql_grammar.specs.Symbols.{Symbol, symbol_of}
use Rattle.promql_syntax.specs.declared.parser.ParseError.{ParseError}
use Rattle.promql_syntax.specs.declared.parser.ParseError.TheVariants as errors
use Rattle.promql_syntax.specs.declared.parser.TheConstants.{MAX_DEPTH}
use Rattle.promql_syntax.specs.Asking.{Asked, AreAnswersOf, Ends, under}
use Rattle.promql_syntax.specs.Building.{build}
use Rattle.promql_syntax.specs.PartBuilding.{on_error}
use Rattle.promql_syntax.specs.BuildErrors.{BuildError, number, quoted, duration, at, pattern, unknown_function, check}

-- why a text has no tree, as plain data
pub data PlainParseError : Type 0 where
  memory empty syntax too_deep : PlainParseError
  lexical : LexFault → PlainParseError
  fault : BuildError → PlainParseError

abbrev pub plain_error_of : ParseError → PlainParseError
plain_error_of errors.Memory = memory
plain_error_of (errors.Lex f) = lexical f
plain_error_of errors.Empty = empty
plain_error_of errors.Syntax = syntax
plain_error_of errors.TooDeep = too_deep
plain_error_of (errors.Number f) = fault (number f)
plain_error_of errors.Quoted = fault quoted
plain_error_of (errors.Duration f) = fault (duration f)
plain_error_of (errors.At f) = fault (at f)
plain_error_of (errors.Pattern value) = fault (pattern (string_bytes value))
plain_error_of (errors.UnknownFunction name) = fault (unknown_function (string_bytes name))
plain_error_of (errors.Check f) = fault (check (trees.fault_of f))

-- the derivation is well formed, and spells the tokens of the text before its end
pub record Derives (text : Text) (d : Derivation) : Type 0 where
  pub formed : IsWellFormed d
  pub spells : on_result (map symbol_of) (tokens text) ≡ Ok (yield d)

-- a derivation of the text that is low enough builds the tree, with one answer for each pattern
abbrev pub HasTree : (Text → regex.Answer) → Text → Tree → Type 0
HasTree g text t = (d : Derivation) × Derives text d × (height d ≤ MAX_DEPTH) × (under g (build d) ≡ Ok t)

-- `regex` allows these answers, and with them the answer is what is built: where it is a tree or a fault of building, it
-- is, and where there is a derivation, nothing else is; and if each pattern has one answer, then the one-line text of a tree has the tree's
-- normal form
pub record IsServed (text : Text) (answers : List Asked) (answer : Result Tree PlainParseError) : Type 0 where
  pub allowed : AllByRecursion (λ a. regex.Allows a.about a.answer) answers
  pub built : (r : _) → answer ≡ on_error fault r → (d : Derivation) × Derives text d × (height d ≤ MAX_DEPTH) × Ends (build d) answers r
  pub only : (d : Derivation) → Derives text d → height d ≤ MAX_DEPTH → (r : _) × Ends (build d) answers r × (answer ≡ on_error fault r)
  pub reads_back : (g : Text → regex.Answer) → AreAnswersOf g answers → (t : Tree) → answer ≡ Ok t → HasTree g (line_text t) (normal t)

-- what `parse` promises of its answer to a text; only memory running out may come in place of what is built, of Syntax and of TooDeep;
-- TooDeep says that the text has more than MAX_DEPTH tokens, its end counted, and memory does not run out where no well formed
-- derivation begins with the first token
pub record IsAnswerTo (text : Text) (answer : Result Tree PlainParseError) : Type 0 where
  pub served : answer ≢ Err memory → (answers : List Asked) × IsServed text answers answer
  pub syntax : answer ≡ Err syntax → (d : Derivation) → ¬ (Derives text d)
  pub too_deep : answer ≡ Err too_deep → ((list : List Token) × (tokens text ≡ Ok list) × (MAX_DEPTH < length list + 1))
      × ((d : Derivation) → Derives text d → MAX_DEPTH < height d)
  pub empty : (answer ≡ Err empty) ↔ (tokens text ≡ Ok [])
  pub lexical : (f : LexFault) → (answer ≡ Err (lexical f)) ↔ (tokens text ≡ Err f)
  pub early : (token : Token) (rest : List Token) → tokens text ≡ Ok (token ∷ rest)
      → ((d : Derivation) (others : List Symbol) → IsWellFormed d → yield d ≢ symbol_of token ∷ others) → answer ≢ Err memory
  pub typed : (t : Tree) → answer ≡ Ok t → Typed t
  pub low : (t : Tree) → answer ≡ Ok t → tree_height t ≤ MAX_DEPTH
