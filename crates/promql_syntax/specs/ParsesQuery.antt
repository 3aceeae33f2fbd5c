-- What parsing a whole list of tokens gives. Private: nothing rests on believing it.
use Rattle.std.specs.Prelude.{◌≡◌, ℕ, ◌+◌, ◌<◌, ◌≤◌, List, length, Result, Ok, Err}
use Rattle.std.specs.declared.alloc.Global.{Global}
use Rattle.std.specs.declared.boxed.Box.{Box}
use Rattle.promql_ast.specs.Tree.{Tree}
use Rattle.promql_ast.specs.declared.expr.Expr.{Expr}
use Rattle.promql_grammar.specs.declared.read_error.ReadError.{ReadError}
use Rattle.promql_grammar.specs.declared.read_error.ReadError.TheVariants.{Memory, Syntax, TooDeep}
use Rattle.promql_grammar.specs.Grammar.{Derivation, yield, height, IsWellFormed}
use Rattle.promql_grammar.specs.Misfits.{AreMisfits}
use Rattle.promql_grammar.specs.Symbols.{Symbol}
use Rattle.promql_syntax.specs.declared.grammar.build_error.BuildError as code
use Rattle.promql_syntax.specs.Building.{build}
use Rattle.promql_syntax.specs.Asking.{Asked, AreAllowed, Ends}
use Rattle.promql_syntax.specs.BuildErrors.{BuildError}
use Rattle.promql_syntax.specs.FaultTokens.{subexpressions}
use Rattle.promql_syntax.specs.ParsesExpr.{IsFaultIn, view_boxed}

-- a derivation of all the tokens, within the height, builds the value
pub record IsQueryValue (n : ℕ) (ts : List Symbol) (value : Result Tree BuildError) : Type 0 where
  pub derivation : Derivation
  pub formed : IsWellFormed derivation
  pub low : height derivation ≤ n
  pub spells : yield derivation ≡ ts
  pub answers : List Asked
  pub allowed : AreAllowed answers
  pub is : Ends (build derivation) answers value

-- a value was built of a derivation of the tokens within the height, or there is none; of Syntax the tokens that are left are those
-- from the first that does not fit
abbrev pub ParsesQuery : ℕ → List Symbol → List Symbol → Result (Result (Box Expr Global) (Box code.BuildError Global)) ReadError → Type 0
ParsesQuery n ts rest (Ok value) = IsQueryValue n ts (view_boxed value)
ParsesQuery n ts rest (Err Memory) = Unit {0}
ParsesQuery n ts rest (Err Syntax) = AreMisfits ts rest
ParsesQuery n ts rest (Err TooDeep) = (n < length ts + 1) × ((d : Derivation) → IsWellFormed d → height d ≤ n → ¬ (yield d ≡ ts))

-- the fault is that of an expression in a derivation of the tokens, and the place is that of its tokens
pub record HasPlace (n : ℕ) (ts : List Symbol) (e : code.BuildError) : Type 0 where
  pub derivation : Derivation
  pub formed : IsWellFormed derivation
  pub spells : yield derivation ≡ ts
  pub fault : IsFaultIn n (subexpressions 0 derivation) e
