-- What the parser's functions return, beside what parsing gives. Private: nothing rests on believing it.
use Rattle.std.specs.Prelude.{◌≡◌, ◌+◌, ◌<◌, ◌≤◌, ◌^◌, ℕ, Bool, true, length, List, [], All, Option, Some, None, Result, Ok, Err, MatchResult}
use Rattle.promql_grammar.specs.Failures.{Fails, Failure}
use Rattle.promql_ast.specs.Faults.{Verdict, passes, rejected}
use Rattle.promql_ast.specs.Tree.{Tree, Trees}
use Rattle.promql_ast.specs.View.{tree_of, trees_of}
use Rattle.promql_ast.specs.declared.expr.Expr.{Expr}
use Rattle.std.specs.declared.alloc.Global.{Global}
use Rattle.std.specs.declared.boxed.Box.{Box}
use Rattle.promql_kind.specs.Modifiers.{Matching}
use Rattle.promql_kind.specs.ModifierViews.{matching_of}
use Rattle.promql_kind.specs.declared.bin_modifier.BinModifier.{BinModifier}
use Rattle.promql_grammar.specs.GrammarParts.{Modifier}
use Rattle.promql_grammar.specs.declared.read_error.ReadError.{ReadError}
use Rattle.promql_grammar.specs.Grammar as grammar
use Rattle.promql_grammar.specs.Parsing.{Read, parse_modifier, parse_postfixes}
use Rattle.promql_grammar.specs.Symbols.{Symbol}
use Rattle.promql_syntax.specs.declared.grammar.parsed.ParsedArgs.{ParsedArgs}
use Rattle.promql_syntax.specs.declared.grammar.parsed.ParsedExpr.{ParsedExpr}
use Rattle.promql_syntax.specs.Asking.{EndsIn}
use Rattle.promql_syntax.specs.Building.{build, build_all}
use Rattle.promql_syntax.specs.BuildErrors.{BuildError, build_error_of, check, view_result}
use Rattle.promql_syntax.specs.FaultTokens.{Builds, IsFirstFault, Subexpression, fault_tokens, subexpressions, subexpressions_of}
use Rattle.promql_syntax.specs.PartBuilding.{modifier_value}
use Rattle.promql_syntax.specs.Placing.{AreTokens}
use Rattle.promql_syntax.specs.declared.grammar.build_error.BuildError as code

-- the tree or the error in a box
abbrev pub view_boxed : Result (Box Expr Global) (Box code.BuildError Global) → Result Tree BuildError
view_boxed (Ok e) = Ok (tree_of e.value)
view_boxed (Err f) = Err (build_error_of f.value)

-- the tree that was built, or the error
abbrev pub tree_result : ParsedExpr → Result Tree BuildError
tree_result parsed = view_boxed parsed.value

abbrev pub trees_result : ParsedArgs → Result Trees BuildError
trees_result args = elim args.value [ Ok a ↦ Ok (trees_of a.args.items) | Err f ↦ Err (build_error_of f.value) ]

-- the tree of a builder or the checks, or the error
abbrev pub outcome : Verdict → Result Tree BuildError
outcome (passes t) = Ok t
outcome (rejected fault) = Err (check fault)

-- arguments before one more
abbrev pub append_derivation : grammar.Arguments → grammar.Derivation → grammar.Arguments
append_derivation grammar.none d = grammar.more d grammar.none
append_derivation (grammar.more e ds) d = grammar.more e (append_derivation ds d)

-- an error is that of the first of these that does not build, at its tokens
pub record IsFaultIn (n : ℕ) (subs : List Subexpression) (e : code.BuildError) : Type 0 where
  pub sub : Subexpression
  pub first : IsFirstFault (build_error_of e) subs sub
  pub place : AreTokens n (fault_tokens (build_error_of e) sub.0 sub.1) e.place

-- all of these build, or the first that does not has the error
abbrev pub IsPlaced : {V : Type 0} → ℕ → List Subexpression → Result V (Box code.BuildError Global) → Type 0
IsPlaced n subs (Ok value) = All Builds subs
IsPlaced n subs (Err e) = IsFaultIn n subs e.value

-- what was built of a derivation where it is built, and its height; an error's place by how many of n tokens are left, k of them
-- after the derivation
pub record IsExprOf (builds : Bool) (n k : ℕ) (parsed : ParsedExpr) (d : grammar.Derivation) : Type 0 where
  pub tall : parsed.height ≡ grammar.height d
  pub built : builds ≡ true → EndsIn (build d) (tree_result parsed)
  pub placed : builds ≡ true → n < 2 ^ 64 → IsPlaced n (subexpressions k d) parsed.value

pub record AreArgsOf (builds : Bool) (n k : ℕ) (args : ParsedArgs) (ds : grammar.Arguments) : Type 0 where
  pub tall : args.height ≡ grammar.greatest_height ds
  pub built : builds ≡ true → EndsIn (build_all ds) (trees_result args)
  pub placed : builds ≡ true → n < 2 ^ 64 → IsPlaced n (subexpressions_of k ds) args.value

-- an expression was parsed, and these tokens are left
pub record ParsesExpr (builds : Bool) (n : ℕ) (parsed : ParsedExpr) (rest : List Symbol) (read : Read grammar.Derivation) : Type 0 where
  pub derivation : grammar.Derivation
  pub is : read ≡ Ok (derivation, rest)
  pub built : IsExprOf builds n (length rest) parsed derivation

pub record ParsesArgs (builds : Bool) (n : ℕ) (args : ParsedArgs) (ts rest : List Symbol) (read : Read grammar.Arguments) : Type 0 where
  pub derivations : grammar.Arguments
  pub is : read ≡ Ok (derivations, rest)
  pub taken : length ts ≡ length (grammar.yield_arguments [] derivations) + length rest
  pub built : AreArgsOf builds n (1 + length rest) args derivations

-- a base was parsed, whatever postfixes follow: at most k, up to height n
pub record ParsesBase (builds : Bool) (n : ℕ) (parsed : ParsedExpr) (rest : List Symbol) (read : ℕ → ℕ → Read grammar.Derivation) : Type 0 where
  pub derivation : grammar.Derivation
  pub is : (k h : ℕ) → read k h ≡ parse_postfixes k h derivation rest
  pub built : IsExprOf builds n (length rest) parsed derivation

abbrev pub FailsBase : Failure → (ℕ → ℕ → Read grammar.Derivation) → Type 0
FailsBase failure read = (k n : ℕ) → Fails failure (read k n)

-- the result is a base that parsing gives, which leaves these tokens; or parsing fails so
abbrev pub ReadsBase : Bool → ℕ → List Symbol → (ℕ → ℕ → Read grammar.Derivation) → Result ParsedExpr ReadError → Type 0
ReadsBase builds n rest read result = MatchResult result (λ parsed. ParsesBase builds n parsed rest read) (λ e. FailsBase (e, rest) read)

-- the postfixes of a base were parsed, where the whole is of height at most h; `count` is how many tokens there are
abbrev pub ParsesPostfixes : Bool → ℕ → ℕ → ParsedExpr → List Symbol → List Symbol → Result ParsedExpr ReadError → Type 0
ParsesPostfixes builds count h base ts rest result =
    (n : ℕ) (d : grammar.Derivation) (k : ℕ) → (n < 2 ^ 64 → count ≡ n) → IsExprOf builds n (length ts) base d → length ts ≤ k
    → MatchResult result (λ parsed. ParsesExpr builds n parsed rest (parse_postfixes k h d ts)) (λ e. Fails (e, rest) (parse_postfixes k h d ts))

-- ---- what waits in a box: nothing, or a value or error

abbrev pub modifier_of : Option (Box (Result BinModifier (Box code.BuildError Global)) Global) → Result (Option Matching) BuildError
modifier_of None = Ok None
modifier_of (Some m) = view_result (λ x. Some (matching_of x)) m.value

-- a modifier was parsed
pub record ParsesModifier (boxed : Option (Box (Result BinModifier (Box code.BuildError Global)) Global)) (rest : List Symbol) (read : Read Modifier) : Type 0 where
  pub part : Modifier
  pub is : read ≡ Ok (part, rest)
  pub built : modifier_of boxed ≡ modifier_value part

abbrev pub GivesModifier : List Symbol → List Symbol → Result (Option (Box (Result BinModifier (Box code.BuildError Global)) Global)) ReadError → Type 0
GivesModifier ts rest result = MatchResult result (λ boxed. ParsesModifier boxed rest (parse_modifier ts)) (λ e. Fails (e, rest) (parse_modifier ts))
