-- Which tokens a fault of building is about (docs/reference/grammar.md, "Places of errors"). Places in a text are told by how many of its
-- tokens are left.
use Rattle.std.specs.Prelude.{◌≡◌, ℕ, ◌+◌, Option, Some, None, List, [], ◌∷◌, ◌++◌, All, length, Ok, Err}
use Rattle.promql_grammar.specs.Grammar as grammar
use Rattle.promql_grammar.specs.Grammar.{Derivation, Arguments, yield, yield_arguments}
use Rattle.promql_grammar.specs.GrammarParts as part
use Rattle.promql_grammar.specs.GrammarParts.{yield_after, yield_modifier, yield_postfix, yield_signed}
use Rattle.promql_ast.specs.Faults.{node, bool_modifier, label_twice, no_grouping, vector_matching}
use Rattle.promql_ast.specs.Tree.{Tree}
use Rattle.promql_syntax.specs.Asking.{EndsIn}
use Rattle.promql_syntax.specs.BuildErrors.{BuildError, at, check, unknown_function}
use Rattle.promql_syntax.specs.Building.{build}

-- how many tokens come after an expression in another, and the expression
abbrev pub Subexpression : Type 0
Subexpression = (after : ℕ) × Derivation

-- the tokens of arguments and of the commas before them
abbrev pub rest_count : Arguments → ℕ
rest_count grammar.none = 0
rest_count (grammar.more d ds) = 1 + (length (yield d) + rest_count ds)

abbrev mutual
  -- those of an expression that k tokens come after, in the order in which they are built: itself after its parts
  pub subexpressions : ℕ → Derivation → List Subexpression
  subexpressions k (grammar.paren d) = subexpressions (1 + k) d ++ (k, grammar.paren d) ∷ []
  subexpressions k (grammar.call w text ds) = subexpressions_of (1 + k) ds ++ (k, grammar.call w text ds) ∷ []
  subexpressions k (grammar.aggregate op text c ds) =
      subexpressions_of (1 + (length (yield_after c) + k)) ds ++ (k, grammar.aggregate op text c ds) ∷ []
  subexpressions k (grammar.postfixed d p) = subexpressions (length (yield_postfix p) + k) d ++ (k, grammar.postfixed d p) ∷ []
  subexpressions k (grammar.unary op text d) = subexpressions k d ++ (k, grammar.unary op text d) ∷ []
  subexpressions k (grammar.binary op text m l r) =
      (subexpressions (1 + (length (yield_modifier m) + (length (yield r) + k))) l ++ subexpressions k r)
      ++ (k, grammar.binary op text m l r) ∷ []
  subexpressions k d = (k, d) ∷ []

  -- those of arguments that k tokens come after
  pub subexpressions_of : ℕ → Arguments → List Subexpression
  subexpressions_of k grammar.none = []
  subexpressions_of k (grammar.more d ds) = subexpressions (rest_count ds + k) d ++ subexpressions_of k ds

-- the first of these that does not build has the fault
abbrev pub IsFirstFault : BuildError → List Subexpression → Subexpression → Type 0
IsFirstFault fault subs sub =
    (before rest : List Subexpression) × (subs ≡ before ++ sub ∷ rest) × All (λ x. (t : Tree) × EndsIn (build x.1) (Ok t)) before
    × EndsIn (build sub.1) (Err fault)

-- the tokens that a fault of an expression is about, where it is told which: how many are left from the first of them, and after the last
abbrev modifier_tokens : ℕ → part.Modifier → Derivation → Option (ℕ × ℕ)
modifier_tokens k m r = Some (length (yield_modifier m) + (length (yield r) + k), length (yield r) + k)

abbrev pub fault_tokens : BuildError → ℕ → Derivation → Option (ℕ × ℕ)
fault_tokens (unknown_function name) k (grammar.call w text ds) = let n = length (yield_arguments [] ds) + k in Some (2 + n, 1 + n)
fault_tokens (at fault) k (grammar.postfixed d (part.at_number s text)) = Some (length (yield_signed s) + (1 + k), k)
fault_tokens (check (node fault)) k (grammar.postfixed d p) = Some (length (yield_postfix p) + k, k)
fault_tokens (check bool_modifier) k (grammar.binary op text m l r) = modifier_tokens k m r
fault_tokens (check (label_twice label)) k (grammar.binary op text m l r) = modifier_tokens k m r
fault_tokens (check (no_grouping set)) k (grammar.binary op text m l r) = modifier_tokens k m r
fault_tokens (check vector_matching) k (grammar.binary op text m l r) = modifier_tokens k m r
fault_tokens fault k d = None

-- A word for proofs: nothing rests on believing it.
abbrev pub Builds : Subexpression → Type 0
Builds (after, d) = (t : Tree) × EndsIn (build d) (Ok t)
