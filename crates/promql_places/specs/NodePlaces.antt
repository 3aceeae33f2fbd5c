-- Where the nodes of a tree are in its text (docs/reference/walks.md, "Places").
use Rattle.std.specs.Prelude.{◌≡◌, ℕ, ◌+◌, ◌<◌, ◌≤◌, Bool, true, false, not, ◌&&◌, ◌==◌, if◌then◌else◌, List, [], ◌∷◌, ◌++◌, length, map, Ok, take}
use Rattle.std.specs.List.{AllZip}
use Rattle.promql_text.specs.Texts.{Text}
use Rattle.promql_token.specs.declared.ids.TheConstants.{T_SUB}
use Rattle.promql_token.specs.declared.lexeme.Lexeme.{Lexeme}
use Rattle.promql_grammar.specs.Grammar as grammar
use Rattle.promql_grammar.specs.Grammar.{Derivation, Arguments, yield}
use Rattle.promql_grammar.specs.GrammarParts as part
use Rattle.promql_grammar.specs.GrammarParts.{yield_after, yield_modifier, yield_postfix}
use Rattle.promql_ast.specs.Fold.{folded}
use Rattle.promql_ast.specs.Tree.{Tree}
use Rattle.promql_syntax.specs.Asking.{EndsIn}
use Rattle.promql_syntax.specs.Building.{build}
use Rattle.promql_syntax.specs.FaultTokens.{Subexpression, rest_count}
use Rattle.promql_syntax.specs.ParseAnswers.{Derives}
use Rattle.promql_span.specs.PlacedTokens.{last_tokens, placed_tokens}
use Rattle.promql_span.specs.TokenSpans.{span_over}
use Rattle.promql_span.specs.declared.span.Span.{Span}

-- a number, maybe with signs
abbrev pub is_number : Derivation → Bool
is_number (grammar.number text) = true
is_number (grammar.duration text) = true
is_number (grammar.unary op text d) = is_number d
is_number d = false

-- a plus has no node, and neither has a minus before a number
abbrev pub has_node : ℕ → Derivation → Bool
has_node op d = op == T_SUB && not (is_number d)

abbrev mutual
  -- the nodes below that of an expression which k tokens come after, each before those below it. What has no node of its
  -- own, a sign or a postfix other than a subquery, belongs to the node of what it changes.
  pub nodes_below : ℕ → Derivation → List Subexpression
  nodes_below k (grammar.paren d) = ((1 + k), d) ∷ nodes_below (1 + k) d
  nodes_below k (grammar.call w text ds) = argument_nodes (1 + k) ds
  nodes_below k (grammar.aggregate op text c ds) = argument_nodes (1 + (length (yield_after c) + k)) ds
  nodes_below k (grammar.postfixed d (part.subquery t s)) =
      let after = length (yield_postfix (part.subquery t s)) + k in (after, d) ∷ nodes_below after d
  nodes_below k (grammar.postfixed d p) = nodes_below (length (yield_postfix p) + k) d
  nodes_below k (grammar.unary op text d) = if has_node op d then (k, d) ∷ nodes_below k d else nodes_below k d
  nodes_below k (grammar.binary op text m l r) =
      let after = 1 + (length (yield_modifier m) + (length (yield r) + k)) in
      (after, l) ∷ (nodes_below after l ++ (k, r) ∷ nodes_below k r)
  nodes_below k d = []

  -- those of arguments that k tokens come after
  pub argument_nodes : ℕ → Arguments → List Subexpression
  argument_nodes k grammar.none = []
  argument_nodes k (grammar.more d ds) = ((rest_count ds + k), d) ∷ (nodes_below (rest_count ds + k) d ++ argument_nodes k ds)

-- the nodes of an expression
abbrev pub nodes : ℕ → Derivation → List Subexpression
nodes k d = (k, d) ∷ nodes_below k d

-- ---- the nodes of a tree

-- in the order of a walk: a node, and those within it
abbrev pub tree_nodes : Tree → List Tree
tree_nodes = folded [] ◌++◌ ◌∷◌

-- each of the expressions builds its node
abbrev pub BuildEach : List Subexpression → List Tree → Type 0
BuildEach = AllZip (λ sub t. EndsIn (build sub.1) (Ok t))

-- ---- their places

-- so many tokens of this text, up to so many last ones
abbrev pub tokens_at : Text → ℕ → ℕ → List Lexeme
tokens_at s count after = take count (last_tokens (count + after) (placed_tokens s))

-- from the first token of an expression through the last
abbrev pub place_of : Text → Subexpression → Span
place_of s sub = span_over s (tokens_at s (length (yield sub.1)) sub.0)

-- what f gives for the expressions of a text that build the nodes of its tree
abbrev pub AreOfNodes : {A : Type 0} → (Subexpression → A) → Text → Tree → List A → Type 0
AreOfNodes f s t xs = (d : Derivation) × Derives s d × BuildEach (nodes 0 d) (tree_nodes t) × (xs ≡ map f (nodes 0 d))

-- ---- laws

-- tokens, which lie within these: k come after the last, and n are left at the first
abbrev pub LieWithin : ℕ → ℕ → ℕ → ℕ → Type 0
LieWithin k n count after = (0 < count) × (k ≤ after) × (count + after ≤ n)
