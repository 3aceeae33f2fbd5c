-- A tree with its own parts changed: the selectors, the clauses of aggregations and the matchings of operators
-- (docs/reference/tree.md, "Trees with changed parts").
use Rattle.std.specs.Prelude.{Option}
use Rattle.promql_kind.specs.Modifiers.{Clause, Matching}
use Rattle.promql_ast.specs.Selectors.{Selector}
use Rattle.promql_ast.specs.Tree.{Tree, aggregate, unary, binary, paren, subquery, vector, matrix, call, extension, MaybeTree, absent, present, Trees, no_trees, first_tree}

module _ (on_selector : Selector → Selector) (on_clause : Option Clause → Option Clause) (on_matching : Option Matching → Option Matching) where
  abbrev mutual
    pub mapped : Tree → Tree
    mapped (aggregate op e p m) = aggregate op (mapped e) (maybe_mapped p) (on_clause m)
    mapped (unary e) = unary (mapped e)
    mapped (binary op l r m) = binary op (mapped l) (mapped r) (on_matching m)
    mapped (paren e) = paren (mapped e)
    mapped (subquery e offset at range step) = subquery (mapped e) offset at range step
    mapped (vector s) = vector (on_selector s)
    mapped (matrix s range mode) = matrix (on_selector s) range mode
    mapped (call f args) = call f (all_mapped args)
    mapped (extension name gives es) = extension name gives (all_mapped es)
    mapped t = t

    pub maybe_mapped : MaybeTree → MaybeTree
    maybe_mapped absent = absent
    maybe_mapped (present e) = present (mapped e)

    pub all_mapped : Trees → Trees
    all_mapped no_trees = no_trees
    all_mapped (first_tree e es) = first_tree (mapped e) (all_mapped es)
