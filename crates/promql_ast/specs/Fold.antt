-- One value of all nodes of a tree (docs/reference/tree.md, "Folds").
use Rattle.promql_ast.specs.Tree.{Tree, aggregate, unary, binary, paren, subquery, call, extension, MaybeTree, absent, present, Trees, no_trees, first_tree}

-- `none` of no node, `both` of two lists of nodes, the first one before the second, `at` of a node and what its children give
module _ {ℓ} {A : Type ℓ} (none : A) (both : A → A → A) (at : Tree → A → A) where
  abbrev mutual
    -- what a node's children give, in the order of the text
    pub within : Tree → A
    within (aggregate op e p m) = both (maybe_within p) (at e (within e))
    within (unary e) = at e (within e)
    within (binary op l r m) = both (at l (within l)) (at r (within r))
    within (paren e) = at e (within e)
    within (subquery e offset time range step) = at e (within e)
    within (call f args) = all_within args
    within (extension name gives es) = all_within es
    within t = none

    pub maybe_within : MaybeTree → A
    maybe_within absent = none
    maybe_within (present e) = at e (within e)

    pub all_within : Trees → A
    all_within no_trees = none
    all_within (first_tree e es) = both (at e (within e)) (all_within es)

  abbrev pub folded : Tree → A
  folded t = at t (within t)
