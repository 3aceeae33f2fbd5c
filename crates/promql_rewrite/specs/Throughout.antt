-- What holds at each node of a tree, and which node is the first that is wrong, by recursion. Private: nothing rests on believing it.
use Rattle.std.specs.Prelude.{◌⊎◌, List, [], ◌∷◌}
use Rattle.promql_ast.specs.Tree.{Tree, aggregate, unary, binary, paren, subquery, number, string, vector, matrix, call, extension, MaybeTree, absent, present, Trees, no_trees, first_tree}

module _ (P : Tree → Type 0) where
  abbrev mutual
    pub Throughout : Tree → Type 0
    Throughout (aggregate op e p m) = P (aggregate op e p m) × ThroughoutMaybe p × Throughout e
    Throughout (unary e) = P (unary e) × Throughout e
    Throughout (binary op l r m) = P (binary op l r m) × Throughout l × Throughout r
    Throughout (paren e) = P (paren e) × Throughout e
    Throughout (subquery e offset at range step) = P (subquery e offset at range step) × Throughout e
    Throughout (number n) = P (number n)
    Throughout (string s) = P (string s)
    Throughout (vector s) = P (vector s)
    Throughout (matrix s range mode) = P (matrix s range mode)
    Throughout (call f args) = P (call f args) × ThroughoutAll args
    Throughout (extension name gives es) = P (extension name gives es) × ThroughoutAll es

    pub ThroughoutMaybe : MaybeTree → Type 0
    ThroughoutMaybe absent = Unit {0}
    ThroughoutMaybe (present e) = Throughout e

    pub ThroughoutAll : Trees → Type 0
    ThroughoutAll no_trees = Unit {0}
    ThroughoutAll (first_tree e es) = Throughout e × ThroughoutAll es

-- this is wrong with a node, and all nodes before it are fine; children are in the order in which they print
module _ (Fine Wrong : Tree → Type 0) where
  abbrev mutual
    pub FirstWithin : Tree → Type 0
    FirstWithin (aggregate op e p m) =
        Wrong (aggregate op e p m)
        ⊎ (Fine (aggregate op e p m) × (FirstWithinMaybe p ⊎ (ThroughoutMaybe Fine p × FirstWithin e)))
    FirstWithin (unary e) = Wrong (unary e) ⊎ (Fine (unary e) × FirstWithin e)
    FirstWithin (binary op l r m) =
        Wrong (binary op l r m) ⊎ (Fine (binary op l r m) × (FirstWithin l ⊎ (Throughout Fine l × FirstWithin r)))
    FirstWithin (paren e) = Wrong (paren e) ⊎ (Fine (paren e) × FirstWithin e)
    FirstWithin (subquery e offset at range step) =
        Wrong (subquery e offset at range step) ⊎ (Fine (subquery e offset at range step) × FirstWithin e)
    FirstWithin (number n) = Wrong (number n)
    FirstWithin (string s) = Wrong (string s)
    FirstWithin (vector s) = Wrong (vector s)
    FirstWithin (matrix s range mode) = Wrong (matrix s range mode)
    FirstWithin (call f args) = Wrong (call f args) ⊎ (Fine (call f args) × FirstWithinAll args)
    FirstWithin (extension name gives es) =
        Wrong (extension name gives es) ⊎ (Fine (extension name gives es) × FirstWithinAll es)

    pub FirstWithinMaybe : MaybeTree → Type 0
    FirstWithinMaybe absent = ⊥
    FirstWithinMaybe (present e) = FirstWithin e

    pub FirstWithinAll : Trees → Type 0
    FirstWithinAll no_trees = ⊥
    FirstWithinAll (first_tree e es) = FirstWithin e ⊎ (Throughout Fine e × FirstWithinAll es)

-- a node of the list is wrong, and all before it are fine
abbrev pub FirstWrong : (Tree → Type 0) → (Tree → Type 0) → List Tree → Type 0
FirstWrong Fine Wrong [] = ⊥
FirstWrong Fine Wrong (t ∷ ts) = Wrong t ⊎ (Fine t × FirstWrong Fine Wrong ts)
