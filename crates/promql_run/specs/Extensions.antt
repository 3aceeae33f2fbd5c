-- Trees without an extension. Private: nothing rests on believing it.
use Rattle.promql_ast.specs.Tree.{Tree, aggregate, unary, binary, paren, subquery, number, string, vector, matrix, call, extension, MaybeTree, absent, present, Trees, no_trees, first_tree}

abbrev mutual
  pub HasNoExtension : Tree → Type 0
  HasNoExtension (aggregate op e p m) = NoneInParam p × HasNoExtension e
  HasNoExtension (unary e) = HasNoExtension e
  HasNoExtension (binary op l r m) = HasNoExtension l × HasNoExtension r
  HasNoExtension (paren e) = HasNoExtension e
  HasNoExtension (subquery e offset at range step) = HasNoExtension e
  HasNoExtension (number n) = Unit {0}
  HasNoExtension (string s) = Unit {0}
  HasNoExtension (vector s) = Unit {0}
  HasNoExtension (matrix s range mode) = Unit {0}
  HasNoExtension (call f args) = NoneInEach args
  HasNoExtension (extension name gives es) = ⊥

  pub NoneInParam : MaybeTree → Type 0
  NoneInParam absent = Unit {0}
  NoneInParam (present e) = HasNoExtension e

  pub NoneInEach : Trees → Type 0
  NoneInEach no_trees = Unit {0}
  NoneInEach (first_tree e es) = HasNoExtension e × NoneInEach es
