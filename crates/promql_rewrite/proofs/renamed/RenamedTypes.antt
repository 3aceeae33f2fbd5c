-- A renamed tree has the type and the height of the tree.
use Rattle.std.proofs.Common.{◌≡◌, ◌+◌, max, refl}
use Rattle.promql_ast.specs.Height.{height, maybe_height, greatest_height}
use Rattle.promql_ast.specs.Tree.{Tree, aggregate, unary, binary, paren, subquery, number, string, vector, matrix, call, extension, MaybeTree, absent, present, Trees, no_trees, first_tree}
use Rattle.promql_ast.specs.Types.{type_of}
use Rattle.promql_ast.specs.node.Binary.{binary_type}
use Rattle.promql_rewrite.specs.Renaming.{Renaming, all_renamed, maybe_renamed, renamed}

module _ (r : Renaming) where
  pub type_renamed : (t : Tree) → type_of (renamed r t) ≡ type_of t
  type_renamed (aggregate op e p m) = refl
  type_renamed (unary e) = type_renamed e
  type_renamed (binary op x y m) = λ i. binary_type (type_renamed x i) (type_renamed y i)
  type_renamed (paren e) = type_renamed e
  type_renamed (subquery e offset at range step) = refl
  type_renamed (number n) = refl
  type_renamed (string s) = refl
  type_renamed (vector s) = refl
  type_renamed (matrix s range mode) = refl
  type_renamed (call f ts) = refl
  type_renamed (extension name gives ts) = refl

  mutual
    pub height_renamed : (t : Tree) → height (renamed r t) ≡ height t
    height_renamed (aggregate op e p m) = λ i. max (maybe_height_renamed p i) (height_renamed e i) + 1
    height_renamed (unary e) = λ i. height_renamed e i + 1
    height_renamed (binary op x y m) = λ i. max (height_renamed x i) (height_renamed y i) + 1
    height_renamed (paren e) = λ i. height_renamed e i + 1
    height_renamed (subquery e offset at range step) = λ i. height_renamed e i + 1
    height_renamed (number n) = refl
    height_renamed (string s) = refl
    height_renamed (vector s) = refl
    height_renamed (matrix s range mode) = refl
    height_renamed (call f ts) = λ i. all_height_renamed ts i + 1
    height_renamed (extension name gives ts) = λ i. all_height_renamed ts i + 1

    maybe_height_renamed : (p : MaybeTree) → maybe_height (maybe_renamed r p) ≡ maybe_height p
    maybe_height_renamed absent = refl
    maybe_height_renamed (present e) = height_renamed e

    all_height_renamed : (ts : Trees) → greatest_height (all_renamed r ts) ≡ greatest_height ts
    all_height_renamed no_trees = refl
    all_height_renamed (first_tree t ts) = λ i. max (height_renamed t i) (all_height_renamed ts i)
