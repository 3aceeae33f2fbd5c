-- Arguments are lists of trees.
use Rattle.std.proofs.Common.{◌≡◌, ◌∙◌, ℕ, ◌+◌, suc, slice_get, List, [], ◌∷◌, ◌++◌, map, length, refl, ap, arith}
use Rattle.promql_ast.specs.Arguments.{append_tree, count, first_of}
use Rattle.promql_ast.specs.Layout.{layout_of, layouts_of}
use Rattle.promql_ast.specs.Text.{text, texts}
use Rattle.promql_ast.specs.Tree.{Tree, Trees, no_trees, first_tree}
use Rattle.promql_ast.specs.View.{trees}

pub each_is_list : (ts : Trees) → (xs : List Tree) × (ts ≡ trees xs)
each_is_list no_trees = ([], refl)
each_is_list (first_tree t ts) = let rest = each_is_list ts in (t ∷ rest.0, ap (first_tree t) rest.1)

pub appended : (xs : List Tree) (t : Tree) → append_tree (trees xs) t ≡ trees (xs ++ t ∷ [])
appended [] t = refl
appended (x ∷ xs) t = ap (first_tree x) (appended xs t)

pub counted : (xs : List Tree) → count (trees xs) ≡ length xs
counted [] = refl
counted (x ∷ xs) = let one : length xs + 1 ≡ suc (length xs) = omega arith in ap (λ n. n + 1) (counted xs) ∙ one

pub first_is : (xs : List Tree) → first_of (trees xs) ≡ slice_get xs 0
first_is [] = refl
first_is (x ∷ xs) = refl

pub texts_are : (xs : List Tree) → texts (trees xs) ≡ map text xs
texts_are [] = refl
texts_are (x ∷ xs) = ap (λ ts. text x ∷ ts) (texts_are xs)

pub layouts_are : (xs : List Tree) (level most : ℕ) → layouts_of (trees xs) level most ≡ map (λ e. layout_of e level most) xs
layouts_are [] level most = refl
layouts_are (x ∷ xs) level most = ap (λ ts. layout_of x level most ∷ ts) (layouts_are xs level most)
