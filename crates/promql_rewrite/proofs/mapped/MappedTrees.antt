-- Trees of one outline.
use Rattle.std.proofs.Common.{◌≡◌, ◌+◌, max, refl, sym, ◌∙◌, ap, List, [], ◌∷◌, ◌++◌, append_assoc, append-nil, map}
use Rattle.std.proofs.lemmas.List.{map-append}
use Rattle.promql_ast.specs.Height.{height, maybe_height, greatest_height}
use Rattle.promql_ast.specs.Tree.{Tree, aggregate, unary, binary, paren, subquery, number, string, vector, matrix, call, extension, MaybeTree, absent, present, Trees, no_trees, first_tree}
use Rattle.promql_ast.specs.Types.{type_of}
use Rattle.promql_ast.specs.node.Binary.{binary_type}
use Rattle.promql_rewrite.specs.Mapping.{KindedSelector, all_outlines, maybe_outline, outline, selectors_of}
use Rattle.promql_rewrite.specs.MappedSelectors.{arg_selectors, kind_after, param_selectors, selectors_in}
use Rattle.promql_rewrite.specs.declared.mapping.SelectorKind.{SelectorKind}
use Rattle.promql_rewrite.specs.declared.mapping.SelectorKind.TheVariants.{Series}
use Rattle.promql_rewrite.proofs.mapped.KindedSelectors.{selectors_are}

-- ---- types

pub type_outline : (t : Tree) → type_of (outline t) ≡ type_of t
type_outline (aggregate op e p m) = refl
type_outline (unary e) = type_outline e
type_outline (binary op x y m) = λ i. binary_type (type_outline x i) (type_outline y i)
type_outline (paren e) = type_outline e
type_outline (subquery e offset at range step) = refl
type_outline (number n) = refl
type_outline (string s) = refl
type_outline (vector s) = refl
type_outline (matrix s range mode) = refl
type_outline (call f ts) = refl
type_outline (extension name gives ts) = refl

pub same_types : (t u : Tree) → outline t ≡ outline u → type_of t ≡ type_of u
same_types t u same = sym (type_outline t) ∙ ap type_of same ∙ type_outline u

-- ---- heights

mutual
  height_outline : (t : Tree) → height (outline t) ≡ height t
  height_outline (aggregate op e p m) = λ i. max (maybe_height_outline p i) (height_outline e i) + 1
  height_outline (unary e) = λ i. height_outline e i + 1
  height_outline (binary op x y m) = λ i. max (height_outline x i) (height_outline y i) + 1
  height_outline (paren e) = λ i. height_outline e i + 1
  height_outline (subquery e offset at range step) = λ i. height_outline e i + 1
  height_outline (number n) = refl
  height_outline (string s) = refl
  height_outline (vector s) = refl
  height_outline (matrix s range mode) = refl
  height_outline (call f ts) = λ i. all_height_outline ts i + 1
  height_outline (extension name gives ts) = λ i. all_height_outline ts i + 1

  maybe_height_outline : (p : MaybeTree) → maybe_height (maybe_outline p) ≡ maybe_height p
  maybe_height_outline absent = refl
  maybe_height_outline (present e) = height_outline e

  all_height_outline : (ts : Trees) → greatest_height (all_outlines ts) ≡ greatest_height ts
  all_height_outline no_trees = refl
  all_height_outline (first_tree t ts) = λ i. max (height_outline t i) (all_height_outline ts i)

pub same_heights : (t u : Tree) → outline t ≡ outline u → height t ≡ height u
same_heights t u same = sym (height_outline t) ∙ ap height same ∙ height_outline u

-- ---- the kinds of the selectors

abbrev kind_of : KindedSelector → SelectorKind
kind_of x = x.0

both_kinds : (xs vs ys ws : List KindedSelector) → map kind_of xs ≡ map kind_of vs → map kind_of ys ≡ map kind_of ws → map kind_of (xs ++ ys) ≡ map kind_of (vs ++ ws)
both_kinds xs vs ys ws first second = map-append kind_of xs ys ∙ (λ i. first i ++ second i) ∙ sym (map-append kind_of vs ws)

mutual
  kinds_outline : (k : SelectorKind) (t : Tree) → map kind_of (selectors_in k (outline t)) ≡ map kind_of (selectors_in k t)
  kinds_outline k (aggregate op e p m) = both_kinds (param_selectors k (maybe_outline p)) (param_selectors k p) (selectors_in k (outline e)) (selectors_in k e) (param_kinds k p) (kinds_outline k e)
  kinds_outline k (unary e) = kinds_outline k e
  kinds_outline k (binary op x y m) = both_kinds (selectors_in k (outline x)) (selectors_in k x) (selectors_in k (outline y)) (selectors_in k y) (kinds_outline k x) (kinds_outline k y)
  kinds_outline k (paren e) = kinds_outline k e
  kinds_outline k (subquery e offset at range step) = kinds_outline k e
  kinds_outline k (number n) = refl
  kinds_outline k (string s) = refl
  kinds_outline k (vector s) = refl
  kinds_outline k (matrix s range mode) = refl
  kinds_outline k (call f ts) = arg_kinds k (kind_after f k) ts
  kinds_outline k (extension name gives ts) = arg_kinds k k ts

  param_kinds : (k : SelectorKind) (p : MaybeTree) → map kind_of (param_selectors k (maybe_outline p)) ≡ map kind_of (param_selectors k p)
  param_kinds k absent = refl
  param_kinds k (present e) = kinds_outline k e

  arg_kinds : (k others : SelectorKind) (ts : Trees) → map kind_of (arg_selectors k others (all_outlines ts)) ≡ map kind_of (arg_selectors k others ts)
  arg_kinds k others no_trees = refl
  arg_kinds k others (first_tree t ts) =
      both_kinds (selectors_in k (outline t)) (selectors_in k t) (arg_selectors others others (all_outlines ts)) (arg_selectors others others ts) (kinds_outline k t) (arg_kinds others others ts)

pub same_kinds : (t u : Tree) → outline t ≡ outline u → map kind_of (selectors_of t) ≡ map kind_of (selectors_of u)
same_kinds t u same =
    ap (map kind_of) (selectors_are t) ∙ sym (kinds_outline Series t) ∙ ap (λ x. map kind_of (selectors_in Series x)) same
    ∙ kinds_outline Series u ∙ ap (map kind_of) (sym (selectors_are u))

-- ---- a tree is its outline and its selectors

abbrev mutual
  -- the tree with the first of the selectors for its own, in order, and the selectors that are left
  fill : Tree → List KindedSelector → Tree × List KindedSelector
  fill (aggregate op e p m) xs = let a = maybe_fill p xs in let b = fill e a.1 in (aggregate op b.0 a.0 m, b.1)
  fill (unary e) xs = let a = fill e xs in (unary a.0, a.1)
  fill (binary op x y m) xs = let a = fill x xs in let b = fill y a.1 in (binary op a.0 b.0 m, b.1)
  fill (paren e) xs = let a = fill e xs in (paren a.0, a.1)
  fill (subquery e offset at range step) xs = let a = fill e xs in (subquery a.0 offset at range step, a.1)
  fill (number n) xs = (number n, xs)
  fill (string s) xs = (string s, xs)
  fill (vector s) [] = (vector s, [])
  fill (vector s) (x ∷ xs) = (vector x.1, xs)
  fill (matrix s range mode) [] = (matrix s range mode, [])
  fill (matrix s range mode) (x ∷ xs) = (matrix x.1 range mode, xs)
  fill (call f ts) xs = let a = all_fill ts xs in (call f a.0, a.1)
  fill (extension name gives ts) xs = let a = all_fill ts xs in (extension name gives a.0, a.1)

  maybe_fill : MaybeTree → List KindedSelector → MaybeTree × List KindedSelector
  maybe_fill absent xs = (absent, xs)
  maybe_fill (present e) xs = let a = fill e xs in (present a.0, a.1)

  all_fill : Trees → List KindedSelector → Trees × List KindedSelector
  all_fill no_trees xs = (no_trees, xs)
  all_fill (first_tree t ts) xs = let a = fill t xs in let b = all_fill ts a.1 in (first_tree a.0 b.0, b.1)

mutual
  filled : (k : SelectorKind) (t : Tree) (rest : List KindedSelector) → fill (outline t) (selectors_in k t ++ rest) ≡ (t, rest)
  filled k (aggregate op e p m) rest =
      ap (fill (outline (aggregate op e p m))) (append_assoc (param_selectors k p) (selectors_in k e) rest)
      ∙ ap (λ (a : MaybeTree × List KindedSelector). let b = fill (outline e) a.1 in (aggregate op b.0 a.0 m, b.1)) (maybe_filled k p (selectors_in k e ++ rest))
      ∙ ap (λ (b : Tree × List KindedSelector). (aggregate op b.0 p m, b.1)) (filled k e rest)
  filled k (unary e) rest = ap (λ (a : Tree × List KindedSelector). (unary a.0, a.1)) (filled k e rest)
  filled k (binary op x y m) rest =
      ap (fill (outline (binary op x y m))) (append_assoc (selectors_in k x) (selectors_in k y) rest)
      ∙ ap (λ (a : Tree × List KindedSelector). let b = fill (outline y) a.1 in (binary op a.0 b.0 m, b.1)) (filled k x (selectors_in k y ++ rest))
      ∙ ap (λ (b : Tree × List KindedSelector). (binary op x b.0 m, b.1)) (filled k y rest)
  filled k (paren e) rest = ap (λ (a : Tree × List KindedSelector). (paren a.0, a.1)) (filled k e rest)
  filled k (subquery e offset at range step) rest = ap (λ (a : Tree × List KindedSelector). (subquery a.0 offset at range step, a.1)) (filled k e rest)
  filled k (number n) rest = refl
  filled k (string s) rest = refl
  filled k (vector s) rest = refl
  filled k (matrix s range mode) rest = refl
  filled k (call f ts) rest = ap (λ (a : Trees × List KindedSelector). (call f a.0, a.1)) (all_filled k (kind_after f k) ts rest)
  filled k (extension name gives ts) rest = ap (λ (a : Trees × List KindedSelector). (extension name gives a.0, a.1)) (all_filled k k ts rest)

  maybe_filled : (k : SelectorKind) (p : MaybeTree) (rest : List KindedSelector) → maybe_fill (maybe_outline p) (param_selectors k p ++ rest) ≡ (p, rest)
  maybe_filled k absent rest = refl
  maybe_filled k (present e) rest = ap (λ (a : Tree × List KindedSelector). (present a.0, a.1)) (filled k e rest)

  all_filled : (k others : SelectorKind) (ts : Trees) (rest : List KindedSelector) → all_fill (all_outlines ts) (arg_selectors k others ts ++ rest) ≡ (ts, rest)
  all_filled k others no_trees rest = refl
  all_filled k others (first_tree t ts) rest =
      ap (all_fill (all_outlines (first_tree t ts))) (append_assoc (selectors_in k t) (arg_selectors others others ts) rest)
      ∙ ap (λ (a : Tree × List KindedSelector). let b = all_fill (all_outlines ts) a.1 in (first_tree a.0 b.0, b.1)) (filled k t (arg_selectors others others ts ++ rest))
      ∙ ap (λ (b : Trees × List KindedSelector). (first_tree t b.0, b.1)) (all_filled others others ts rest)

whole : (t : Tree) → (fill (outline t) (selectors_of t)).0 ≡ t
whole t = ap (λ xs. (fill (outline t) xs).0) (selectors_are t ∙ sym (append-nil (selectors_in Series t))) ∙ ap (λ (a : Tree × List KindedSelector). a.0) (filled Series t [])

pub same_trees : (t u : Tree) → outline t ≡ outline u → selectors_of t ≡ selectors_of u → t ≡ u
same_trees t u same selectors = sym (whole t) ∙ (λ i. (fill (same i) (selectors i)).0) ∙ whole u
