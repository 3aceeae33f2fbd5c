-- Lists of trees, one by one.
use Rattle.std.proofs.Common.{◌≡◌, ◌∙◌, refl, sym, ap, ℕ, zero, suc, ◌+◌, ◌<◌, ◌≤◌, Bool, true, false, ◌&&◌, ◌||◌, List, [], ◌∷◌, drop, get_or, length, map, arith}
use Rattle.std.specs.Prelude.{ℤ}
use Rattle.std.proofs.lemmas.List.{drop_all, drop_more}
use Rattle.promql_ast.specs.Tree.{Tree, Trees, first_tree}
use Rattle.promql_ast.specs.View.{trees}
use Rattle.promql_rewrite.specs.Selecting.{Series}
use Rattle.promql_when.specs.Last.{all_constant, is_constant}
use Rattle.promql_when.specs.MayRead.{any_may_read, may_read}
use Rattle.promql_when.specs.Pinned.{all_pinned, any_asks_grid, asks_grid, pinned}

module _ {X : Type 0} (f : X → Tree) where
  pub pinned_trees : (start end : ℤ) (xs : List X) → all_pinned start end (trees (map f xs)) ≡ trees (map (λ x. pinned start end (f x)) xs)
  pinned_trees start end [] = refl
  pinned_trees start end (x ∷ xs) = ap (first_tree (pinned start end (f x))) (pinned_trees start end xs)

  or_true : (a b : Bool) → b ≡ true → a || b ≡ true
  or_true true b is = refl
  or_true false b is = is

  and_false : (a b : Bool) → b ≡ false → a && b ≡ false
  and_false true b is = is
  and_false false b is = refl

  -- where something is so of a list if it is so of one of its trees
  module _ (is : Tree → Bool) (any : Trees → Bool) (first : (t : Tree) (ts : Trees) → any (first_tree t ts) ≡ is t || any ts) where
    one_is : (xs : List X) (i : ℕ) (y : X) → i < length xs → y ≡ get_or xs i y → is (f y) ≡ true → any (trees (map f xs)) ≡ true
    one_is [] i y within same so = absurd (omega (arith, within))
    one_is (x ∷ xs) zero y within same so = first (f x) (trees (map f xs)) ∙ ap (λ a. a || any (trees (map f xs))) (ap (λ z. is (f z)) (sym same) ∙ so)
    one_is (x ∷ xs) (suc i) y within same so =
        first (f x) (trees (map f xs)) ∙ or_true (is (f x)) (any (trees (map f xs))) (one_is xs i y (omega (arith, within)) same so)

  -- one is not constant
  pub one_is_not : (xs : List X) (i : ℕ) (y : X) → i < length xs → y ≡ get_or xs i y → is_constant (f y) ≡ false → all_constant (trees (map f xs)) ≡ false
  one_is_not [] i y within same is = absurd (omega (arith, within))
  one_is_not (x ∷ xs) zero y within same is = ap (λ a. a && all_constant (trees (map f xs))) (ap (λ z. is_constant (f z)) (sym same) ∙ is)
  one_is_not (x ∷ xs) (suc i) y within same is = and_false (is_constant (f x)) (all_constant (trees (map f xs))) (one_is_not xs i y (omega (arith, within)) same is)

  -- the first of those that are left
  left : (xs : List X) (i : ℕ) (y : X) → i < length xs → y ≡ get_or xs i y → drop i xs ≡ y ∷ drop (i + 1) xs
  left xs i y within same = drop_more xs i y within ∙ ap (λ z. z ∷ drop (i + 1) xs) (sym same)

  module _ (is : Tree → Bool) (any : Trees → Bool) (first : (t : Tree) (ts : Trees) → any (first_tree t ts) ≡ is t || any ts) where
    later : (xs : List X) (i : ℕ) (y : X) → i < length xs → y ≡ get_or xs i y → is (f y) ≡ false → (all : Bool)
        → any (trees (map f (drop i xs))) ≡ all → any (trees (map f (drop (i + 1) xs))) ≡ all
    later xs i y within same not_this all rest =
        ap (λ a. a || any (trees (map f (drop (i + 1) xs)))) (sym not_this) ∙ sym (first (f y) (trees (map f (drop (i + 1) xs))))
        ∙ sym (ap (λ ys. any (trees (map f ys))) (left xs i y within same)) ∙ rest

  -- one asks, and the others after one that does not
  pub one_asks : (xs : List X) (i : ℕ) (y : X) → i < length xs → y ≡ get_or xs i y → asks_grid (f y) ≡ true → any_asks_grid (trees (map f xs)) ≡ true
  one_asks = one_is asks_grid any_asks_grid (λ t ts. refl)

  pub asks_later : (xs : List X) (i : ℕ) (y : X) → i < length xs → y ≡ get_or xs i y → asks_grid (f y) ≡ false → (all : Bool)
      → any_asks_grid (trees (map f (drop i xs))) ≡ all → any_asks_grid (trees (map f (drop (i + 1) xs))) ≡ all
  asks_later = later asks_grid any_asks_grid (λ t ts. refl)

  pub none_asks : (xs : List X) (i : ℕ) (all : Bool) → length xs ≤ i → any_asks_grid (trees (map f (drop i xs))) ≡ all → false ≡ all
  none_asks xs i all end rest = ap (λ ys. any_asks_grid (trees (map f ys))) (sym (drop_all i xs end)) ∙ rest

  -- the same of what reads a series
  pub one_reads : (series : Series) (xs : List X) (i : ℕ) (y : X) → i < length xs → y ≡ get_or xs i y → may_read series (f y) ≡ true
      → any_may_read series (trees (map f xs)) ≡ true
  one_reads series = one_is (may_read series) (any_may_read series) (λ t ts. refl)

  pub reads_later : (series : Series) (xs : List X) (i : ℕ) (y : X) → i < length xs → y ≡ get_or xs i y → may_read series (f y) ≡ false → (all : Bool)
      → any_may_read series (trees (map f (drop i xs))) ≡ all → any_may_read series (trees (map f (drop (i + 1) xs))) ≡ all
  reads_later series = later (may_read series) (any_may_read series) (λ t ts. refl)

  pub none_reads : (series : Series) (xs : List X) (i : ℕ) (all : Bool) → length xs ≤ i → any_may_read series (trees (map f (drop i xs))) ≡ all → false ≡ all
  none_reads series xs i all end rest = ap (λ ys. any_may_read series (trees (map f ys))) (sym (drop_all i xs end)) ∙ rest

  -- one is constant
  pub constant_later : (xs : List X) (i : ℕ) (y : X) → i < length xs → y ≡ get_or xs i y → is_constant (f y) ≡ true → (all : Bool)
      → all_constant (trees (map f (drop i xs))) ≡ all → all_constant (trees (map f (drop (i + 1) xs))) ≡ all
  constant_later xs i y within same this all rest =
      ap (λ a. a && all_constant (trees (map f (drop (i + 1) xs)))) (sym this) ∙ sym (ap (λ ys. all_constant (trees (map f ys))) (left xs i y within same)) ∙ rest

  pub all_are : (xs : List X) (i : ℕ) (all : Bool) → length xs ≤ i → all_constant (trees (map f (drop i xs))) ≡ all → true ≡ all
  all_are xs i all end rest = ap (λ ys. all_constant (trees (map f ys))) (sym (drop_all i xs end)) ∙ rest
