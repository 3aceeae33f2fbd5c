-- The selectors of a tree, by the fold, are those by recursion.
use Rattle.std.proofs.Common.{◌≡◌, refl, List, [], ◌++◌}
use Rattle.std.specs.Prelude.{option_map, option_to_list}
use Rattle.promql_ast.specs.Fold.{within, maybe_within, all_within}
use Rattle.promql_ast.specs.Tree.{Tree, aggregate, unary, binary, paren, subquery, number, string, vector, matrix, call, extension, MaybeTree, absent, present, Trees, no_trees, first_tree}
use Rattle.promql_rewrite.specs.Collecting.{own_selector}
use Rattle.promql_rewrite.specs.MappedSelectors.{arg_selectors, kind_after, param_selectors, selectors_in}
use Rattle.promql_rewrite.specs.Mapping.{KindedSelector, kind_below, selectors_of}
use Rattle.promql_rewrite.specs.declared.mapping.SelectorKind.{SelectorKind}
use Rattle.promql_rewrite.specs.declared.mapping.SelectorKind.TheVariants.{Series}

abbrev own_kinded : SelectorKind → Tree → List KindedSelector
own_kinded k t = option_to_list (option_map (λ s. (k, s.0)) (own_selector t))

abbrev below : Tree → SelectorKind → SelectorKind → List KindedSelector
below = within (λ k others. []) (λ first rest k others. first k others ++ rest others others) (λ t inner k others. own_kinded k t ++ inner k (kind_below t k))

abbrev maybe_below : MaybeTree → SelectorKind → SelectorKind → List KindedSelector
maybe_below = maybe_within (λ k others. []) (λ first rest k others. first k others ++ rest others others) (λ t inner k others. own_kinded k t ++ inner k (kind_below t k))

abbrev all_below : Trees → SelectorKind → SelectorKind → List KindedSelector
all_below = all_within (λ k others. []) (λ first rest k others. first k others ++ rest others others) (λ t inner k others. own_kinded k t ++ inner k (kind_below t k))

mutual
  in_tree : (t : Tree) (k : SelectorKind) → own_kinded k t ++ below t k (kind_below t k) ≡ selectors_in k t
  in_tree (aggregate op e p m) k = λ i. in_param p k i ++ in_tree e k i
  in_tree (unary e) k = in_tree e k
  in_tree (binary op l r m) k = λ i. in_tree l k i ++ in_tree r k i
  in_tree (paren e) k = in_tree e k
  in_tree (subquery e offset at range step) k = in_tree e k
  in_tree (number n) k = refl
  in_tree (string s) k = refl
  in_tree (vector s) k = refl
  in_tree (matrix s range mode) k = refl
  in_tree (call f args) k = in_args args k (kind_after f k)
  in_tree (extension name gives es) k = in_args es k k

  in_param : (p : MaybeTree) (k : SelectorKind) → maybe_below p k k ≡ param_selectors k p
  in_param absent k = refl
  in_param (present e) k = in_tree e k

  in_args : (ts : Trees) (k others : SelectorKind) → all_below ts k others ≡ arg_selectors k others ts
  in_args no_trees k others = refl
  in_args (first_tree e es) k others = λ i. in_tree e k i ++ in_args es others others i

pub selectors_are : (t : Tree) → selectors_of t ≡ selectors_in Series t
selectors_are t = in_tree t Series
