-- Selectors that a mapper changes (docs/guide/rewriting.md, "Mapping selectors").
use Rattle.std.specs.Prelude.{◌≡◌, ◌≢◌, ◌⊎◌, if◌then◌else◌, List, [], ◌∷◌, ◌++◌, Some, None, option_map, option_to_list, Result, Ok}
use Rattle.promql_label.specs.PlainMatchers.{plain_matchers}
use Rattle.promql_ast.specs.Fold.{folded}
use Rattle.promql_ast.specs.Mapped.{mapped, maybe_mapped, all_mapped}
use Rattle.promql_ast.specs.Selectors.{Selector, selector}
use Rattle.promql_ast.specs.Tree.{Tree, call, MaybeTree, Trees}
use Rattle.promql_rewrite.specs.Collecting.{own_selector}
use Rattle.promql_rewrite.specs.Enforcing.{is_info}
use Rattle.promql_rewrite.specs.declared.mapping.SelectorKind.{SelectorKind}
use Rattle.promql_rewrite.specs.declared.mapping.SelectorKind.TheVariants.{DataLabels, Series}

-- ---- the selectors of a tree

-- a selector, of its kind
abbrev pub KindedSelector : Type 0
KindedSelector = SelectorKind × Selector

-- of what kind selectors are in the arguments of a call after the first, and below all other nodes
abbrev pub kind_below : Tree → SelectorKind → SelectorKind
kind_below (call f args) k = if is_info f then DataLabels else k
kind_below t k = k

-- those of a tree, in the order of the text, by the kind in it; below a node, by the kind in its first child and in the others
abbrev pub selectors_of : Tree → List KindedSelector
selectors_of t =
    folded {A = SelectorKind → SelectorKind → List KindedSelector} (λ k others. []) (λ a b k others. a k others ++ b others others)
    (λ t below k others. option_to_list (option_map (λ s. (k, s.0)) (own_selector t)) ++ below k (kind_below t k)) t Series Series

-- ---- the rest of a tree

-- what is left of a tree without its selectors: each is one of an empty name, without matchers
abbrev pub outline : Tree → Tree
outline = mapped (λ s. selector (Some []) (plain_matchers [] []) None None) (λ m. m) (λ m. m)

-- ---- what a mapper does

-- what a call may do: the mapper before, the kind of the selector, the selector, the result, the mapper and the selector after
abbrev pub MapGives : Type 0 → Type 0 → Type 1
MapGives S E = S → SelectorKind → Selector → Result (Unit {0}) E → S → Selector → Type 0

module _ {S E : Type 0} (gives : MapGives S E) where
  -- One call for each selector, in order, up to one that failed, if one did; it left the selector of the second list. The mapper
  -- was s and is t.
  abbrev pub Maps : List KindedSelector → List KindedSelector → S → Result (Unit {0}) E → S → Type 0
  Maps [] [] s r t = (r ≡ Ok tt) × (t ≡ s)
  Maps (x ∷ xs) (y ∷ ys) s r t =
      (y.0 ≡ x.0) × (((r ≢ Ok tt) × gives s x.0 x.1 r t y.1) ⊎ ((u : S) × (gives s x.0 x.1 (Ok tt) u y.1 × Maps xs ys u r t)))
  Maps _ _ s r t = ⊥

  -- what a call that went well leaves depends on the selector and its kind alone
  abbrev pub MapsBy : (SelectorKind → Selector → Selector) → Type 0
  MapsBy f = (s : S) (k : SelectorKind) (x : Selector) (t : S) (y : Selector) → gives s k x (Ok tt) t y → y ≡ f k x

-- ---- of parts of trees. Private: nothing rests on believing it

abbrev blank : Selector
blank = selector (Some []) (plain_matchers [] []) None None

abbrev pub maybe_outline : MaybeTree → MaybeTree
maybe_outline = maybe_mapped (λ s. blank) (λ m. m) (λ m. m)

abbrev pub all_outlines : Trees → Trees
all_outlines = all_mapped (λ s. blank) (λ m. m) (λ m. m)
