-- The selectors of a tree by recursion, and what mapping along them did, by its result (private: nothing rests on believing it).
use Rattle.std.specs.Prelude.{◌≡◌, ◌⊎◌, ℕ, zero, suc, if◌then◌else◌, List, [], ◌∷◌, ◌++◌, Result, Ok, Err}
use Rattle.promql_kind.specs.Functions.{Signature}
use Rattle.promql_ast.specs.Selectors.{Selector}
use Rattle.promql_ast.specs.Tree.{Tree, aggregate, unary, binary, paren, subquery, vector, matrix, call, extension, MaybeTree, absent, present, Trees, no_trees, first_tree}
use Rattle.promql_rewrite.specs.Enforcing.{is_info}
use Rattle.promql_rewrite.specs.Mapping.{KindedSelector, MapGives}
use Rattle.promql_rewrite.specs.declared.mapping.SelectorKind.{SelectorKind}
use Rattle.promql_rewrite.specs.declared.mapping.SelectorKind.TheVariants.{DataLabels}

-- of what kind selectors are in the arguments of a call after the first
abbrev pub kind_after : Signature → SelectorKind → SelectorKind
kind_after f k = if is_info f then DataLabels else k

abbrev mutual
  -- those of a tree where selectors are of this kind, in the order of the text
  pub selectors_in : SelectorKind → Tree → List KindedSelector
  selectors_in k (aggregate op e p m) = param_selectors k p ++ selectors_in k e
  selectors_in k (unary e) = selectors_in k e
  selectors_in k (binary op l r m) = selectors_in k l ++ selectors_in k r
  selectors_in k (paren e) = selectors_in k e
  selectors_in k (subquery e offset at range step) = selectors_in k e
  selectors_in k (vector s) = (k, s) ∷ []
  selectors_in k (matrix s range mode) = (k, s) ∷ []
  selectors_in k (call f args) = arg_selectors k (kind_after f k) args
  selectors_in k (extension name gives es) = arg_selectors k k es
  selectors_in k t = []

  pub param_selectors : SelectorKind → MaybeTree → List KindedSelector
  param_selectors k absent = []
  param_selectors k (present e) = selectors_in k e

  -- of the first of these trees, and of the others
  pub arg_selectors : SelectorKind → SelectorKind → Trees → List KindedSelector
  arg_selectors k others no_trees = []
  arg_selectors k others (first_tree e es) = selectors_in k e ++ arg_selectors others others es

-- of what kind selectors are in the argument of this number
abbrev pub kind_at : ℕ → SelectorKind → SelectorKind → SelectorKind
kind_at zero k others = k
kind_at (suc i) k others = others

module _ {S E : Type 0} (gives : MapGives S E) where
  -- One call for each selector, in order, each of which went well and left the selector of the second list; the mapper was s and
  -- is t.
  abbrev pub MapsAll : List KindedSelector → List KindedSelector → S → S → Type 0
  MapsAll [] [] s t = t ≡ s
  MapsAll (x ∷ xs) (y ∷ ys) s t = (y.0 ≡ x.0) × ((u : S) × (gives s x.0 x.1 (Ok tt) u y.1 × MapsAll xs ys u t))
  MapsAll _ _ s t = ⊥

  -- one call for each selector, in order, up to one that failed with this error; the mapper was s and is t
  abbrev pub Fails : List KindedSelector → E → S → S → Type 0
  Fails [] e s t = ⊥
  Fails (x ∷ xs) e s t = ((y : Selector) × gives s x.0 x.1 (Err e) t y)
      ⊎ ((y : Selector) × ((u : S) × (gives s x.0 x.1 (Ok tt) u y × Fails xs e u t)))

abbrev pub MapsOrFails : {S E : Type 0} → MapGives S E → List KindedSelector → List KindedSelector → S → Result (Unit {0}) E → S → Type 0
MapsOrFails gives xs ys s (Ok x) t = MapsAll gives xs ys s t
MapsOrFails gives xs ys s (Err e) t = Fails gives xs e s t
