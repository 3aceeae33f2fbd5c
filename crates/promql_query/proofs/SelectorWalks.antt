-- A walk for the places of selectors, part by part.
use Rattle.std.proofs.Common.{◌≡◌, ◌∙◌, ap, sym, ℕ, ◌+◌, ◌<◌, ◌≤◌, Option, None, List, [], ◌∷◌, ◌++◌, append_assoc, append-nil, drop, get_or, length, map}
use Rattle.std.specs.Prelude.{slice_get}
use Rattle.std.proofs.lemmas.List.{drop_all, drop_more}
use Rattle.promql_ast.specs.Tree.{Tree}
use Rattle.promql_ast.specs.View.{trees}
use Rattle.promql_span.specs.declared.span.Span.{Span}
use Rattle.promql_query.specs.SelectorPlaces.{Step, selector_node, other_node, bare_info, all_steps, selector_places, steps}
use Rattle.promql_query.specs.WalkedPlaces.{Takes, with_places}
use Rattle.promql_query.specs.declared.selector_places.Walk.{Walk}

-- past a node that is no selector
pub node_passed : (before after : Walk) → after.left.now ≡ drop 1 before.left.now → after.found.items ≡ before.found.items → Takes (other_node ∷ []) before after
node_passed before after left found = λ more.
    ap (λ f. f ++ selector_places more after.left.now) found ∙ ap (λ l. before.found.items ++ selector_places more l) left

-- with one more place
one_found : (place : Option Span) (more : List (Option Span)) (before after : List (Option Span)) → after ≡ before ++ place ∷ [] → after ++ more ≡ before ++ place ∷ more
one_found place more before after found = ap (λ f. f ++ more) found ∙ append_assoc before (place ∷ []) more

pub selector_pushed : (place : Option Span) (before after : Walk) → place ≡ slice_get before.left.now 0 → after.left.now ≡ drop 1 before.left.now
    → after.found.items ≡ before.found.items ++ place ∷ [] → Takes (selector_node ∷ []) before after
selector_pushed place before after is left found = λ more.
    one_found place (selector_places more after.left.now) before.found.items after.found.items found
    ∙ ap (λ p. before.found.items ++ p ∷ selector_places more after.left.now) is
    ∙ ap (λ l. before.found.items ++ slice_get before.left.now 0 ∷ selector_places more l) left

pub info_pushed : (before after : Walk) → after.left.now ≡ before.left.now → after.found.items ≡ before.found.items ++ None ∷ [] → Takes (bare_info ∷ []) before after
info_pushed before after left found = λ more.
    one_found None (selector_places more after.left.now) before.found.items after.found.items found
    ∙ ap (λ l. before.found.items ++ None ∷ selector_places more l) left

-- one part after another
pub both_taken : (r s : List Step) (a b c : Walk) → Takes r a b → Takes s b c → Takes (r ++ s) a c
both_taken r s a b c first second = λ more. second more ∙ first (s ++ more) ∙ ap (λ ss. with_places ss a) (sym (append_assoc r s more))

-- of a list of nodes, one by one
module _ {X : Type 0} (f : X → Tree) (xs : List X) (i : ℕ) (start now : Walk) where
  -- what is left takes what all take from the start
  abbrev pub AreLeft : Type 0
  AreLeft = (more : List Step) → with_places (all_steps (trees (map f (drop i xs))) ++ more) now ≡ with_places (all_steps (trees (map f xs)) ++ more) start

  pub all_taken : length xs ≤ i → AreLeft → Takes (all_steps (trees (map f xs))) start now
  all_taken end left = λ more. ap (λ ys. with_places (all_steps (trees (map f ys)) ++ more) now) (sym (drop_all i xs end)) ∙ left more

  pub one_taken : (next : Walk) (y : X) → i < length xs → y ≡ get_or xs i y → Takes (steps (f y)) now next → AreLeft
      → (more : List Step) → with_places (all_steps (trees (map f (drop (i + 1) xs))) ++ more) next ≡ with_places (all_steps (trees (map f xs)) ++ more) start
  one_taken next y within same taken left = λ more.
      let rest = all_steps (trees (map f (drop (i + 1) xs))) in
      taken (rest ++ more)
      ∙ ap (λ ss. with_places ss now) (sym (append_assoc (steps (f y)) rest more))
      ∙ ap (λ ys. with_places (all_steps (trees (map f ys)) ++ more) now) (sym (drop_more xs i y within ∙ ap (λ z. z ∷ drop (i + 1) xs) (sym same)))
      ∙ left more

-- all that was found
pub all_found : (t : Tree) (places : List Span) (before after : Walk) → before.left.now ≡ places → before.found.items ≡ [] → Takes (steps t) before after
    → after.found.items ≡ selector_places (steps t) places
all_found t places before after left none taken =
    sym (append-nil after.found.items) ∙ taken []
    ∙ ap (λ f. f ++ selector_places (steps t ++ []) before.left.now) none
    ∙ ap (λ ss. selector_places ss before.left.now) (append-nil (steps t))
    ∙ ap (selector_places (steps t)) left
