-- Selectors that are mapped, one part of a tree after another.
use Rattle.std.proofs.Common.{◌≡◌, inl, inr, ◌<◌, ◌+◌, ℕ, zero, suc, refl, sym, ◌∙◌, ap, subst, arith, Result, Ok, Err, List, [], ◌∷◌, ◌++◌, append_assoc, append-nil, map, take, drop, get_or, set, length}
use Rattle.std.proofs.lemmas.List.{length-map, length-take-le, map-append, take-append-drop, take_more, take_more_set}
use Rattle.promql_ast.specs.Selectors.{Selector}
use Rattle.promql_ast.specs.Tree.{Tree, first_tree}
use Rattle.promql_ast.specs.View.{trees}
use Rattle.promql_rewrite.specs.MappedSelectors.{Fails, MapsAll, MapsOrFails, arg_selectors, kind_at, selectors_in}
use Rattle.promql_rewrite.specs.Mapping.{KindedSelector, MapGives, Maps, MapsBy, all_outlines, outline, selectors_of}
use Rattle.promql_rewrite.specs.declared.mapping.SelectorKind.{SelectorKind}
use Rattle.promql_rewrite.specs.declared.mapping.SelectorKind.TheVariants.{Series}
use Rattle.promql_rewrite.proofs.mapped.KindedSelectors.{selectors_are}

-- ---- the selectors of lists of trees

-- after the first of them selectors are of the other kind
pub kind_later : (i : ℕ) (others : SelectorKind) → kind_at i others others ≡ others
kind_later zero others = refl
kind_later (suc i) others = refl

-- those of two lists are those of the first, and those of the second where the first ends
args_append : (k others : SelectorKind) (ts us : List Tree) → arg_selectors k others (trees (ts ++ us)) ≡ arg_selectors k others (trees ts) ++ arg_selectors (kind_at (length ts) k others) others (trees us)
args_append k others [] us = refl
args_append k others (t ∷ ts) us =
    ap (λ xs. selectors_in k t ++ xs)
    (args_append others others ts us ∙ ap (λ j. arg_selectors others others (trees ts) ++ arg_selectors j others (trees us)) (kind_later (length ts) others))
    ∙ sym (append_assoc (selectors_in k t) (arg_selectors others others (trees ts)) (arg_selectors others others (trees us)))

module _ {X : Type 0} (f : X → Tree) (k others : SelectorKind) where
  -- the selectors of the first items
  abbrev pub in_front : ℕ → List X → List KindedSelector
  in_front i xs = arg_selectors k others (trees (map f (take i xs)))

  front_more : (i : ℕ) (xs ys : List X) (x : X) → i < length xs → take (i + 1) ys ≡ take i xs ++ x ∷ [] → in_front (i + 1) ys ≡ in_front i xs ++ selectors_in (kind_at i k others) (f x)
  front_more i xs ys x within more =
      let long : length (map f (take i xs)) ≡ i = length-map (take i xs) f ∙ length-take-le i xs (omega (arith, within)) in
      ap (λ l. arg_selectors k others (trees (map f l))) more
      ∙ ap (λ l. arg_selectors k others (trees l)) (map-append f (take i xs) (x ∷ []))
      ∙ args_append k others (map f (take i xs)) (f x ∷ [])
      ∙ ap (λ l. in_front i xs ++ l) (append-nil (selectors_in (kind_at (length (map f (take i xs))) k others) (f x)))
      ∙ ap (λ n. in_front i xs ++ selectors_in (kind_at n k others) (f x)) long

  front_and_rest : (i : ℕ) (xs : List X) → arg_selectors k others (trees (map f xs)) ≡ in_front i xs ++ arg_selectors (kind_at (length (map f (take i xs))) k others) others (trees (map f (drop i xs)))
  front_and_rest i xs =
      ap (λ l. arg_selectors k others (trees (map f l))) (sym (take-append-drop i xs))
      ∙ ap (λ l. arg_selectors k others (trees l)) (map-append f (take i xs) (drop i xs))
      ∙ args_append k others (map f (take i xs)) (map f (drop i xs))

pub outlined_trees : {X : Type 0} (f : X → Tree) (xs : List X) → all_outlines (trees (map f xs)) ≡ trees (map (λ x. outline (f x)) xs)
outlined_trees f [] = refl
outlined_trees f (x ∷ xs) = ap (first_tree (outline (f x))) (outlined_trees f xs)

module _ {S E : Type 0} (gives : MapGives S E) where
  -- ---- one list of selectors after another

  maps_both : (xs ys vs ws : List KindedSelector) (s u t : S) → MapsAll gives xs ys s u → MapsAll gives vs ws u t → MapsAll gives (xs ++ vs) (ys ++ ws) s t
  maps_both [] [] vs ws s u t h k = subst (λ w. MapsAll gives vs ws w t) h k
  maps_both [] (y ∷ ys) vs ws s u t h k = absurd h
  maps_both (x ∷ xs) [] vs ws s u t h k = absurd h
  maps_both (x ∷ xs) (y ∷ ys) vs ws s u t (same, (v, (step, more))) k = (same, (v, (step, maps_both xs ys vs ws v u t more k)))

  fails_first : (xs vs : List KindedSelector) (e : E) (s t : S) → Fails gives xs e s t → Fails gives (xs ++ vs) e s t
  fails_first [] vs e s t h = absurd h
  fails_first (x ∷ xs) vs e s t (inl h) = inl h
  fails_first (x ∷ xs) vs e s t (inr (y, (u, (step, more)))) = inr (y, (u, (step, fails_first xs vs e u t more)))

  fails_after : (xs ys vs : List KindedSelector) (e : E) (s u t : S) → MapsAll gives xs ys s u → Fails gives vs e u t → Fails gives (xs ++ vs) e s t
  fails_after [] [] vs e s u t h k = subst (λ w. Fails gives vs e w t) h k
  fails_after [] (y ∷ ys) vs e s u t h k = absurd h
  fails_after (x ∷ xs) [] vs e s u t h k = absurd h
  fails_after (x ∷ xs) (y ∷ ys) vs e s u t (same, (v, (step, more))) k = inr (y.1, (v, (step, fails_after xs ys vs e v u t more k)))

  -- ---- the same by other ways to the lists

  pub maps_then : (xs os ys vs bs ws : List KindedSelector) (s u : S) (r : Result (Unit {0}) E) (t : S) → os ≡ xs → bs ≡ vs
      → MapsAll gives os ys s u → MapsOrFails gives bs ws u r t → MapsOrFails gives (xs ++ vs) (ys ++ ws) s r t
  maps_then xs os ys vs bs ws s u r t first second h k =
      both r (subst (λ l. MapsAll gives l ys s u) first h) (subst (λ l. MapsOrFails gives l ws u r t) second k)
    where
      both : (r : Result (Unit {0}) E) → MapsAll gives xs ys s u → MapsOrFails gives vs ws u r t → MapsOrFails gives (xs ++ vs) (ys ++ ws) s r t
      both (Ok z) = maps_both xs ys vs ws s u t
      both (Err e) = fails_after xs ys vs e s u t

  pub fails_in : (xs os vs : List KindedSelector) (e : E) (s t : S) → os ≡ xs → Fails gives os e s t → Fails gives (xs ++ vs) e s t
  fails_in xs os vs e s t same h = fails_first xs vs e s t (subst (λ l. Fails gives l e s t) same h)

  -- ---- by the result

  all_well : (xs ys : List KindedSelector) (s t : S) → MapsAll gives xs ys s t → Maps gives xs ys s (Ok tt) t
  all_well [] [] s t h = (refl, h)
  all_well [] (y ∷ ys) s t h = absurd h
  all_well (x ∷ xs) [] s t h = absurd h
  all_well (x ∷ xs) (y ∷ ys) s t (same, (u, (step, more))) = (same, inr (u, (step, all_well xs ys u t more)))

  last_fails : (xs : List KindedSelector) (e : E) (s t : S) → Fails gives xs e s t → (ys : List KindedSelector) × Maps gives xs ys s (Err e) t
  last_fails [] e s t h = absurd h
  last_fails (x ∷ xs) e s t (inl (y, step)) = ((x.0, y) ∷ [], (refl, inl ((λ is. cc), step)))
  last_fails (x ∷ xs) e s t (inr (y, (u, (step, more)))) = let rest = last_fails xs e u t more in ((x.0, y) ∷ rest.0, (refl, inr (u, (step, rest.1))))

  -- ---- of a whole tree

  pub maps_tree : (t u : Tree) (s r : S) → MapsAll gives (selectors_in Series t) (selectors_in Series u) s r → MapsAll gives (selectors_of t) (selectors_of u) s r
  maps_tree t u s r h = subst (λ xs. MapsAll gives xs (selectors_of u) s r) (sym (selectors_are t)) (subst (λ ys. MapsAll gives (selectors_in Series t) ys s r) (sym (selectors_are u)) h)

  pub tree_well : (t u : Tree) (s r : S) → MapsAll gives (selectors_in Series t) (selectors_in Series u) s r → Maps gives (selectors_of t) (selectors_of u) s (Ok tt) r
  tree_well t u s r h = all_well (selectors_of t) (selectors_of u) s r (maps_tree t u s r h)

  pub tree_fails : (t : Tree) (e : E) (s r : S) → Fails gives (selectors_in Series t) e s r → (ys : List KindedSelector) × Maps gives (selectors_of t) ys s (Err e) r
  tree_fails t e s r h = last_fails (selectors_of t) e s r (subst (λ xs. Fails gives xs e s r) (sym (selectors_are t)) h)

  -- ---- by a function

  pub maps_by : (f : SelectorKind → Selector → Selector) → MapsBy gives f → (xs ys : List KindedSelector) (s t : S) → MapsAll gives xs ys s t → ys ≡ map (λ (x : KindedSelector). (x.0, f x.0 x.1)) xs
  maps_by f each [] [] s t h = refl
  maps_by f each [] (y ∷ ys) s t h = absurd h
  maps_by f each (x ∷ xs) [] s t h = absurd h
  maps_by f each (x ∷ xs) (y ∷ ys) s t (same, (u, (step, more))) = λ i. (same i, each s x.0 x.1 u y.1 step i) ∷ maps_by f each xs ys u t more i

  -- ---- item by item

  module _ {X : Type 0} (f : X → Tree) (k others : SelectorKind) (xs before : List X) (i : ℕ) (s u : S) (done : MapsAll gives (in_front f k others i before) (in_front f k others i xs) s u)
      (d : X) (v : S) (kind : SelectorKind) (t : Tree) (within : i < length xs) (long : length xs ≡ length before) (is : d ≡ get_or before i d) (at : kind ≡ kind_at i k others) (item : t ≡ f d) where
    front : in_front f k others (i + 1) before ≡ in_front f k others i before ++ selectors_in (kind_at i k others) (f d)
    front =
        let here : i < length before = omega (arith, within, long) in
        front_more f k others i before before d here (take_more before i d here ∙ ap (λ x. take i before ++ x ∷ []) (sym is))

    pub maps_more : (y : X) → MapsAll gives (selectors_in kind t) (selectors_in kind (f y)) u v → MapsAll gives (in_front f k others (i + 1) before) (in_front f k others (i + 1) (set xs i y)) s v
    maps_more y step =
        let one : MapsAll gives (selectors_in (kind_at i k others) (f d)) (selectors_in (kind_at i k others) (f y)) u v =
        subst (λ j. MapsAll gives (selectors_in j (f d)) (selectors_in j (f y)) u v) at (subst (λ x. MapsAll gives (selectors_in kind x) (selectors_in kind (f y)) u v) item step) in
        let all = maps_both (in_front f k others i before) (in_front f k others i xs) (selectors_in (kind_at i k others) (f d)) (selectors_in (kind_at i k others) (f y)) s u v done one in
        subst (λ l. MapsAll gives l (in_front f k others (i + 1) (set xs i y)) s v) (sym front)
        (subst (λ l. MapsAll gives (in_front f k others i before ++ selectors_in (kind_at i k others) (f d)) l s v) (sym (front_more f k others i xs (set xs i y) y within (take_more_set xs i y within))) all)

    pub fails_here : (e : E) → Fails gives (selectors_in kind t) e u v → Fails gives (arg_selectors k others (trees (map f before))) e s v
    fails_here e step =
        let one : Fails gives (selectors_in (kind_at i k others) (f d)) e u v =
        subst (λ j. Fails gives (selectors_in j (f d)) e u v) at (subst (λ x. Fails gives (selectors_in kind x) e u v) item step) in
        let all = fails_after (in_front f k others i before) (in_front f k others i xs) (selectors_in (kind_at i k others) (f d)) e s u v done one in
        subst (λ l. Fails gives l e s v) (sym (front_and_rest f k others (i + 1) before))
        (fails_first (in_front f k others (i + 1) before) _ e s v (subst (λ l. Fails gives l e s v) (sym front) all))
