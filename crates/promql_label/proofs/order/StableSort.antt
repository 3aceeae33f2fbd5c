-- A stable sort gives the list that insertion gives.
use Rattle.std.proofs.Common.{◌≡◌, ℕ, suc, ◌<◌, Bool, true, false, not, ◌&&◌, cond, List, [], ◌∷◌, length, get_or, refl, sym, ap, ap₂, subst, ◌∙◌, true≢false, arith}
use Rattle.std.specs.Cmp.{IsStrictWeakOrder}
use Rattle.std.specs.List.{filter, AllByRecursion}
use Rattle.std.specs.List.Sorted.{ties, IsSortedBy, IsStableBy}
use Rattle.std.proofs.lemmas.List.Elements.{recursion_from_All}
use Rattle.std.proofs.lemmas.List.Sorted.{sorted_far}

-- an element that passes a test comes first among those that pass; one that doesn't is left out
passes : {X : Type 0} (p : X → Bool) (x : X) (xs : List X) → p x ≡ true → filter p (x ∷ xs) ≡ x ∷ filter p xs
passes p x xs h = ap (λ b. cond b (x ∷ filter p xs) (filter p xs)) h

fails : {X : Type 0} (p : X → Bool) (x : X) (xs : List X) → p x ≡ false → filter p (x ∷ xs) ≡ filter p xs
fails p x xs h = ap (λ b. cond b (x ∷ filter p xs) (filter p xs)) h

-- what holds of all elements holds of the first that passes
first_that_passes : {X : Type 0} (P : X → Type 0) (p : X → Bool) (xs : List X) (v : X) (r : List X) → filter p xs ≡ v ∷ r → AllByRecursion P xs → P v
first_that_passes P p [] v r e h = cc
first_that_passes {X} P p (x ∷ xs) v r e h = go (p x) refl (λ f. first_that_passes P p xs v r f h.1)
  where
    go : (b : Bool) → p x ≡ b → (filter p xs ≡ v ∷ r → P v) → P v
    go true k later = let whole : x ∷ filter p xs ≡ v ∷ r = sym (passes p x xs k) ∙ e in let same : x ≡ v = cc in subst P same h.0
    go false k later = later (sym (fails p x xs k) ∙ e)

-- the elements that pass are the same after an element that both lists begin with
same_rest : {X : Type 0} (p : X → Bool) (x : X) (xs ys : List X) → filter p (x ∷ xs) ≡ filter p (x ∷ ys) → filter p xs ≡ filter p ys
same_rest p x xs ys e = go (p x) refl
  where
    go : (b : Bool) → p x ≡ b → filter p xs ≡ filter p ys
    go true k = let whole : x ∷ filter p xs ≡ x ∷ filter p ys = sym (passes p x xs k) ∙ e ∙ passes p x ys k in cc
    go false k = sym (fails p x xs k) ∙ e ∙ fails p x ys k

all_weaker : {X : Type 0} (P Q : X → Type 0) → ((x : X) → P x → Q x) → (xs : List X) → AllByRecursion P xs → AllByRecursion Q xs
all_weaker P Q f [] h = h
all_weaker P Q f (x ∷ xs) h = (f x h.0, all_weaker P Q f xs h.1)

module _ {X : Type 0} (lt : X → X → Bool) (o : IsStrictWeakOrder lt) where
  -- no element is less than one before it
  abbrev pub Ascends : List X → Type 0
  Ascends [] = Unit {0}
  Ascends (x ∷ xs) = AllByRecursion (λ y. lt y x ≡ false) xs × Ascends xs

  abbrev Far : List X → Type 0
  Far xs = (i j : ℕ) (d : X) → i < j → j < length xs → lt (get_or xs j d) (get_or xs i d) ≡ false

  ascends_from_far : (xs : List X) → Far xs → Ascends xs
  ascends_from_far [] far = tt
  ascends_from_far (x ∷ xs) far = (
    recursion_from_All (λ y. lt y x ≡ false) xs (λ k d h. far 0 (suc k) d (omega arith) (omega arith)),
    ascends_from_far xs (λ i j d a b. far (suc i) (suc j) d (omega arith) (omega arith)),
  )

  ascends_from_sorted : (xs : List X) → IsSortedBy lt xs → Ascends xs
  ascends_from_sorted xs sorted = ascends_from_far xs (λ i j d a b. sorted_far lt o xs sorted i j d (omega arith) b)

  not_below_itself : (x : X) → lt x x ≡ false
  not_below_itself x = go (lt x x) refl
    where
      go : (b : Bool) → lt x x ≡ b → lt x x ≡ false
      go true e = o.one_way x x e
      go false e = e

  ties_where_neither_is_less : (x y : X) → lt x y ≡ false → lt y x ≡ false → ties lt x y ≡ true
  ties_where_neither_is_less x y a b = ap₂ (λ s t. not s && not t) a b

  ties_with_itself : (x : X) → ties lt x x ≡ true
  ties_with_itself x = ties_where_neither_is_less x x (not_below_itself x) (not_below_itself x)

  not_above_of_tie : (x y : X) → ties lt x y ≡ true → lt x y ≡ false
  not_above_of_tie x y = go (lt x y) (lt y x)
    where
      go : (s t : Bool) → (not s && not t) ≡ true → s ≡ false
      go true t h = absurd (true≢false (sym h))
      go false t h = refl

  not_less_of_tie : (x y : X) → ties lt x y ≡ true → lt y x ≡ false
  not_less_of_tie x y = go (lt x y) (lt y x)
    where
      go : (s t : Bool) → (not s && not t) ≡ true → t ≡ false
      go true t h = absurd (true≢false (sym h))
      go false true h = absurd (true≢false (sym h))
      go false false h = refl

  -- lists in order whose ties stand alike are one list
  one_stable_order : (us vs : List X) → Ascends us → Ascends vs → ((x : X) → filter (ties lt x) us ≡ filter (ties lt x) vs) → us ≡ vs
  one_stable_order [] [] a b same = refl
  one_stable_order [] (v ∷ vs) a b same =
      let none : [] ≡ v ∷ filter (ties lt v) vs = same v ∙ passes (ties lt v) v vs (ties_with_itself v) in cc
  one_stable_order (u ∷ us) [] a b same =
      let none : u ∷ filter (ties lt u) us ≡ [] = sym (passes (ties lt u) u us (ties_with_itself u)) ∙ same u in cc
  one_stable_order (u ∷ us) (v ∷ vs) a b same =
      let of_v : filter (ties lt v) (u ∷ us) ≡ v ∷ filter (ties lt v) vs = same v ∙ passes (ties lt v) v vs (ties_with_itself v) in
      let of_u : filter (ties lt u) (v ∷ vs) ≡ u ∷ filter (ties lt u) us = sym (same u) ∙ passes (ties lt u) u us (ties_with_itself u) in
      let v_from_u = first_that_passes (λ y. lt y u ≡ false) (ties lt v) (u ∷ us) v (filter (ties lt v) vs) of_v (not_below_itself u, a.0) in
      let u_from_v = first_that_passes (λ y. lt y v ≡ false) (ties lt u) (v ∷ vs) u (filter (ties lt u) us) of_u (not_below_itself v, b.0) in
      let heads : v ∷ filter (ties lt u) vs ≡ u ∷ filter (ties lt u) us = sym (passes (ties lt u) v vs (ties_where_neither_is_less u v u_from_v v_from_u)) ∙ of_u in
      let first : v ≡ u = cc in
      ap₂ (λ w ws. w ∷ ws) (sym first) (one_stable_order us vs a.1 b.1 (λ x. same_rest (ties lt x) u us vs (subst (λ w. filter (ties lt x) (u ∷ us) ≡ filter (ties lt x) (w ∷ vs)) first (same x))))

  -- sorted elements with one more, before the first that is no smaller
  abbrev pub insert_item : X → List X → List X
  insert_item c [] = c ∷ []
  insert_item c (d ∷ ds) = cond (lt d c) (d ∷ insert_item c ds) (c ∷ d ∷ ds)

  abbrev pub insertion_sort : List X → List X
  insertion_sort [] = []
  insertion_sort (c ∷ cs) = insert_item c (insertion_sort cs)

  all_inserted : (P : X → Type 0) (c : X) (ds : List X) → P c → AllByRecursion P ds → AllByRecursion P (insert_item c ds)
  all_inserted P c [] p h = (p, tt)
  all_inserted P c (d ∷ ds) p h = go (lt d c) (all_inserted P c ds p h.1)
    where
      go : (b : Bool) → AllByRecursion P (insert_item c ds) → AllByRecursion P (cond b (d ∷ insert_item c ds) (c ∷ d ∷ ds))
      go true rest = (h.0, rest)
      go false rest = (p, h)

  ascends_inserted : (c : X) (ds : List X) → Ascends ds → Ascends (insert_item c ds)
  ascends_inserted c [] a = (tt, tt)
  ascends_inserted c (d ∷ ds) a = go (lt d c) refl (ascends_inserted c ds a.1)
    where
      go : (b : Bool) → lt d c ≡ b → Ascends (insert_item c ds) → Ascends (cond b (d ∷ insert_item c ds) (c ∷ d ∷ ds))
      go true e rest = (all_inserted (λ y. lt y d ≡ false) c ds (o.one_way d c e) a.0, rest)
      go false e rest = ((e, all_weaker (λ y. lt y d ≡ false) (λ y. lt y c ≡ false) (λ y h. o.chain y d c h e) ds a.0), a)

  -- elements that tie don't pass each other
  stable_inserted : (x c : X) (ds : List X) → filter (ties lt x) (insert_item c ds) ≡ filter (ties lt x) (c ∷ ds)
  stable_inserted x c [] = refl
  stable_inserted x c (d ∷ ds) = go (lt d c) refl (stable_inserted x c ds)
    where
      p : X → Bool
      p = ties lt x

      apart : (s t : Bool) → p c ≡ s → p d ≡ t → lt d c ≡ true → cond t (d ∷ cond s (c ∷ filter p ds) (filter p ds)) (cond s (c ∷ filter p ds) (filter p ds)) ≡ cond s (c ∷ cond t (d ∷ filter p ds) (filter p ds)) (cond t (d ∷ filter p ds) (filter p ds))
      apart true true of_c of_d e = absurd (true≢false (sym e ∙ o.chain d x c (not_less_of_tie x d of_d) (not_above_of_tie x c of_c)))
      apart true false of_c of_d e = refl
      apart false true of_c of_d e = refl
      apart false false of_c of_d e = refl

      go : (b : Bool) → lt d c ≡ b → filter p (insert_item c ds) ≡ filter p (c ∷ ds) → filter p (cond b (d ∷ insert_item c ds) (c ∷ d ∷ ds)) ≡ filter p (c ∷ d ∷ ds)
      go true e rest = ap (λ ws. cond (p d) (d ∷ ws) ws) rest ∙ apart (p c) (p d) refl refl e
      go false e rest = refl

  pub ascends_sorted : (xs : List X) → Ascends (insertion_sort xs)
  ascends_sorted [] = tt
  ascends_sorted (x ∷ xs) = ascends_inserted x (insertion_sort xs) (ascends_sorted xs)

  pub stable_sorted : (x : X) (xs : List X) → filter (ties lt x) (insertion_sort xs) ≡ filter (ties lt x) xs
  stable_sorted x [] = refl
  stable_sorted x (y ∷ ys) =
      stable_inserted x y (insertion_sort ys) ∙ ap (λ ws. cond (ties lt x y) (y ∷ ws) ws) (stable_sorted x ys)

  pub stable_sort_inserts : (xs ys : List X) → IsSortedBy lt ys → IsStableBy lt xs ys → ys ≡ insertion_sort xs
  stable_sort_inserts xs ys sorted stable =
      one_stable_order ys (insertion_sort xs) (ascends_from_sorted ys sorted) (ascends_sorted xs) (λ x. stable x ∙ sym (stable_sorted x xs))
