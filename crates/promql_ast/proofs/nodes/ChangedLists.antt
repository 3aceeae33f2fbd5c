-- Lists that are changed item by item: what is done so far, and what is left.
use Rattle.std.proofs.Common.{◌≡◌, ℕ, ◌+◌, ◌<◌, ◌≤◌, ◌++◌, List, [], ◌∷◌, drop, get_or, length, map, set, take, sym, ◌∙◌, ap, arith}
use Rattle.std.specs.Prelude.{OnOk, Result, Ok, Err}
use Rattle.std.proofs.lemmas.List.{drop_more, map_more, map_push, take_all, take_more_set}

module _ {X Y : Type 0} (f h : X → Y) (xs ys : List X) (i : ℕ) where
  -- one more item has become what h gives of the one that was there
  pub one_more : (d y : X) → i < length xs → length xs ≡ length ys → get_or xs i d ≡ get_or ys i d → f y ≡ h (get_or xs i d)
      → map f (take i xs) ≡ map h (take i ys) → map f (take (i + 1) (set xs i y)) ≡ map h (take (i + 1) ys)
  one_more d y within long same made done =
      ap (map f) (take_more_set xs i y within) ∙ map_push f (take i xs) y
      ∙ (λ k. done k ++ (made ∙ ap h same) k ∷ [])
      ∙ sym (map_more h ys i d (omega (arith, within, long)))

  -- all are done
  pub all_done : length xs ≤ i → length ys ≤ i → map f (take i xs) ≡ map h (take i ys) → map f xs ≡ map h ys
  all_done whole short done = sym (ap (map f) (take_all i xs whole)) ∙ done ∙ ap (map h) (take_all i ys short)

-- the items that are left of two lists are the same, one by one
pub left_same : {X : Type 0} (xs ys : List X) (i : ℕ) (d : X) → i < length xs → length xs ≡ length ys → drop i xs ≡ drop i ys → get_or xs i d ≡ get_or ys i d
left_same xs ys i d within long left =
    let heads : get_or xs i d ∷ drop (i + 1) xs ≡ get_or ys i d ∷ drop (i + 1) ys = sym (drop_more xs i d within) ∙ left ∙ drop_more ys i d (omega (arith, within, long)) in
    cc

pub on_ok : {T E : Type 0} (r : Result T E) (P Q : Type 0) → (P → Q) → OnOk r P → OnOk r Q
on_ok (Ok x) P Q leads h = leads h
on_ok (Err e) P Q leads h = tt
