-- Names that are sorted, and of which each is kept once, are the set of the names.
use Rattle.std.proofs.Common.{◌≡◌, zero, suc, ◌<◌, List, [], ◌∷◌, map, string_bytes, refl, sym, ap, subst, ◌∙◌, arith, Global}
use Rattle.std.specs.Cmp.Lexicographic.{texts_ties}
use Rattle.std.specs.List.{AllByRecursion, Contains, dedup}
use Rattle.std.specs.List.Sorted.{IsPermutation, IsSorted, IsStrictlySortedBy}
use Rattle.std.specs.String.{string_cmp, string_cmp_total, string_eq, string_eq_equiv}
use Rattle.std.specs.declared.string.String.{String}
use Rattle.std.specs.declared.cmp.Ordering.TheVariants.{Less}
use Rattle.std.proofs.lemmas.List.{get_or-map, length-map}
use Rattle.std.proofs.lemmas.List.Kept.{Any-dedup, Contains-from_dedup, IsStrictlySortedBy-dedup}
use Rattle.std.proofs.lemmas.List.Sorted.{Contains-permutation, IsPermutation-sym}
use Rattle.std.proofs.lemmas.Slice.Eq.{bytes_eq-Decides}
use Rattle.promql_text.specs.Texts.{Text}
use Rattle.promql_label.specs.SortedTexts.{text_order}
use Rattle.promql_rewrite.specs.Collecting.{IsSetOf}

-- ---- what a list holds, by its texts

module _ {X Y : Type 0} (f : X → Y) where
  mapped : (xs : List X) (x : X) → Contains xs x → Contains (map f xs) (f x)
  mapped xs x (k, lt, is) = (k, subst (λ n. k < n) (sym (length-map xs f)) lt, get_or-map f xs k x (f x) lt ∙ ap f is)

  pub from_mapped : (xs : List X) (y : Y) → Contains (map f xs) y → (x : X) × Contains xs x × (f x ≡ y)
  from_mapped [] y (k, lt, is) = absurd (omega arith)
  from_mapped (x ∷ xs) y (zero, lt, is) = (x, (0, omega arith, refl), is)
  from_mapped (x ∷ xs) y (suc k, lt, is) =
      let rest = from_mapped xs y (k, omega arith, is) in
      let place = rest.1 in
      (rest.0, (suc place.0, omega (arith, place.1), place.2), rest.2)

-- ---- in order

module _ (P : Text → Type 0) where
  all_texts : (xs : List (String Global)) → AllByRecursion (λ x. P (string_bytes x)) xs → AllByRecursion P (map string_bytes xs)
  all_texts [] h = tt
  all_texts (x ∷ xs) h = (h.0, all_texts xs h.1)

rising_texts : (xs : List (String Global)) → IsStrictlySortedBy string_cmp xs → IsStrictlySortedBy text_order (map string_bytes xs)
unfolding IsStrictlySortedBy
rising_texts [] h = tt
rising_texts (x ∷ xs) h = (all_texts (λ t. text_order (string_bytes x) t ≡ Less) xs h.0, rising_texts xs h.1)

-- ---- the set

module _ (xs ys zs : List (String Global)) (moved : IsPermutation xs ys) (once : zs ≡ dedup string_eq ys) where
  is_kept : (t : Text) → Contains (map string_bytes xs) t → Contains (map string_bytes zs) t
  is_kept t h =
      let named = from_mapped string_bytes xs t h in
      let kept = Any-dedup string_eq_equiv ys named.0 (Contains-permutation xs ys named.0 moved named.1) in
      let same : string_bytes kept.1 ≡ t = sym ((bytes_eq-Decides (string_bytes named.0) (string_bytes kept.1)).0 kept.4) ∙ named.2 in
      subst (Contains (map string_bytes zs)) same
      (mapped string_bytes zs kept.1 (subst (λ us. Contains us kept.1) (sym once) (kept.0, kept.2, kept.3)))

  was_there : (t : Text) → Contains (map string_bytes zs) t → Contains (map string_bytes xs) t
  was_there t h =
      let kept = from_mapped string_bytes zs t h in
      let there = Contains-from_dedup string_eq ys kept.0 (subst (λ us. Contains us kept.0) once kept.1) in
      subst (Contains (map string_bytes xs)) kept.2
      (mapped string_bytes xs kept.0 (Contains-permutation ys xs kept.0 (IsPermutation-sym xs ys moved) there))

  pub set_of_sorted : IsSorted string_cmp ys → IsSetOf (map string_bytes xs) (map string_bytes zs)
  set_of_sorted sorted = record {
    same = λ t. (is_kept t, was_there t);
    rising = rising_texts zs (subst (IsStrictlySortedBy string_cmp) (sym once) (IsStrictlySortedBy-dedup string_cmp_total (λ x y. texts_ties (string_bytes x) (string_bytes y)) ys sorted));
  }
