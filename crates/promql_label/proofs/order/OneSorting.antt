-- Sorted matchers are the one stable sort by their texts.
use Rattle.std.proofs.Common.{◌≡◌, ◌↔◌, ℕ, zero, suc, ◌<◌, Bool, false, cond, List, [], ◌∷◌, length, get_or, refl, sym, ap, subst, ◌∙◌, is_lt, is_gt, arith}
use Rattle.std.specs.Cmp.{IsStrictWeakOrder}
use Rattle.std.specs.List.Sorted.{IsSortedBy, IsStableBy, IsSortedByKey, IsStableByKey}
use Rattle.std.proofs.lemmas.Cmp.{nat_list_cmp_total}
use Rattle.std.proofs.lemmas.List.Sorted.{ranks_by}
use Rattle.promql_label.specs.PlainMatchers.{PlainMatcher, matcher_text}
use Rattle.promql_label.specs.ReadMatchers.{insert_matcher, sorted_matchers}
use Rattle.promql_label.specs.SortedTexts.{text_order}
use Rattle.promql_label.proofs.order.SortedMatchers.{reversed}
use Rattle.promql_label.proofs.order.StableSort.{Ascends, ascends_sorted, insert_item, insertion_sort, stable_sort_inserts, stable_sorted}

abbrev is_first : PlainMatcher → PlainMatcher → Bool
is_first c d = is_lt (text_order (matcher_text c) (matcher_text d))

texts_rank : IsStrictWeakOrder is_first
texts_rank = ranks_by nat_list_cmp_total matcher_text

goes_after : (c d : PlainMatcher) → is_gt (text_order (matcher_text c) (matcher_text d)) ≡ is_first d c
goes_after c d = ap is_gt (nat_list_cmp_total.antisymm (matcher_text c) (matcher_text d)) ∙ reversed (text_order (matcher_text d) (matcher_text c))

inserted : (c : PlainMatcher) (ds : List PlainMatcher) → insert_item is_first texts_rank c ds ≡ insert_matcher c ds
inserted c [] = refl
inserted c (d ∷ ds) = ap (λ ws. cond (is_first d c) (d ∷ ws) (c ∷ d ∷ ds)) (inserted c ds) ∙ ap (λ b. cond b (d ∷ insert_matcher c ds) (c ∷ d ∷ ds)) (sym (goes_after c d))

sorting : (cs : List PlainMatcher) → insertion_sort is_first texts_rank cs ≡ sorted_matchers cs
sorting [] = refl
sorting (c ∷ cs) = inserted c (insertion_sort is_first texts_rank cs) ∙ ap (insert_matcher c) (sorting cs)

-- no matcher is less than the one before it
adjacent : (cs : List PlainMatcher) → Ascends is_first texts_rank cs → (k : ℕ) (d : PlainMatcher) → suc k < length cs → is_first (get_or cs (suc k) d) (get_or cs k d) ≡ false
adjacent [] a k d high = absurd (omega (arith, high))
adjacent (c ∷ []) a k d high = absurd (omega (arith, high))
adjacent (c ∷ e ∷ cs) a zero d high = a.0.0
adjacent (c ∷ e ∷ cs) a (suc k) d high = adjacent (e ∷ cs) a.1 k d (omega (arith, high))

sorted_from_ascends : (cs : List PlainMatcher) → Ascends is_first texts_rank cs → IsSortedBy is_first cs
sorted_from_ascends cs a k d low high =
    subst (λ n. is_first (get_or cs n d) (get_or cs k d) ≡ false) (omega arith) (adjacent cs a k d (omega (arith, high)))

pub one_sorting : (cs ds : List PlainMatcher) → (ds ≡ sorted_matchers cs) ↔ (IsSortedByKey matcher_text text_order ds × IsStableByKey matcher_text text_order cs ds)
one_sorting cs ds = (
  λ is. subst (λ es. IsSortedBy is_first es × IsStableBy is_first cs es) (sorting cs ∙ sym is)
      (sorted_from_ascends (insertion_sort is_first texts_rank cs) (ascends_sorted is_first texts_rank cs), λ x. stable_sorted is_first texts_rank x cs),
  λ h. stable_sort_inserts is_first texts_rank cs ds h.0 h.1 ∙ sorting cs,
)
