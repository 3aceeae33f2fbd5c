-- Sorted matchers are those of the normal form.
use Rattle.std.proofs.Common.{◌≡◌, Bool, true, false, cond, List, [], ◌∷◌, map, refl, sym, ap, ◌∙◌, is_lt, is_gt, Ordering, Less, Equal, Greater}
use Rattle.std.specs.Cmp.{IsStrictWeakOrder}
use Rattle.std.specs.List.Sorted.{IsSortedBy, IsStableBy}
use Rattle.std.specs.Ordering.{ordering_reverse}
use Rattle.std.proofs.lemmas.Cmp.{nat_list_cmp_total}
use Rattle.std.proofs.lemmas.List.Sorted.{ranks_by}
use Rattle.promql_label.specs.NextText.{text_of}
use Rattle.promql_label.specs.ReadMatchers.{insert_matcher, sorted_matchers}
use Rattle.promql_label.specs.SortedTexts.{text_order}
use Rattle.promql_label.specs.MatcherViews.{plain_matcher_of}
use Rattle.promql_label.specs.declared.matcher.Matcher.{Matcher}
use Rattle.promql_label.proofs.order.StableSort.{insert_item, insertion_sort, stable_sort_inserts}

-- the text of x is less than that of y
abbrev pub is_before : Matcher → Matcher → Bool
is_before x y = is_lt (text_order (text_of x) (text_of y))

pub texts_rank : IsStrictWeakOrder is_before
texts_rank = ranks_by nat_list_cmp_total text_of

pub reversed : (r : Ordering) → is_gt (ordering_reverse r) ≡ is_lt r
reversed Less = refl
reversed Equal = refl
reversed Greater = refl

passes_where_before : (c d : Matcher) → is_gt (text_order (text_of c) (text_of d)) ≡ is_before d c
passes_where_before c d = ap is_gt (nat_list_cmp_total.antisymm (text_of c) (text_of d)) ∙ reversed (text_order (text_of d) (text_of c))

plain_insert : (c : Matcher) (ds : List Matcher) → map plain_matcher_of (insert_item is_before texts_rank c ds) ≡ insert_matcher (plain_matcher_of c) (map plain_matcher_of ds)
plain_insert c [] = refl
plain_insert c (d ∷ ds) =
    go (is_before d c) (plain_insert c ds)
    ∙ ap (λ b. cond b (plain_matcher_of d ∷ insert_matcher (plain_matcher_of c) (map plain_matcher_of ds)) (plain_matcher_of c ∷ map plain_matcher_of (d ∷ ds))) (sym (passes_where_before c d))
  where
    go : (b : Bool) → map plain_matcher_of (insert_item is_before texts_rank c ds) ≡ insert_matcher (plain_matcher_of c) (map plain_matcher_of ds)
        → map plain_matcher_of (cond b (d ∷ insert_item is_before texts_rank c ds) (c ∷ d ∷ ds)) ≡ cond b (plain_matcher_of d ∷ insert_matcher (plain_matcher_of c) (map plain_matcher_of ds)) (plain_matcher_of c ∷ map plain_matcher_of (d ∷ ds))
    go true rest = ap (λ ws. plain_matcher_of d ∷ ws) rest
    go false rest = refl

plain_sort : (xs : List Matcher) → map plain_matcher_of (insertion_sort is_before texts_rank xs) ≡ sorted_matchers (map plain_matcher_of xs)
plain_sort [] = refl
plain_sort (x ∷ xs) = plain_insert x (insertion_sort is_before texts_rank xs) ∙ ap (insert_matcher (plain_matcher_of x)) (plain_sort xs)

pub sort_gives_sorted_matchers : (xs ys : List Matcher) → IsSortedBy is_before ys → IsStableBy is_before xs ys → map plain_matcher_of ys ≡ sorted_matchers (map plain_matcher_of xs)
sort_gives_sorted_matchers xs ys sorted stable = ap (map plain_matcher_of) (stable_sort_inserts is_before texts_rank xs ys sorted stable) ∙ plain_sort xs
