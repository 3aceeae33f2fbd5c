-- The set of a list of texts is one list.
use Rattle.std.proofs.Common.{◌≡◌, zero, suc, List, [], ◌∷◌, refl, sym, ap, ◌∙◌, inl, inr, ⊎_elim, arith}
use Rattle.std.specs.Prelude.{◌⊎◌}
use Rattle.std.specs.List.{Contains}
use Rattle.std.specs.List.Sorted.{IsStrictlySortedBy}
use Rattle.std.specs.Ordering.{ordering_reverse}
use Rattle.std.specs.declared.cmp.Ordering.TheVariants.{Less, Greater, Equal}
use Rattle.std.proofs.lemmas.Cmp.{nat_list_cmp_total, tied_itself}
use Rattle.std.proofs.lemmas.List.Elements.{All-contains, All-from_recursion}
use Rattle.promql_text.specs.Texts.{Text}
use Rattle.promql_label.specs.SortedTexts.{text_order}
use Rattle.promql_rewrite.specs.Collecting.{IsSetOf}

-- ---- what a list holds

front : (x : Text) (xs : List Text) → Contains (x ∷ xs) x
front x xs = (0, omega arith, refl)

later : (x : Text) (xs : List Text) (z : Text) → Contains xs z → Contains (x ∷ xs) z
later x xs z (k, lt, is) = (suc k, omega arith, is)

first_or_rest : (x : Text) (xs : List Text) (z : Text) → Contains (x ∷ xs) z → (x ≡ z) ⊎ Contains xs z
first_or_rest x xs z (zero, lt, is) = inl is
first_or_rest x xs z (suc k, lt, is) = inr (k, omega arith, is)

nowhere : (z : Text) → Contains [] z → ⊥
nowhere z (k, lt, is) = absurd (omega arith)

-- ---- order

never_both : (x y : Text) → text_order x y ≡ Less → text_order y x ≡ Less → ⊥
never_both x y below above = let turned : Less ≡ Greater = sym below ∙ nat_list_cmp_total.antisymm x y ∙ ap ordering_reverse above in cc

never_itself : (x y : Text) → x ≡ y → text_order x y ≡ Less → ⊥
never_itself x y same below = let level : Equal ≡ Less = sym (tied_itself nat_list_cmp_total x) ∙ ap (text_order x) same ∙ below in cc

first_below : (x : Text) (xs : List Text) (z : Text) → IsStrictlySortedBy text_order (x ∷ xs) → Contains xs z → text_order x z ≡ Less
unfolding IsStrictlySortedBy
first_below x xs z rising there = All-contains (λ y. text_order x y ≡ Less) xs z (All-from_recursion (λ y. text_order x y ≡ Less) xs rising.0) there

rest_rising : (x : Text) (xs : List Text) → IsStrictlySortedBy text_order (x ∷ xs) → IsStrictlySortedBy text_order xs
unfolding IsStrictlySortedBy
rest_rising x xs rising = rising.1

-- ---- one list

same_first : (x y : Text) (xs ys : List Text) → IsStrictlySortedBy text_order (x ∷ xs) → IsStrictlySortedBy text_order (y ∷ ys) → Contains (y ∷ ys) x → Contains (x ∷ xs) y → x ≡ y
same_first x y xs ys p q there back =
    ⊎_elim
    (λ (e : y ≡ x). sym e)
    (λ in_ys. ⊎_elim (λ (e : x ≡ y). e) (λ in_xs. absurd (never_both x y (first_below x xs y p in_xs) (first_below y ys x q in_ys))) (first_or_rest x xs y back))
    (first_or_rest y ys x there)

still_there : (x y : Text) (xs ys : List Text) (z : Text) → x ≡ y → IsStrictlySortedBy text_order (x ∷ xs) → Contains (y ∷ ys) z → Contains xs z → Contains ys z
still_there x y xs ys z same p there in_xs =
    ⊎_elim (λ (e : y ≡ z). absurd (never_itself x z (same ∙ e) (first_below x xs z p in_xs))) (λ in_ys. in_ys) (first_or_rest y ys z there)

one_list : (xs ys : List Text) → IsStrictlySortedBy text_order xs → IsStrictlySortedBy text_order ys → ((z : Text) → Contains xs z → Contains ys z) → ((z : Text) → Contains ys z → Contains xs z) → xs ≡ ys
one_list [] [] p q to from = refl
one_list [] (y ∷ ys) p q to from = absurd (nowhere y (from y (front y ys)))
one_list (x ∷ xs) [] p q to from = absurd (nowhere x (to x (front x xs)))
one_list (x ∷ xs) (y ∷ ys) p q to from =
    let same = same_first x y xs ys p q (to x (front x xs)) (from y (front y ys)) in
    let rest = one_list xs ys (rest_rising x xs p) (rest_rising y ys q)
    (λ z h. still_there x y xs ys z same p (to z (later x xs z h)) h)
    (λ z h. still_there y x ys xs z (sym same) q (from z (later y ys z h)) h) in
    ap (λ z. z ∷ xs) same ∙ ap (λ zs. y ∷ zs) rest

pub one_set : (texts xs ys : List Text) → IsSetOf texts xs → IsSetOf texts ys → xs ≡ ys
one_set texts xs ys p q = one_list xs ys p.rising q.rising (λ z h. (q.same z).0 ((p.same z).1 h)) (λ z h. (p.same z).0 ((q.same z).1 h))
