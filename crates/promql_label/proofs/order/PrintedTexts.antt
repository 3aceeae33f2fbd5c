-- What is printed of texts in byte order, pass by pass.
use Rattle.std.proofs.Common.{◌≡◌, ℕ, zero, suc, ◌+◌, ◌-◌, ◌<◌, ◌≤◌, Bool, true, false, not, ◌&&◌, cond, List, [], ◌∷◌, ◌++◌, length, Option, Some, None, refl, sym, ap, ap₂, subst, ◌∙◌, append_assoc, arith, codes, length-take, map, min, take, drop, get_or, Bor}
use Rattle.std.specs.List.{filter, flat_map}
use Rattle.std.specs.Option.{is_some}
use Rattle.std.specs.Ordering.{is_gt}
use Rattle.std.proofs.Math.ListN.{length-append}
use Rattle.std.proofs.lemmas.List.{length-map}
use Rattle.promql_text.specs.Texts.{Text, joined_text}
use Rattle.promql_label.specs.declared.matcher.Matcher.{Matcher}
use Rattle.promql_label.specs.NextText.{Rises, again, comma_after, is_above, is_below, is_rising, last_of, text_of_some, texts_after, times}
use Rattle.promql_label.specs.SortedTexts.{text_order, insert_text, sorted_texts}
use Rattle.promql_label.proofs.order.RisingTexts.{sorted_above, sorted_rises}
use Rattle.promql_label.proofs.order.TextRows.{IsCopiesFirst, last_of_again, last_of_both, left_after}

after_first : (us : List Text) → texts_after true us ≡ flat_map (λ y. codes "," ++ y) us
after_first [] = refl
after_first (u ∷ us) = ap (λ w. (codes "," ++ u) ++ w) (after_first us)

pub joined_is : (ts : List Text) → texts_after false ts ≡ joined_text (codes ",") ts
joined_is [] = refl
joined_is (t ∷ ts) = ap (λ w. t ++ w) (after_first ts)

pub map_drop_step : {X : Type 0} (f : X → Text) (xs : List X) (i : ℕ) (y : X) → i < length xs → y ≡ get_or xs i y → map f (drop i xs) ≡ f y ∷ map f (drop (i + 1) xs)
map_drop_step f [] i y h is = absurd (omega arith)
map_drop_step f (x ∷ xs) zero y h is = ap (λ z. f z ∷ map f xs) (sym is)
map_drop_step f (x ∷ xs) (suc i) y h is = let step : suc (i + 1) ≡ suc i + 1 = omega arith in map_drop_step f xs i y (omega arith) is ∙ ap (λ n. f y ∷ map f (drop n (x ∷ xs))) step

pub map_drop_all : {X : Type 0} (f : X → Text) (xs : List X) (i : ℕ) → length xs ≤ i → map f (drop i xs) ≡ []
map_drop_all f [] zero h = refl
map_drop_all f [] (suc i) h = refl
map_drop_all f (x ∷ xs) zero h = absurd (omega arith)
map_drop_all f (x ∷ xs) (suc i) h = map_drop_all f xs i (omega arith)

-- ---- is the list in order

pub rising_step : (last : Option Text) (t : Text) (us rest : List Text) (b : Bool) → us ≡ t ∷ rest → is_below last t ≡ false → is_rising last us ≡ b → is_rising (Some t) rest ≡ b
rising_step last t us rest b e h is =
    sym (ap (is_rising last) e ∙ ap (λ x. not x && is_rising (Some t) rest) h) ∙ is

pub not_rising : (last : Option Text) (t : Text) (us rest : List Text) (b : Bool) → us ≡ t ∷ rest → is_below last t ≡ true → is_rising last us ≡ b → false ≡ b
not_rising last t us rest b e h is =
    sym (ap (is_rising last) e ∙ ap (λ x. not x && is_rising (Some t) rest) h) ∙ is

pub rising_end : (last : Option Text) (us : List Text) (b : Bool) → us ≡ [] → is_rising last us ≡ b → true ≡ b
rising_end last us b e is = sym (ap (is_rising last) e) ∙ is

-- ---- copies of one matcher, and the matchers of a row

pub one_time_less : (n : ℕ) (t : Text) → 0 < n → texts_after true (times n t) ≡ (comma_after true ++ t) ++ texts_after true (times (n - 1) t)
one_time_less zero t h = absurd (omega arith)
one_time_less (suc n) t h = let is : n ≡ suc n - 1 = omega arith in ap (λ m. (comma_after true ++ t) ++ texts_after true (times m t)) is

pub no_times : (n : ℕ) (t : Text) → n ≤ 0 → texts_after true (times n t) ≡ []
no_times zero t h = refl
no_times (suc n) t h = absurd (omega arith)

pub some_text : (o : Option (Bor Matcher)) → is_some (text_of_some o) ≡ is_some o
some_text None = refl
some_text (Some m) = refl

after_true : (ts us : List Text) → texts_after true (ts ++ us) ≡ texts_after true ts ++ texts_after true us
after_true [] us = refl
after_true (t ∷ ts) us = ap (λ w. (comma_after true ++ t) ++ w) (after_true ts us) ∙ sym (append_assoc (comma_after true ++ t) (texts_after true ts) (texts_after true us))

after_again : (n : ℕ) (l : Option Text) (us : List Text) → texts_after (is_some l) (again n l ++ us) ≡ texts_after true (again n l) ++ texts_after (is_some l) us
after_again n None us = refl
after_again n (Some t) us = after_true (times n t) us

after_row : (l : Option Text) (row us : List Text) → texts_after (is_some l) (row ++ us) ≡ texts_after (is_some l) row ++ texts_after (is_some (last_of row l)) us
after_row l [] us = refl
after_row l (t ∷ row) us =
    ap (λ w. (comma_after (is_some l) ++ t) ++ w) (after_row (Some t) row us)
    ∙ sym (append_assoc (comma_after (is_some l) ++ t) (texts_after true row) (texts_after (is_some (last_of row (Some t))) us))

-- ---- the passes

length_insert : (t : Text) (us : List Text) → length (insert_text t us) ≡ suc (length us)
length_insert t [] = refl
length_insert t (u ∷ us) = step (is_gt (text_order t u)) (length_insert t us)
  where
    step : (b : Bool) → length (insert_text t us) ≡ suc (length us) → length (cond b (u ∷ insert_text t us) (t ∷ u ∷ us)) ≡ suc (suc (length us))
    step true more = ap suc more
    step false more = refl

pub length_sorted : (ts : List Text) → length (sorted_texts ts) ≡ length ts
length_sorted [] = refl
length_sorted (t ∷ ts) = length_insert t (sorted_texts ts) ∙ ap suc (length_sorted ts)

-- of the sorted texts so many are left to be printed, after the last one
pub record IsLeft (last : Option Text) (left : ℕ) (rest sorted : List Text) : Type 0 where
  pub done : List Text
  pub all : done ++ rest ≡ sorted
  pub ends : last_of done None ≡ last
  pub long : length rest ≡ left

pub all_left : {X : Type 0} (f : X → Text) (xs : List X) → IsLeft None (length xs) (sorted_texts (map f xs)) (sorted_texts (map f xs))
all_left f xs = record { done = []; all = refl; ends = refl; long = length_sorted (map f xs) ∙ length-map xs f }

pub copies_left : (l : Option Text) (left : ℕ) (rest ts : List Text) → IsLeft l left rest (sorted_texts ts) → IsCopiesFirst l rest (sorted_texts (filter (is_above l) ts))
copies_left l left rest ts h =
    let copies = left_after h.done rest (subst Rises (sym h.all) (sorted_rises ts)) in
    let whole : IsCopiesFirst (last_of h.done None) rest (filter (is_above (last_of h.done None)) (sorted_texts ts)) =
    subst (λ us. IsCopiesFirst (last_of h.done None) rest (filter (is_above (last_of h.done None)) us)) h.all copies in
    let of_last : IsCopiesFirst l rest (filter (is_above l) (sorted_texts ts)) =
    subst (λ o. IsCopiesFirst o rest (filter (is_above o) (sorted_texts ts))) h.ends whole in
    subst (IsCopiesFirst l rest) (sym (sorted_above l ts)) of_last

pub above_fits : (l : Option Text) (left : ℕ) (rest ts : List Text) → IsLeft l left rest (sorted_texts ts) → length (filter (is_above l) ts) ≤ left
above_fits l left rest ts h =
    let copies = copies_left l left rest ts h in
    let long = copies.long in
    let sorted = length_sorted (filter (is_above l) ts) in
    let all = h.long in
    omega (arith, long, sorted, all)

first_and_rest : (k : ℕ) (us : List Text) → us ≡ take k us ++ drop k us
first_and_rest zero us = refl
first_and_rest (suc k) [] = refl
first_and_rest (suc k) (u ∷ us) = ap (λ vs. u ∷ vs) (first_and_rest k us)

-- what a pass prints, and what is left then
pub record IsPass (l : Option Text) (left above : ℕ) (row rest less sorted : List Text) : Type 0 where
  pub texts : rest ≡ again (left - above) l ++ (row ++ less)
  pub next : IsLeft (last_of row l) (above - length row) less sorted
  pub held : length row ≤ above
  pub fewer : 0 < left → above - length row < left

pub pass_is : (l : Option Text) (left above k : ℕ) (row rest ts : List Text) → IsLeft l left rest (sorted_texts ts)
    → 0 < k → above ≡ length (filter (is_above l) ts) → row ≡ take k (sorted_texts (filter (is_above l) ts))
    → IsPass l left above row rest (drop k (sorted_texts (filter (is_above l) ts))) (sorted_texts ts)
pass_is l left above k row rest ts h room count is =
    let F = sorted_texts (filter (is_above l) ts) in
    let copies = copies_left l left rest ts h in
    let cut : F ≡ row ++ drop k F = first_and_rest k F ∙ ap (λ us. us ++ drop k F) (sym is) in
    let sizes : length F ≡ length row + length (drop k F) = ap length cut ∙ length-append row (drop k F) in
    let long = copies.long in
    let sorted = length_sorted (filter (is_above l) ts) in
    let all = h.long in
    let first : length row ≡ min k (length F) = ap length is ∙ length-take k F in
    let fits = above_fits l left rest ts h in
    let so_many : copies.count ≡ left - above = omega (arith, long, sorted, all, count) in
    let texts : rest ≡ again (left - above) l ++ (row ++ drop k F) = copies.texts ∙ ap₂ (λ n us. again n l ++ us) so_many cut in
    record {
      texts = texts;
      next = record {
        done = (h.done ++ again (left - above) l) ++ row;
        all =
            append_assoc (h.done ++ again (left - above) l) row (drop k F)
            ∙ append_assoc h.done (again (left - above) l) (row ++ drop k F)
            ∙ ap (λ us. h.done ++ us) (sym texts)
            ∙ h.all;
        ends =
            last_of_both (h.done ++ again (left - above) l) row None
            ∙ ap (last_of row) (last_of_both h.done (again (left - above) l) None ∙ ap (last_of (again (left - above) l)) h.ends ∙ last_of_again (left - above) l);
        long = omega (arith, sizes, sorted, count);
      };
      held = omega (arith, sizes, sorted, count);
      fewer = λ some. omega (arith, sizes, sorted, count, first, fits);
    }

pub pass_text : (l : Option Text) (n : ℕ) (row rest less : List Text) → rest ≡ again n l ++ (row ++ less)
    → texts_after (is_some l) rest ≡ texts_after true (again n l) ++ (texts_after (is_some l) row ++ texts_after (is_some (last_of row l)) less)
pass_text l n row rest less e =
    ap (texts_after (is_some l)) e
    ∙ after_again n l (row ++ less)
    ∙ ap (λ w. texts_after true (again n l) ++ w) (after_row l row less)

pub nothing_left : (l : Option Text) (left : ℕ) (rest sorted : List Text) → IsLeft l left rest sorted → left ≤ 0 → texts_after (is_some l) rest ≡ []
nothing_left l left [] sorted h none = refl
nothing_left l left (t ∷ rest) sorted h none = let long = h.long in absurd (omega (arith, long))
