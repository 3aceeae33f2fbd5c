-- Texts in byte order: insertion, and what it leaves.
use Rattle.std.proofs.Common.{◌≡◌, ◌&&◌, not, Bool, true, false, cond, List, [], ◌∷◌, ◌++◌, Option, Some, None, refl, sym, ap, ◌∙◌, true≢false}
use Rattle.std.specs.Cmp.{IsStrictWeakOrder}
use Rattle.std.specs.List.{filter}
use Rattle.std.specs.Ordering.{is_lt, is_gt, ordering_reverse}
use Rattle.std.specs.declared.cmp.Ordering.{Ordering}
use Rattle.std.specs.declared.cmp.Ordering.TheVariants.{Less, Equal, Greater}
use Rattle.std.proofs.lemmas.Cmp.{nat_list_cmp_total}
use Rattle.std.proofs.lemmas.List.Sorted.{ranks_by}
use Rattle.std.proofs.lemmas.Map.Lookups.{exact_bytes}
use Rattle.promql_text.specs.Texts.{Text}
use Rattle.promql_label.specs.NextText.{Each, Follows, Rises, is_above, is_below, is_less, is_rising}
use Rattle.promql_label.specs.SortedTexts.{text_order, insert_text, sorted_texts}

pub less_ranks : IsStrictWeakOrder is_less
less_ranks = ranks_by nat_list_cmp_total (λ t. t)

pub same : (t : Text) → text_order t t ≡ Equal
same t = own (text_order t t) (nat_list_cmp_total.antisymm t t)
  where
    own : (o : Ordering) → o ≡ ordering_reverse o → o ≡ Equal
    own Less e = cc
    own Equal e = refl
    own Greater e = cc

pub exact : (s t : Text) → text_order s t ≡ Equal → s ≡ t
exact s t e = exact_bytes s t e

pub turn : (s t : Text) → text_order s t ≡ Greater → text_order t s ≡ Less
turn s t e = nat_list_cmp_total.antisymm t s ∙ ap ordering_reverse e

pub back : (s t : Text) → text_order s t ≡ Less → text_order t s ≡ Greater
back s t e = nat_list_cmp_total.antisymm t s ∙ ap ordering_reverse e

reversed : (r : Ordering) → is_gt (ordering_reverse r) ≡ is_lt r
reversed Less = refl
reversed Equal = refl
reversed Greater = refl

-- s is greater than t where t is less than s
pub greater_is_less : (s t : Text) → is_gt (text_order s t) ≡ is_less t s
greater_is_less s t = ap is_gt (nat_list_cmp_total.antisymm s t) ∙ reversed (text_order t s)

-- s is above t, which is no less than u
pub above_through : (s t u : Text) → is_gt (text_order s u) ≡ true → is_gt (text_order t u) ≡ false → is_gt (text_order s t) ≡ true
above_through s t u a b = greater_is_less s t ∙ step (is_less t s) refl
  where
    step : (x : Bool) → is_less t s ≡ x → is_less t s ≡ true
    step true e = e
    step false e = absurd (true≢false (sym (sym (greater_is_less s u) ∙ a) ∙ less_ranks.chain u t s (sym (greater_is_less t u) ∙ b) e))

pub insert_above : (t u : Text) (us : List Text) → is_gt (text_order t u) ≡ true → insert_text t (u ∷ us) ≡ u ∷ insert_text t us
insert_above t u us e = ap (λ b. cond b (u ∷ insert_text t us) (t ∷ u ∷ us)) e

pub insert_here : (t u : Text) (us : List Text) → is_gt (text_order t u) ≡ false → insert_text t (u ∷ us) ≡ t ∷ u ∷ us
insert_here t u us e = ap (λ b. cond b (u ∷ insert_text t us) (t ∷ u ∷ us)) e

-- ---- two insertions in either order

either_first : (s t : Text) (us : List Text) → cond (is_gt (text_order s t)) (t ∷ s ∷ us) (s ∷ t ∷ us) ≡ cond (is_gt (text_order t s)) (s ∷ t ∷ us) (t ∷ s ∷ us)
either_first s t us = step (text_order s t) refl
  where
    turned : (o : Ordering) → text_order s t ≡ o → is_gt (text_order t s) ≡ is_lt o
    turned o e = ap is_gt (nat_list_cmp_total.antisymm t s ∙ ap ordering_reverse e) ∙ reversed o

    step : (o : Ordering) → text_order s t ≡ o → cond (is_gt (text_order s t)) (t ∷ s ∷ us) (s ∷ t ∷ us) ≡ cond (is_gt (text_order t s)) (s ∷ t ∷ us) (t ∷ s ∷ us)
    step Less e = ap (λ b. cond b (t ∷ s ∷ us) (s ∷ t ∷ us)) (ap is_gt e) ∙ sym (ap (λ b. cond b (s ∷ t ∷ us) (t ∷ s ∷ us)) (turned Less e))
    step Equal e =
        ap (λ b. cond b (t ∷ s ∷ us) (s ∷ t ∷ us)) (ap is_gt e)
        ∙ ap (λ x. x ∷ t ∷ us) (exact s t e)
        ∙ ap (λ x. t ∷ x ∷ us) (sym (exact s t e))
        ∙ sym (ap (λ b. cond b (s ∷ t ∷ us) (t ∷ s ∷ us)) (turned Equal e))
    step Greater e = ap (λ b. cond b (t ∷ s ∷ us) (s ∷ t ∷ us)) (ap is_gt e) ∙ sym (ap (λ b. cond b (s ∷ t ∷ us) (t ∷ s ∷ us)) (turned Greater e))

-- s goes after u, and t before it
apart : (s t u : Text) (us : List Text) → is_gt (text_order s u) ≡ true → is_gt (text_order t u) ≡ false → insert_text s (insert_text t (u ∷ us)) ≡ insert_text t (insert_text s (u ∷ us))
apart s t u us a b =
    ap (insert_text s) (insert_here t u us b)
    ∙ insert_above s t (u ∷ us) (above_through s t u a b)
    ∙ ap (λ xs. t ∷ xs) (insert_above s u us a)
    ∙ sym (ap (insert_text t) (insert_above s u us a) ∙ insert_here t u (insert_text s us) b)

insert_either : (s t : Text) (us : List Text) → insert_text s (insert_text t us) ≡ insert_text t (insert_text s us)
insert_either s t [] = either_first s t []
insert_either s t (u ∷ us) = step (is_gt (text_order s u)) (is_gt (text_order t u)) refl refl (insert_either s t us)
  where
    step : (a b : Bool) → is_gt (text_order s u) ≡ a → is_gt (text_order t u) ≡ b → insert_text s (insert_text t us) ≡ insert_text t (insert_text s us) → insert_text s (insert_text t (u ∷ us)) ≡ insert_text t (insert_text s (u ∷ us))
    step true true a b more =
        ap (insert_text s) (insert_above t u us b)
        ∙ insert_above s u (insert_text t us) a
        ∙ ap (λ xs. u ∷ xs) more
        ∙ sym (ap (insert_text t) (insert_above s u us a) ∙ insert_above t u (insert_text s us) b)
    step true false a b more = apart s t u us a b
    step false true a b more = sym (apart t s u us b a)
    step false false a b more =
        ap (insert_text s) (insert_here t u us b)
        ∙ ap (λ xs. cond (is_gt (text_order s t)) (t ∷ xs) (s ∷ t ∷ u ∷ us)) (insert_here s u us a)
        ∙ either_first s t (u ∷ us)
        ∙ sym (ap (insert_text t) (insert_here s u us a) ∙ ap (λ xs. cond (is_gt (text_order t s)) (s ∷ xs) (t ∷ s ∷ u ∷ us)) (insert_here t u us b))

-- one more text at the end
pub sorted_more : (ts : List Text) (x : Text) → sorted_texts (ts ++ x ∷ []) ≡ insert_text x (sorted_texts ts)
sorted_more [] x = refl
sorted_more (t ∷ ts) x = ap (insert_text t) (sorted_more ts x) ∙ insert_either t x (sorted_texts ts)

-- ---- sorted texts rise

all_insert : (P : Text → Type 0) (t : Text) (us : List Text) → P t → Each P us → Each P (insert_text t us)
all_insert P t [] p h = (p, tt)
all_insert P t (u ∷ us) p h = step (is_gt (text_order t u)) (all_insert P t us p h.1)
  where
    step : (b : Bool) → Each P (insert_text t us) → Each P (cond b (u ∷ insert_text t us) (t ∷ u ∷ us))
    step true more = (h.0, more)
    step false more = (p, h)

-- what is no less than u is no less than t
pub follows_through : (t u : Text) (us : List Text) → is_less u t ≡ false → Follows (Some u) us → Follows (Some t) us
follows_through t u [] e h = tt
follows_through t u (x ∷ xs) e h = (less_ranks.chain x u t h.0 e, follows_through t u xs e h.1)

rises_insert : (t : Text) (us : List Text) → Rises us → Rises (insert_text t us)
rises_insert t [] h = (tt, tt)
rises_insert t (u ∷ us) h = step (is_gt (text_order t u)) refl (rises_insert t us h.1)
  where
    step : (b : Bool) → is_gt (text_order t u) ≡ b → Rises (insert_text t us) → Rises (cond b (u ∷ insert_text t us) (t ∷ u ∷ us))
    step true e more = (all_insert (λ x. is_less x u ≡ false) t us (less_ranks.one_way u t (sym (greater_is_less t u) ∙ e)) h.0, more)
    step false e more =
        let first : is_less u t ≡ false = sym (greater_is_less t u) ∙ e in
        ((first, follows_through t u us first h.0), h)

pub sorted_rises : (ts : List Text) → Rises (sorted_texts ts)
sorted_rises [] = tt
sorted_rises (t ∷ ts) = rises_insert t (sorted_texts ts) (sorted_rises ts)

-- ---- a list that is in order already

both_hold : (a b : Bool) → (a && b) ≡ true → (a ≡ true) × (b ≡ true)
both_hold true true e = (refl, refl)
both_hold true false e = absurd (true≢false (sym e))
both_hold false b e = absurd (true≢false (sym e))

pub holds_not : (a : Bool) → not a ≡ true → a ≡ false
holds_not true e = absurd (true≢false (sym e))
holds_not false e = refl

pub rising_is_sorted : (last : Option Text) (ts : List Text) → is_rising last ts ≡ true → sorted_texts ts ≡ ts
rising_is_sorted last [] h = refl
rising_is_sorted last (t ∷ []) h = refl
rising_is_sorted last (t ∷ u ∷ us) h =
    let rest = (both_hold (not (is_below last t)) (is_rising (Some t) (u ∷ us)) h).1 in
    let first : is_less u t ≡ false = holds_not (is_less u t) (both_hold (not (is_less u t)) (is_rising (Some u) us) rest).0 in
    ap (insert_text t) (rising_is_sorted (Some t) (u ∷ us) rest) ∙ insert_here t u us (greater_is_less t u ∙ first)

-- ---- those above a text

-- what is greater than one above is above
pub above_up : (l : Option Text) (x u : Text) → is_above l x ≡ true → is_gt (text_order x u) ≡ false → is_above l u ≡ true
above_up None x u a g = refl
above_up (Some t) x u a g = greater_is_less u t ∙ step (is_less t u) refl
  where
    step : (b : Bool) → is_less t u ≡ b → is_less t u ≡ true
    step true e = e
    step false e = absurd (true≢false (sym (sym (greater_is_less x t) ∙ a) ∙ less_ranks.chain t u x e (sym (greater_is_less x u) ∙ g)))

pub kept : (l : Option Text) (x : Text) (xs : List Text) → is_above l x ≡ true → filter (is_above l) (x ∷ xs) ≡ x ∷ filter (is_above l) xs
kept l x xs h = ap (λ b. cond b (x ∷ filter (is_above l) xs) (filter (is_above l) xs)) h

pub left_out : (l : Option Text) (x : Text) (xs : List Text) → is_above l x ≡ false → filter (is_above l) (x ∷ xs) ≡ filter (is_above l) xs
left_out l x xs h = ap (λ b. cond b (x ∷ filter (is_above l) xs) (filter (is_above l) xs)) h

insert_left_out : (l : Option Text) (x : Text) (us : List Text) → is_above l x ≡ false → filter (is_above l) (insert_text x us) ≡ filter (is_above l) us
insert_left_out l x [] h = left_out l x [] h
insert_left_out l x (u ∷ us) h = step (is_gt (text_order x u)) refl (insert_left_out l x us h)
  where
    step : (b : Bool) → is_gt (text_order x u) ≡ b → filter (is_above l) (insert_text x us) ≡ filter (is_above l) us → filter (is_above l) (insert_text x (u ∷ us)) ≡ filter (is_above l) (u ∷ us)
    step true e more = ap (filter (is_above l)) (insert_above x u us e) ∙ ap (λ vs. cond (is_above l u) (u ∷ vs) vs) more
    step false e more = ap (filter (is_above l)) (insert_here x u us e) ∙ left_out l x (u ∷ us) h

insert_kept : (l : Option Text) (x : Text) (us : List Text) → is_above l x ≡ true → filter (is_above l) (insert_text x us) ≡ insert_text x (filter (is_above l) us)
insert_kept l x [] h = kept l x [] h
insert_kept l x (u ∷ us) h = step (is_gt (text_order x u)) (is_above l u) refl refl (insert_kept l x us h)
  where
    step : (b a : Bool) → is_gt (text_order x u) ≡ b → is_above l u ≡ a → filter (is_above l) (insert_text x us) ≡ insert_text x (filter (is_above l) us) → filter (is_above l) (insert_text x (u ∷ us)) ≡ insert_text x (filter (is_above l) (u ∷ us))
    step true true e f more =
        ap (filter (is_above l)) (insert_above x u us e)
        ∙ kept l u (insert_text x us) f
        ∙ ap (λ vs. u ∷ vs) more
        ∙ sym (ap (insert_text x) (kept l u us f) ∙ insert_above x u (filter (is_above l) us) e)
    step true false e f more =
        ap (filter (is_above l)) (insert_above x u us e)
        ∙ left_out l u (insert_text x us) f
        ∙ more
        ∙ sym (ap (insert_text x) (left_out l u us f))
    step false a e f more =
        let up = above_up l x u h e in
        ap (filter (is_above l)) (insert_here x u us e)
        ∙ kept l x (u ∷ us) h
        ∙ ap (λ vs. x ∷ vs) (kept l u us up)
        ∙ sym (ap (insert_text x) (kept l u us up) ∙ insert_here x u (filter (is_above l) us) e)

pub sorted_above : (l : Option Text) (ts : List Text) → sorted_texts (filter (is_above l) ts) ≡ filter (is_above l) (sorted_texts ts)
sorted_above l [] = refl
sorted_above l (t ∷ ts) = step (is_above l t) refl (sorted_above l ts)
  where
    step : (b : Bool) → is_above l t ≡ b → sorted_texts (filter (is_above l) ts) ≡ filter (is_above l) (sorted_texts ts) → sorted_texts (filter (is_above l) (t ∷ ts)) ≡ filter (is_above l) (sorted_texts (t ∷ ts))
    step true e more = ap sorted_texts (kept l t ts e) ∙ ap (insert_text t) more ∙ sym (insert_kept l t (sorted_texts ts) e)
    step false e more = ap sorted_texts (left_out l t ts e) ∙ more ∙ sym (insert_left_out l t (sorted_texts ts) e)
