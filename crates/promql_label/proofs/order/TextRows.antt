-- Rows of the least texts: where a text goes in a row, and what is left after one.
use Rattle.std.proofs.Common.{◌≡◌, ℕ, zero, suc, ◌+◌, ◌-◌, ◌<◌, ◌≤◌, ◌≢◌, Bool, true, false, cond, leb, leb-true, leb-false, min, set, List, [], ◌∷◌, ◌++◌, Option, Some, None, length, take, drop, map, get_or, refl, sym, ap, ap₂, subst, ◌∙◌, append-nil, true≢false, arith}
use Rattle.std.specs.Prelude.{◌↔◌, IsTrue, insert, not}
use Rattle.std.specs.List.{filter, AllWithin}
use Rattle.std.specs.List.Sorted.{IsPartitionedBy}
use Rattle.std.specs.Ordering.{is_lt, is_gt}
use Rattle.std.specs.declared.cmp.Ordering.{Ordering}
use Rattle.std.specs.declared.cmp.Ordering.TheVariants.{Less, Equal, Greater}
use Rattle.std.proofs.lemmas.List.{drop_all, get_or_default, length-drop, length-take-le, set_split, take-map, take-take, take_all, take_at}
use Rattle.std.proofs.lemmas.List.Edits.{length-insert}
use Rattle.std.proofs.lemmas.List.Elements.{filter-append}
use Rattle.std.proofs.Math.ListN.{length-append}
use Rattle.promql_text.specs.Texts.{Text}
use Rattle.promql_label.specs.NextText.{Each, Follows, Rises, again, is_above, is_less, last_of, times}
use Rattle.promql_label.specs.SortedTexts.{text_order, insert_text, sorted_texts}
use Rattle.promql_label.proofs.order.RisingTexts.{less_ranks, same, exact, greater_is_less, insert_above, insert_here, follows_through, holds_not, above_up, sorted_more, kept, left_out}

-- ---- where a text goes

at_each : {X : Type 0} (f : X → Text) (P : Text → Type 0) (xs : List X) (k : ℕ) (d : X) → Each P (map f xs) → k < length xs → P (f (get_or xs k d))
at_each f P [] k d h lt = absurd (omega arith)
at_each f P (x ∷ xs) zero d h lt = h.0
at_each f P (x ∷ xs) (suc k) d h lt = at_each f P xs k d h.1 (omega arith)

not_less_itself : (t : Text) → is_less t t ≡ false
not_less_itself t = step (is_less t t) refl
  where
    step : (b : Bool) → is_less t t ≡ b → is_less t t ≡ false
    step true e = less_ranks.one_way t t e
    step false e = e

rises_far : {X : Type 0} (f : X → Text) (xs : List X) (i j : ℕ) (d : X) → Rises (map f xs) → i ≤ j → j < length xs → is_less (f (get_or xs j d)) (f (get_or xs i d)) ≡ false
rises_far f [] i j d h le lt = absurd (omega arith)
rises_far f (x ∷ xs) zero zero d h le lt = not_less_itself (f x)
rises_far f (x ∷ xs) zero (suc j) d h le lt = at_each f (λ u. is_less u (f x) ≡ false) xs j d h.0 (omega arith)
rises_far f (x ∷ xs) (suc i) zero d h le lt = absurd (omega arith)
rises_far f (x ∷ xs) (suc i) (suc j) d h le lt = rises_far f xs i j d h.1 (omega arith) (omega arith)

-- those below a text come first
pub rising_is_parted : {X : Type 0} (f : X → Text) (xs : List X) (t : Text) → Rises (map f xs) → IsPartitionedBy (λ x. is_less (f x) t) xs
rising_is_parted f xs t h = λ i j d le lt below. step (f (get_or xs i d)) (f (get_or xs j d)) (rises_far f xs i j d h le lt) below (is_less (f (get_or xs i d)) t) refl
  where
    step : (s u : Text) → is_less u s ≡ false → is_less u t ≡ true → (b : Bool) → is_less s t ≡ b → is_less s t ≡ true
    step s u far below true e = e
    step s u far below false e = absurd (true≢false (sym below ∙ less_ranks.chain u s t far e))

pub place_is : {X : Type 0} (f : X → Text) (xs : List X) (i : ℕ) (t : Text) → i ≤ length xs
    → AllWithin (λ x. is_less (f x) t ≡ true) xs 0 i → AllWithin (λ x. is_less (f x) t ≡ false) xs i (length xs)
    → insert_text t (map f xs) ≡ insert (map f xs) i t
place_is f [] zero t le below above = refl
place_is f [] (suc i) t le below above = absurd (omega arith)
place_is f (x ∷ xs) zero t le below above = insert_here t (f x) (map f xs) (greater_is_less t (f x) ∙ above 0 x (omega arith) (omega arith))
place_is f (x ∷ xs) (suc i) t le below above =
    insert_above t (f x) (map f xs) (greater_is_less t (f x) ∙ below 0 x (omega arith) (omega arith))
    ∙ ap (λ us. f x ∷ us) (place_is f xs i t (omega arith) (λ k d a b. below (suc k) d (omega arith) (omega arith)) (λ k d a b. above (suc k) d (omega arith) (omega arith)))

-- a text that is greater than the last goes to the end
pub end_is : {X : Type 0} (f : X → Text) (xs : List X) (last : X) (t : Text) → Rises (map f xs)
    → 0 < length xs → last ≡ get_or xs (length xs - 1) last → is_less (f last) t ≡ true
    → insert_text t (map f xs) ≡ insert (map f xs) (length xs) t
end_is f xs last t h some is below =
    let parted = rising_is_parted f xs t h in
    let at_end : is_less (f (get_or xs (length xs - 1) last)) t ≡ true = ap (λ x. is_less (f x) t) (sym is) ∙ below in
    place_is f xs (length xs) t (omega arith)
    (λ k d a b. parted k (length xs - 1) d (omega arith) (omega arith) (at_any d at_end))
    (λ k d a b. absurd (omega arith))
  where
    at_any : (d : _) → is_less (f (get_or xs (length xs - 1) last)) t ≡ true → is_less (f (get_or xs (length xs - 1) d)) t ≡ true
    at_any d e = ap (λ x. is_less (f x) t) (get_or_default xs (length xs - 1) d last (omega arith)) ∙ e

-- no text of a row in order is less than t exactly if the first isn't
pub first_goes : {X : Type 0} (f : X → Text) (xs : List X) (first : X) (t : Text) → Rises (map f xs)
    → 0 < length xs → first ≡ get_or xs 0 first → IsTrue (not (is_less (f first) t)) ↔ Follows (Some t) (map f xs)
first_goes f [] first t h some is = absurd (omega arith)
first_goes f (x ∷ xs) first t h some is =
    let as_first : is_less (f first) t ≡ is_less (f x) t = ap (λ z. is_less (f z) t) is in (
      λ e. let least : is_less (f x) t ≡ false = sym as_first ∙ holds_not (is_less (f first) t) e in (least, follows_through t (f x) (map f xs) least h.0),
      λ follows. ap not (as_first ∙ follows.0),
    )

pub none_goes : {X : Type 0} (f : X → Text) (xs : List X) (t : Text) → length xs ≤ 0 → IsTrue true ↔ Follows (Some t) (map f xs)
none_goes f [] t none = (λ _. tt, λ _. refl)
none_goes f (x ∷ xs) t none = absurd (omega arith)

pub front_is : (t : Text) (us : List Text) → Follows (Some t) us → insert_text t us ≡ insert us 0 t
front_is t [] h = refl
front_is t (u ∷ us) h = insert_here t u us (greater_is_less t u ∙ h.0)

-- ---- the first texts of a sorted list

first_again : (k : ℕ) (u : Text) (us : List Text) → take k (u ∷ us) ≡ take k (u ∷ take k us)
first_again zero u us = refl
first_again (suc k) u us = ap (λ vs. u ∷ vs) (sym (take-take k (suc k) us (omega arith)))

-- a text that is put among the first k texts is put among all
pub take_insert : (k : ℕ) (t : Text) (us : List Text) → take k (insert_text t us) ≡ take k (insert_text t (take k us))
take_insert zero t us = refl
take_insert (suc k) t [] = refl
take_insert (suc k) t (u ∷ us) = step (is_gt (text_order t u)) refl (take_insert k t us)
  where
    step : (b : Bool) → is_gt (text_order t u) ≡ b → take k (insert_text t us) ≡ take k (insert_text t (take k us)) → take (suc k) (insert_text t (u ∷ us)) ≡ take (suc k) (insert_text t (take (suc k) (u ∷ us)))
    step true e more =
        ap (take (suc k)) (insert_above t u us e)
        ∙ ap (λ vs. u ∷ vs) more
        ∙ sym (ap (take (suc k)) (insert_above t u (take k us) e))
    step false e more =
        ap (take (suc k)) (insert_here t u us e)
        ∙ ap (λ vs. t ∷ vs) (first_again k u us)
        ∙ sym (ap (take (suc k)) (insert_here t u (take k us) e))

take_each : (P : Text → Type 0) (k : ℕ) (us : List Text) → Each P us → Each P (take k us)
take_each P zero us h = tt
take_each P (suc k) [] h = tt
take_each P (suc k) (u ∷ us) h = (h.0, take_each P k us h.1)

pub take_rises : (k : ℕ) (us : List Text) → Rises us → Rises (take k us)
take_rises zero us h = tt
take_rises (suc k) [] h = tt
take_rises (suc k) (u ∷ us) h = (take_each (λ x. is_less x u ≡ false) k us h.0, take_rises k us h.1)

-- ---- a row with one more

pub last_set : {X : Type 0} (row : List X) (x : X) → 0 < length row → set row (length row - 1) x ≡ take (length row - 1) row ++ x ∷ []
last_set row x some = set_split row (length row - 1) x (omega arith) ∙ ap (λ xs. take (length row - 1) row ++ x ∷ xs) (drop_all (suc (length row - 1)) row (omega arith))

take_of_insert : {X : Type 0} (n place : ℕ) (row : List X) (x : X) → place ≤ n → take (suc n) (insert row place x) ≡ insert (take n row) place x
take_of_insert n zero row x le = refl
take_of_insert zero (suc place) row x le = absurd (omega arith)
take_of_insert (suc n) (suc place) [] x le = refl
take_of_insert (suc n) (suc place) (y ∷ row) x le = ap (λ ys. y ∷ ys) (take_of_insert n place row x (omega arith))

map_insert : {X : Type 0} (f : X → Text) (xs : List X) (place : ℕ) (x : X) → map f (insert xs place x) ≡ insert (map f xs) place (f x)
map_insert f xs zero x = refl
map_insert f [] (suc place) x = refl
map_insert f (y ∷ xs) (suc place) x = ap (λ us. f y ∷ us) (map_insert f xs place x)

-- the row, up to its greatest, holds the first of what it held and one more
same_held : {X : Type 0} (row : List X) (held place : ℕ) (x : X) → held ≤ length row → place ≤ held → 0 < length row
    → place ≤ min held (length row - 1)
    → insert (take (min held (length row - 1)) row) place x ≡ take (length row) (insert (take held row) place x)
same_held row held place x within le some before = step (leb (length row) held) refl
  where
    last : ℕ
    last = min held (length row - 1)

    long : length (insert (take held row) place x) ≡ held + 1
    long = let n = length-take-le held row within in length-insert (take held row) place x (omega (arith, n)) ∙ ap (λ m. m + 1) n

    step : (b : Bool) → leb (length row) held ≡ b → insert (take last row) place x ≡ take (length row) (insert (take held row) place x)
    step true e =
        let full = leb-true (length row) held e in
        let at : length row ≡ suc last = omega (arith, full) in
        ap (λ xs. insert xs place x) (sym (take-take last held row (omega arith)))
        ∙ sym (take_of_insert last place (take held row) x before)
        ∙ ap (λ n. take n (insert (take held row) place x)) (sym at)
    step false e =
        let room = leb-false (length row) held e in
        let at : last ≡ held = omega (arith, room) in
        ap (λ n. insert (take n row) place x) at
        ∙ sym (take_all (length row) (insert (take held row) place x) (omega (arith, long, room)))

pub row_holds : {X : Type 0} (f : X → Text) (row new : List X) (held place last : ℕ) (x : X) → held ≤ length row → place ≤ held → (place ≢ length row)
    → last ≡ min held (length row - 1) → 0 < length row
    → new ≡ insert (take (length (take (last + 1) row) - 1) (take (last + 1) row)) place x
    → map f (take (last + 1) (new ++ drop (last + 1) row)) ≡ take (length (new ++ drop (last + 1) row)) (insert (map f (take held row)) place (f x))
row_holds f row new held place last x within le not_end at some is =
    let part : length (take (last + 1) row) ≡ last + 1 = length-take-le (last + 1) row (omega (arith, at)) in
    let front : take (length (take (last + 1) row) - 1) (take (last + 1) row) ≡ take last row =
    ap (λ n. take n (take (last + 1) row)) (omega (arith, part)) ∙ take-take last (last + 1) row (omega arith) in
    let new_is : new ≡ insert (take last row) place x = is ∙ ap (λ xs. insert xs place x) front in
    let size = length-take-le last row (omega (arith, at)) in
    let before : place ≤ last = omega (arith, at, not_end) in
    let new_long : length new ≡ last + 1 = ap length new_is ∙ length-insert (take last row) place x (omega (arith, size, before)) ∙ ap (λ n. n + 1) size in
    let rest = length-drop (last + 1) row in
    let whole : length (new ++ drop (last + 1) row) ≡ length row = length-append new (drop (last + 1) row) ∙ omega (arith, new_long, rest, at) in
    ap (map f) (take_at new (drop (last + 1) row) (last + 1) new_long)
    ∙ ap (map f) (new_is ∙ ap (λ n. insert (take n row) place x) at ∙ same_held row held place x within le some (omega (arith, before, at)))
    ∙ sym (take-map f (length row) (insert (take held row) place x))
    ∙ ap (take (length row)) (map_insert f (take held row) place x)
    ∙ ap (λ n. take n (insert (map f (take held row)) place (f x))) (sym whole)

-- ---- one text more is looked at

one_kept : (l : Option Text) (ts : List Text) (x : Text) → is_above l x ≡ true → filter (is_above l) (ts ++ x ∷ []) ≡ filter (is_above l) ts ++ x ∷ []
one_kept l ts x h = filter-append (is_above l) ts (x ∷ []) ∙ ap (λ xs. filter (is_above l) ts ++ xs) (kept l x [] h)

pub one_left_out : (l : Option Text) (ts : List Text) (x : Text) → is_above l x ≡ false → filter (is_above l) (ts ++ x ∷ []) ≡ filter (is_above l) ts
one_left_out l ts x h = filter-append (is_above l) ts (x ∷ []) ∙ ap (λ xs. filter (is_above l) ts ++ xs) (left_out l x [] h) ∙ append-nil (filter (is_above l) ts)

pub one_above : (l : Option Text) (ts : List Text) (x : Text) → is_above l x ≡ true → length (filter (is_above l) (ts ++ x ∷ [])) ≡ length (filter (is_above l) ts) + 1
one_above l ts x h = ap length (one_kept l ts x h) ∙ length-append (filter (is_above l) ts) (x ∷ [])

pub row_more : (k : ℕ) (l : Option Text) (ts : List Text) (x : Text) (row : List Text) → is_above l x ≡ true → row ≡ take k (sorted_texts (filter (is_above l) ts))
    → take k (insert_text x row) ≡ take k (sorted_texts (filter (is_above l) (ts ++ x ∷ [])))
row_more k l ts x row h is =
    ap (λ us. take k (insert_text x us)) is
    ∙ sym (take_insert k x (sorted_texts (filter (is_above l) ts)))
    ∙ ap (take k) (sym (ap sorted_texts (one_kept l ts x h) ∙ sorted_more (filter (is_above l) ts) x))

pub few_above : {X : Type 0} (l : Option Text) (f : X → Text) (xs : List X) (i : ℕ) → length (filter (is_above l) (map f (take i xs))) ≤ i
few_above l f xs zero = omega arith
few_above l f [] (suc i) = omega arith
few_above l f (x ∷ xs) (suc i) = step (is_above l (f x)) (few_above l f xs i)
  where
    step : (b : Bool) → length (filter (is_above l) (map f (take i xs))) ≤ i → length (cond b (f x ∷ filter (is_above l) (map f (take i xs))) (filter (is_above l) (map f (take i xs)))) ≤ suc i
    step true more = omega (arith, more)
    step false more = omega (arith, more)

-- ---- what is left

pub last_of_both : (ts us : List Text) (other : Option Text) → last_of (ts ++ us) other ≡ last_of us (last_of ts other)
last_of_both [] us other = refl
last_of_both (t ∷ ts) us other = last_of_both ts us (Some t)

pub last_is : {X : Type 0} (f : X → Text) (xs : List X) (x : X) (other : Option Text) → 0 < length xs → x ≡ get_or xs (length xs - 1) x → last_of (map f xs) other ≡ Some (f x)
last_is f [] x other some is = absurd (omega arith)
last_is f (y ∷ []) x other some is = ap (λ z. Some (f z)) (sym is)
last_is f (y ∷ z ∷ xs) x other some is =
    let at : length (y ∷ z ∷ xs) - 1 ≡ suc (length (z ∷ xs) - 1) = omega arith in
    last_is f (z ∷ xs) x (Some (f y)) (omega arith) (is ∙ ap (λ n. get_or (y ∷ z ∷ xs) n x) at)

last_of_times : (n : ℕ) (t : Text) → last_of (times n t) (Some t) ≡ Some t
last_of_times zero t = refl
last_of_times (suc n) t = last_of_times n t

pub last_of_again : (n : ℕ) (l : Option Text) → last_of (again n l) l ≡ l
last_of_again n None = refl
last_of_again n (Some t) = last_of_times n t

rest_follows : (l : Option Text) (ts us : List Text) → Follows l (ts ++ us) → Rises (ts ++ us) → Follows (last_of ts l) us × Rises us
rest_follows l [] us f r = (f, r)
rest_follows l (t ∷ ts) us f r = rest_follows (Some t) ts us r.0 r.1

not_above_last : (t e : Text) (es : List Text) → is_less e t ≡ false → Follows (Some t) es → is_above (last_of es (Some e)) t ≡ false
not_above_last t e [] h hs = greater_is_less t e ∙ h
not_above_last t e (u ∷ us) h hs = not_above_last t u us hs.0 hs.1

-- of a rising list nothing is above its last text
none_above : (l : Option Text) (ts : List Text) → Rises ts → filter (is_above (last_of ts l)) ts ≡ []
none_above l [] r = refl
none_above l (t ∷ []) r = ap (λ o. cond (is_gt o) (t ∷ []) []) (same t)
none_above l (t ∷ u ∷ us) r =
    ap (λ b. cond b (t ∷ filter (is_above (last_of us (Some u))) (u ∷ us)) (filter (is_above (last_of us (Some u))) (u ∷ us))) (not_above_last t u us r.0.0 r.0.1)
    ∙ none_above (Some t) (u ∷ us) r.1

front_each : (P : Text → Type 0) (ts us : List Text) → Each P (ts ++ us) → Each P ts
front_each P [] us h = tt
front_each P (x ∷ xs) us h = (h.0, front_each P xs us h.1)

front_rises : (ts us : List Text) → Rises (ts ++ us) → Rises ts
front_rises [] us r = tt
front_rises (t ∷ ts) us r = (front_each (λ u. is_less u t ≡ false) ts us r.0, front_rises ts us r.1)

all_above : (t u : Text) (us : List Text) → is_gt (text_order u t) ≡ true → Follows (Some u) us → filter (is_above (Some t)) us ≡ us
all_above t u [] g f = refl
all_above t u (x ∷ xs) g f =
    ap (λ b. cond b (x ∷ filter (is_above (Some t)) xs) (filter (is_above (Some t)) xs)) (above_up (Some t) u x g (greater_is_less u x ∙ f.0))
    ∙ ap (λ ys. x ∷ ys) (all_above t u xs g f.1)

filter_all : (ts : List Text) → filter (is_above None) ts ≡ ts
filter_all [] = refl
filter_all (x ∷ xs) = ap (λ ys. x ∷ ys) (filter_all xs)

-- texts that follow l are copies of l, and those above it
pub record IsCopiesFirst (l : Option Text) (rest above : List Text) : Type 0 where
  pub count : ℕ
  pub texts : rest ≡ again count l ++ above
  pub long : length rest ≡ count + length above

copies_first : (l : Option Text) (rest : List Text) → Follows l rest → Rises rest → IsCopiesFirst l rest (filter (is_above l) rest)
copies_first None rest f r = let long = ap length (filter_all rest) in record { count = 0; texts = sym (filter_all rest); long = omega (arith, long) }
copies_first (Some t) [] f r = record { count = 0; texts = refl; long = omega arith }
copies_first (Some t) (u ∷ us) f r = step (text_order u t) refl (copies_first (Some t) us f.1 r.1)
  where
    step : (o : Ordering) → text_order u t ≡ o → IsCopiesFirst (Some t) us (filter (is_above (Some t)) us) → IsCopiesFirst (Some t) (u ∷ us) (cond (is_gt o) (u ∷ filter (is_above (Some t)) us) (filter (is_above (Some t)) us))
    step Less e more = absurd (true≢false (sym (ap is_lt e) ∙ f.0))
    step Equal e more = record { count = suc more.count; texts = ap₂ (λ x xs. x ∷ xs) (exact u t e) more.texts; long = let long = more.long in omega (arith, long) }
    step Greater e more =
        let all = all_above t u us (ap is_gt e) r.0 in
        let long = ap length all in
        record { count = 0; texts = ap (λ xs. u ∷ xs) (sym all); long = omega (arith, long) }

-- after the first texts of a rising list: copies of the last of them, and those of the whole list above it
pub left_after : (done rest : List Text) → Rises (done ++ rest) → IsCopiesFirst (last_of done None) rest (filter (is_above (last_of done None)) (done ++ rest))
left_after done rest r =
    let l = last_of done None in
    let follows = rest_follows None done rest tt r in
    let first = copies_first l rest follows.0 follows.1 in
    let same_above : filter (is_above l) (done ++ rest) ≡ filter (is_above l) rest =
    filter-append (is_above l) done rest ∙ ap (λ xs. xs ++ filter (is_above l) rest) (none_above None done (front_rises done rest r)) in
    subst (IsCopiesFirst l rest) (sym same_above) first
