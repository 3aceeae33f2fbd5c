-- Which labels two lists have in common, and in which order.
use Rattle.std.proofs.Common.{◌≡◌, ◌≢◌, ◌↔◌, ℕ, ◌+◌, ◌<◌, Bool, true, false, cond, List, [], ◌∷◌, ◌++◌, length, get_or, map, refl, sym, ap, ◌∙◌, append-nil, string_bytes, Global, arith}
use Rattle.std.specs.Prelude.{not, ◌&&◌, ◌||◌, if◌then◌else◌, filter}
use Rattle.std.specs.List.{All, AllPairs, Contains, list_any, position_or_len}
use Rattle.std.specs.Str.{bytes_eq}
use Rattle.std.specs.declared.string.String.{String}
use Rattle.std.proofs.lemmas.Cmp.{nat_list_eq_equiv}
use Rattle.std.proofs.lemmas.List.{get_or_default}
use Rattle.std.proofs.lemmas.List.Elements.{filter-append, filter_passes}
use Rattle.std.proofs.lemmas.List.Folds.{list_any_none, list_any_at}
use Rattle.std.proofs.lemmas.List.Kept.{AllPairs-filter, AllPairs-cons}
use Rattle.std.proofs.lemmas.Map.Views.{any-filter_same, list_any-from_Contains, Contains-from_any}
use Rattle.std.proofs.lemmas.Slice.Eq.{bytes_eq-Decides}
use Rattle.promql_text.specs.Texts.{Text}
use Rattle.promql_label.specs.Labels.{is_among, firsts, common}
use Rattle.promql_label.proofs.order.OneOrder.{one_order}

-- ---- tests

same : (l k : Text) → bytes_eq l k ≡ true → l ≡ k
same l k e = (bytes_eq-Decides l k).0 e

pub list_any-map : {X : Type 0} (p : Text → Bool) (f : X → Text) (xs : List X) → list_any p (map f xs) ≡ list_any (λ x. p (f x)) xs
list_any-map p f [] = refl
list_any-map p f (x ∷ xs) = ap (λ b. p (f x) || b) (list_any-map p f xs)

-- a test of the labels is a test of their texts
pub list_any-texts : (p : Text → Bool) (xs : List (String Global)) → list_any (λ x. p (string_bytes x)) xs ≡ list_any p (map string_bytes xs)
list_any-texts p xs = sym (list_any-map p string_bytes xs)

-- ---- which labels there are

is_among-filter : (p : Text → Bool) (ls : List Text) (l : Text) → is_among (filter p ls) l ≡ (p l && is_among ls l)
is_among-filter p ls l = any-filter_same (bytes_eq l) p (p l) (λ k e. ap p (sym (same l k e))) ls

seen_or : (a c : Bool) → (a || (not a && c)) ≡ (a || c)
seen_or true c = refl
seen_or false c = refl

pub is_among-firsts : (ls : List Text) (l : Text) → is_among (firsts ls) l ≡ is_among ls l
is_among-firsts [] l = refl
is_among-firsts (k ∷ ls) l =
    ap (λ b. bytes_eq l k || b) (is_among-filter (λ m. not (bytes_eq k m)) (firsts ls) l)
    ∙ ap (λ b. bytes_eq l k || (not b && is_among (firsts ls) l)) (nat_list_eq_equiv.symm k l)
    ∙ seen_or (bytes_eq l k) (is_among (firsts ls) l)
    ∙ ap (λ b. bytes_eq l k || b) (is_among-firsts ls l)

pub is_among-common : (ls others : List Text) (l : Text) → is_among (common ls others) l ≡ (is_among others l && is_among ls l)
is_among-common ls others l =
    is_among-filter (is_among others) (firsts ls) l ∙ ap (λ b. is_among others l && b) (is_among-firsts ls l)

-- ---- one label more

keep_unless : Bool → Text → List Text
keep_unless b l = if b then [] else l ∷ []

filter-kept : (p : Text → Bool) (seen : Bool) (l : Text) → filter p (if seen then [] else l ∷ []) ≡ (if not (p l) || seen then [] else l ∷ [])
filter-kept p true l = by_pass (p l)
  where
    by_pass : (b : Bool) → [] ≡ (if not b || true then [] else l ∷ [])
    by_pass true = refl
    by_pass false = refl
filter-kept p false l = by_pass (p l)
  where
    by_pass : (b : Bool) → cond b (l ∷ []) [] ≡ (if not b || false then [] else l ∷ [])
    by_pass true = refl
    by_pass false = refl

firsts-push : (ls : List Text) (l : Text) → firsts (ls ++ l ∷ []) ≡ firsts ls ++ (if is_among ls l then [] else l ∷ [])
firsts-push [] l = refl
firsts-push (k ∷ ls) l =
    let q : Text → Bool = λ m. not (bytes_eq k m) in
    ap (λ ms. k ∷ ms) (
    ap (filter q) (firsts-push ls l)
    ∙ filter-append q (firsts ls) (if is_among ls l then [] else l ∷ [])
    ∙ ap (λ ms. filter q (firsts ls) ++ ms) (filter-kept q (is_among ls l) l)
    ∙ ap (λ b. filter q (firsts ls) ++ (if b || is_among ls l then [] else l ∷ [])) (not-not (bytes_eq k l) ∙ nat_list_eq_equiv.symm k l)
    )
  where
    not-not : (b : Bool) → not (not b) ≡ b
    not-not true = refl
    not-not false = refl

-- a label of the other list that isn't there yet comes after the common labels; no other does
pub common-push : (ls others : List Text) (l : Text)
    → common (ls ++ l ∷ []) others ≡ common ls others ++ (if is_among others l && not (is_among (common ls others) l) then l ∷ [] else [])
common-push ls others l =
    ap (filter (is_among others)) (firsts-push ls l)
    ∙ filter-append (is_among others) (firsts ls) (if is_among ls l then [] else l ∷ [])
    ∙ ap (λ ms. common ls others ++ ms) (filter-kept (is_among others) (is_among ls l) l ∙ keep_by_parts (is_among others l) (is_among ls l))
    ∙ ap (λ b. common ls others ++ (if is_among others l && not b then l ∷ [] else [])) (sym (is_among-common ls others l))
  where
    keep_by_parts : (o s : Bool) → (if not o || s then [] else l ∷ []) ≡ (if o && not (o && s) then l ∷ [] else [])
    keep_by_parts true true = refl
    keep_by_parts true false = refl
    keep_by_parts false s = refl

pub common-kept : (ls others : List Text) (l : Text) → is_among others l ≡ true → is_among (common ls others) l ≡ false → common (ls ++ l ∷ []) others ≡ common ls others ++ l ∷ []
common-kept ls others l there new =
    common-push ls others l
    ∙ ap (λ b. common ls others ++ (if b && not (is_among (common ls others) l) then l ∷ [] else [])) there
    ∙ ap (λ b. common ls others ++ (if not b then l ∷ [] else [])) new

pub common-not_there : (ls others : List Text) (l : Text) → is_among others l ≡ false → common (ls ++ l ∷ []) others ≡ common ls others
common-not_there ls others l absent =
    common-push ls others l
    ∙ ap (λ b. common ls others ++ (if b && not (is_among (common ls others) l) then l ∷ [] else [])) absent
    ∙ append-nil (common ls others)

pub common-seen : (ls others : List Text) (l : Text) → is_among (common ls others) l ≡ true → common (ls ++ l ∷ []) others ≡ common ls others
common-seen ls others l seen =
    common-push ls others l
    ∙ ap (λ b. common ls others ++ (if is_among others l && not b then l ∷ [] else [])) seen
    ∙ ap (λ b. common ls others ++ (if b then l ∷ [] else [])) (and-false (is_among others l))
    ∙ append-nil (common ls others)
  where
    and-false : (b : Bool) → (b && false) ≡ false
    and-false true = refl
    and-false false = refl

-- ---- no label in common

both : (a b : Bool) → (a && b) ≡ true → (a ≡ true) × (b ≡ true)
both true true e = (refl, refl)
both true false e = absurd (cc)
both false b e = absurd (cc)

pub Contains-from_is_among : (ls : List Text) (l : Text) → is_among ls l ≡ true → Contains ls l
Contains-from_is_among ls l e = Contains-from_any same l ls e

pub is_among-from_Contains : (ls : List Text) (l : Text) → Contains ls l → is_among ls l ≡ true
is_among-from_Contains ls l e = list_any-from_Contains nat_list_eq_equiv l ls e

none_common : (ls others : List Text) → common ls others ≡ [] → list_any (is_among others) ls ≡ false
none_common ls others none = list_any_none (is_among others) ls (λ k d lt.
    let x : Text = get_or ls k d in
    let there : is_among ls x ≡ true = is_among-from_Contains ls x (k, lt, get_or_default ls k x d lt) in
    let apart : (is_among others x && is_among ls x) ≡ false = sym (is_among-common ls others x) ∙ ap (λ ms. is_among ms x) none in
    sym (and-true (is_among others x)) ∙ ap (λ b. is_among others x && b) (sym there) ∙ apart)
  where
    and-true : (b : Bool) → (b && true) ≡ b
    and-true true = refl
    and-true false = refl

some_common : (ls others : List Text) → common ls others ≢ [] → list_any (is_among others) ls ≡ true
some_common ls others some = common_is_among (common ls others) refl some
  where
    common_is_among : (ms : List Text) → common ls others ≡ ms → ms ≢ [] → list_any (is_among others) ls ≡ true
    common_is_among [] is some = absurd (some refl)
    common_is_among (l ∷ ms) is some =
        let front : is_among (common ls others) l ≡ true = ap (λ ks. is_among ks l) is ∙ ap (λ b. b || is_among ms l) (nat_list_eq_equiv.refl l) in
        let parts = both (is_among others l) (is_among ls l) (sym (is_among-common ls others l) ∙ front) in
        let there : Contains ls l = Contains-from_is_among ls l parts.1 in
        list_any_at (is_among others) ls there.0 l there.1 (ap (is_among others) there.2 ∙ parts.0)

-- the lists have a label in common exactly if the list of common labels has one
pub joint-common : (ls others : List Text) → (list_any (is_among others) ls ≡ true) ↔ (common ls others ≢ [])
joint-common ls others = (λ e none. absurd (apart (sym e ∙ none_common ls others none)), λ some. some_common ls others some)
  where
    apart : true ≡ false → ⊥
    apart e = cc

-- ---- laws

pub common-Contains : (ls others : List Text) (l : Text) → Contains (common ls others) l ↔ (Contains ls l × Contains others l)
common-Contains ls others l = (
  λ there.
      let parts = both (is_among others l) (is_among ls l) (sym (is_among-common ls others l) ∙ is_among-from_Contains (common ls others) l there) in
      (Contains-from_is_among ls l parts.1, Contains-from_is_among others l parts.0),
  λ there. Contains-from_is_among (common ls others) l (
      is_among-common ls others l
      ∙ ap (λ b. b && is_among ls l) (is_among-from_Contains others l there.1)
      ∙ is_among-from_Contains ls l there.0
      ),
)

other_than : (l : Text) (ks : List Text) → All (λ k. bytes_eq k l ≡ false) (filter (λ k. not (bytes_eq l k)) ks)
other_than l ks k d lt = nat_list_eq_equiv.symm _ l ∙ turn (bytes_eq l _) (filter_passes (λ m. not (bytes_eq l m)) ks k d lt)
  where
    turn : (b : Bool) → not b ≡ true → b ≡ false
    turn true e = absurd (cc)
    turn false e = refl

-- the index at which the text comes first in the list; the list's length if it isn't there
abbrev first_index : List Text → Text → ℕ
first_index ls l = position_or_len (bytes_eq l) ls

first_index-later : (l : Text) (ls : List Text) (k : Text) → bytes_eq k l ≡ false → first_index (l ∷ ls) k ≡ 1 + first_index ls k
first_index-later l ls k e = ap (λ b. cond (not b) (1 + first_index ls k) 0) e

first_index-first : (l : Text) (ls : List Text) → first_index (l ∷ ls) l ≡ 0
first_index-first l ls = ap (λ b. cond (not b) (1 + first_index ls l) 0) (nat_list_eq_equiv.refl l)

firsts-order : (ls : List Text) → AllPairs (λ l k. first_index ls l < first_index ls k) (firsts ls)
firsts-order [] = λ i j d lt bound. absurd (omega arith)
firsts-order (l ∷ ls) =
    let q : Text → Bool = λ k. not (bytes_eq l k) in
    let rest : List Text = filter q (firsts ls) in
    let later : (k : ℕ) (d : Text) → k < length rest → first_index (l ∷ ls) (get_or rest k d) ≡ 1 + first_index ls (get_or rest k d)
    = λ k d lt. first_index-later l ls (get_or rest k d) (other_than l (firsts ls) k d lt) in
    AllPairs-cons (λ m k. first_index (l ∷ ls) m < first_index (l ∷ ls) k) l rest
    (λ k d lt. omega (arith, later k d lt, first_index-first l ls))
    (λ i j d lt bound.
    let below : first_index ls (get_or rest i d) < first_index ls (get_or rest j d) = AllPairs-filter (λ m k. first_index ls m < first_index ls k) q (firsts ls) (firsts-order ls) i j d lt bound in
    omega (arith, below, later i d (omega arith), later j d bound))

-- the common labels are in the order in which the first list has them first, so each once
pub common-order : (ls others : List Text) → AllPairs (λ l k. first_index ls l < first_index ls k) (common ls others)
common-order ls others = AllPairs-filter (λ l k. first_index ls l < first_index ls k) (is_among others) (firsts ls) (firsts-order ls)

pub common-once : (ls others : List Text) → AllPairs (λ l k. l ≢ k) (common ls others)
common-once ls others i j d lt bound same =
    let below = common-order ls others i j d lt bound in
    let as_one = ap (first_index ls) same in
    absurd (omega (arith, below, as_one))

-- no other list has these labels in this order
pub common-only : (ls others ms : List Text) → ((l : Text) → Contains ms l ↔ (Contains ls l × Contains others l))
    → AllPairs (λ l k. first_index ls l < first_index ls k) ms → ms ≡ common ls others
common-only ls others ms members order =
    one_order (first_index ls) ms (common ls others) order (common-order ls others)
    (λ z h. (common-Contains ls others z).1 ((members z).0 h))
    (λ z h. (members z).1 ((common-Contains ls others z).0 h))
