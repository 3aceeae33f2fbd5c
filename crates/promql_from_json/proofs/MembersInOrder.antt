-- What is left of an object's members, and where a fault is.
use Rattle.std.proofs.Common.{◌<◌, length, get_or, ◌&&◌, not, Bool, true, false, true≢false, if◌then◌else◌, ◌≡◌, ◌≢◌, ℕ, List, [], ◌∷◌, ◌++◌, Option, Some, None, String, Global, Ordering, Less, Equal, Greater, string_bytes, string_cmp, nat_cmp, refl, sym, ap, subst, ◌∙◌, codes}
use Rattle.std.proofs.lemmas.Cmp.{nat_list_cmp_total, tied_itself}
use Rattle.std.specs.Prelude.{is_some, slice_get}
use Rattle.std.specs.Cmp.Lexicographic.{slice_cmp}
use Rattle.std.specs.List.{AllByRecursion}
use Rattle.std.specs.List.Sorted.{IsStrictlySortedBy}
use Rattle.std.specs.Map.{keys_of}
use Rattle.std.specs.Option.{option_map_or}
use Rattle.std.specs.Ordering.{is_eq, is_lt, match_ordering, ordering_reverse}
use Rattle.std.specs.Str.{bytes_eq}
use Rattle.std.proofs.lemmas.Map.Text.{is_eq-slice_cmp}
use Rattle.std.proofs.lemmas.Slice.Eq.{bytes_eq-Decides}
use Rattle.serde_json.specs.Data.{Data, array, object, Members, no_members, member}
use Rattle.serde_json.specs.Find.{at, get, get_member}
use Rattle.serde_json.specs.View.{items_view, members_view, view}
use Rattle.serde_json.proofs.Views.{Entry, get_item_within}
use Rattle.serde_json.specs.declared.value.Value.{Value}
use Rattle.promql_from_json.specs.FormMisfits.{Form, MisfitAt, may_be_left_out, missing, row_of, rows, unknown}
use Rattle.promql_from_json.specs.MembersLeft.{Ascends, AreLeft, begins, follows, in_order, is_after, is_before, is_below, is_wanted, none_between}
use Rattle.promql_text.specs.Texts.{Text}
use Rattle.promql_from_json.specs.declared.from_error.Expected.TheVariants.{Missing, Unknown}

pub both_true : (a b : Bool) → a && b ≡ true → (a ≡ true) × (b ≡ true)
both_true true b h = (refl, h)
both_true false b h = absurd (true≢false (sym h))

-- ---- the order of members

less_below : (o : Ordering) → is_lt o ≡ true → o ≡ Less
less_below Less h = refl
less_below Equal h = absurd (true≢false (sym h))
less_below Greater h = absurd (true≢false (sym h))

above : (k l : Text) → is_below k l ≡ true → slice_cmp nat_cmp l k ≡ Greater
above k l h = nat_list_cmp_total.antisymm l k ∙ ap ordering_reverse (less_below _ h)

below_trans : (j k l : Text) → is_below j k ≡ true → is_below k l ≡ true → is_below j l ≡ true
below_trans j k l h i = ap is_lt (nat_list_cmp_total.trans j k l (less_below _ h) (less_below _ i))

further : (last : Option Text) (name q : Text) → is_after last name ≡ true → is_below name q ≡ true → is_after last q ≡ true
further None name q h less = refl
further (Some l) name q h less = below_trans l name q h less

after_key : (k : String Global) (es : List Entry) → AllByRecursion (λ y. string_cmp k y ≡ Less) (keys_of es) → IsStrictlySortedBy string_cmp (keys_of es)
    → Ascends (Some (string_bytes k)) (members_view es)
unfolding IsStrictlySortedBy
after_key k [] all sorted = tt
after_key k (e ∷ es) all sorted = (ap is_lt all.0, after_key e.0 es sorted.0 sorted.1)

ascending : (es : List Entry) → IsStrictlySortedBy string_cmp (keys_of es) → Ascends None (members_view es)
unfolding IsStrictlySortedBy
ascending [] sorted = tt
ascending (e ∷ es) sorted = (refl, after_key e.0 es sorted.0 sorted.1)

none_below : (name k : Text) (ms : Members) → is_below name k ≡ true → Ascends (Some k) ms → get_member name ms ≡ None
none_below name k no_members less h = refl
none_below name k (member l e ms) less h =
    let low : slice_cmp nat_cmp name l ≡ Less = less_below _ (below_trans name k l less h.0) in
    rw low (none_below name l ms (below_trans name k l less h.0) h.1)

-- ---- rows

at_row : {A : Type 0} (b : Bool) (q k : Text) (a : A) (last next : Option Text) (more : Option A)
    → bytes_eq q k ≡ b → not (is_after last q && is_before q next) ≡ true → is_after last k ≡ true → is_before k next ≡ true → more ≡ None
    → (if b then Some a else more) ≡ None
at_row true q k a last next more is none after before rest =
    let same : q ≡ k = (bytes_eq-Decides q k).0 is in
    absurd (true≢false (sym none ∙ ap not (ap (λ x. is_after last x && is_before x next) same ∙ ap (λ x. x && is_before k next) after ∙ before)))
at_row false q k a last next more is none after before rest = rest

between : {A : Type 0} (table : List (Text × A)) (last next : Option Text) (k : Text)
    → none_between table last next ≡ true → is_after last k ≡ true → is_before k next ≡ true → row_of k table ≡ None
between [] last next k none after before = refl
between ((q, a) ∷ more) last next k none after before =
    let both = both_true (not (is_after last q && is_before q next)) (none_between more last next) none in
    at_row (bytes_eq q k) q k a last next (row_of k more) refl both.0 after before (between more last next k both.1 after before)

row_known : {A : Type 0} (o : Option A) → option_map_or (λ a. true) o false ≡ true → (a : A) × (o ≡ Some a)
row_known None h = absurd (true≢false (sym h))
row_known (Some a) h = (a, refl)

not_true : (b : Bool) → not b ≡ true → b ≡ false
not_true true h = absurd (true≢false (sym h))
not_true false h = refl

-- ---- the next member

some_row : {A : Type 0} (table : List (Text × A)) → is_some (slice_get table 0) ≡ true → table ≢ []
some_row [] some none = true≢false (sym some)
some_row (x ∷ table) some none = cc

pub all_left : (f : Form) (next : Text) (es : List Entry) → IsStrictlySortedBy string_cmp (keys_of es) → begins f next ≡ true
    → AreLeft f (object (members_view es)) (Some next) (members_view es)
all_left f next es sorted first = record {
  whole = (members_view es, refl);
  rows_known = some_row (rows f) (both_true (is_some (slice_get (rows f) 0)) (follows f None (Some next)) first).0;
  last = None;
  found = λ q _. refl;
  ascends = ascending es sorted;
  ahead = refl;
  unlisted = λ k v more is before. between (rows f) None (Some next) k (both_true (is_some (slice_get (rows f) 0)) (follows f None (Some next)) first).1 refl before;
}

pub next_left : (f : Form) (d : Data) (rest : Members) (name : Text) (v : Data) (more : Members)
    → rest ≡ member name v more → AreLeft f d (Some name) rest
    → (get name d ≡ Some v) × ((after : Option Text) → follows f (Some name) after ≡ true → AreLeft f d after more)
next_left f d rest name v more is left =
    let found : (q : Text) → is_after left.last q ≡ true → get q d ≡ get_member q (member name v more) = rw is at left.found in
    let ascends : Ascends left.last (member name v more) = rw is at left.ascends in (
      found name left.ahead ∙ ap (λ o. match_ordering o (get_member name more) (Some v) (get_member name more)) (tied_itself nat_list_cmp_total name),
      λ after next. record {
        whole = left.whole;
        rows_known = left.rows_known;
        last = Some name;
        found = λ q less. found q (further left.last name q left.ahead less)
            ∙ ap (λ o. match_ordering o (get_member q more) (Some v) (get_member q more)) (above name q less);
        ascends = ascends.1;
        ahead = (both_true (option_map_or (is_after (Some name)) after true) (none_between (rows f) (Some name) after) next).0;
        unlisted = λ k w ms same before.
            let low : Ascends (Some name) (member k w ms) = rw same at ascends.1 in
            between (rows f) (Some name) after k (both_true (option_map_or (is_after (Some name)) after true) (none_between (rows f) (Some name) after) next).1 low.0 before;
      },
    )

-- a member that may be left out is not there
ahead_of : (last after : Option Text) (name : Text) → is_after last name ≡ true → option_map_or (is_after (Some name)) after true ≡ true
    → option_map_or (is_after last) after true ≡ true
ahead_of last None name h less = refl
ahead_of last (Some a) name h less = further last name a h less

place_of : (o : Ordering) (k name : Text) (P : Type 0) → slice_cmp nat_cmp k name ≡ o → (is_below k name ≡ true → P) → (k ≡ name → P) → (is_below name k ≡ true → P) → P
place_of Less k name P is less same more = less (ap is_lt is)
place_of Equal k name P is less same more = same ((bytes_eq-Decides k name).0 (sym (is_eq-slice_cmp k name) ∙ ap is_eq is))
place_of Greater k name P is less same more = more (ap is_lt (nat_list_cmp_total.antisymm name k ∙ ap ordering_reverse is))

pub skipped : (f : Form) (d : Data) (rest : Members) (name : Text) (after : Option Text)
    → ((v : Data) (more : Members) → rest ≢ member name v more) → AreLeft f d (Some name) rest → follows f (Some name) after ≡ true → AreLeft f d after rest
skipped f d rest name after none left next =
    let both = both_true (option_map_or (is_after (Some name)) after true) (none_between (rows f) (Some name) after) next in
    record {
      whole = left.whole;
      rows_known = left.rows_known;
      last = left.last;
      found = left.found;
      ascends = left.ascends;
      ahead = ahead_of left.last after name left.ahead both.0;
      unlisted = λ k v more is before. place_of (slice_cmp nat_cmp k name) k name (row_of k (rows f) ≡ None) refl
          (λ less. left.unlisted k v more is less)
          (λ same. absurd (none v more (is ∙ ap (λ x. member x v more) same)))
          (λ more_than. between (rows f) (Some name) after k both.1 more_than before);
    }

-- ---- what is at fault

pub unknown_left : (f : Form) (d : Data) (next : Option Text) (rest : Members) (key : Text) (v : Data) (more : Members)
    → rest ≡ member key v more → AreLeft f d next rest → is_before key next ≡ true → MisfitAt f d (codes "." ++ key) Unknown
unknown_left f d next rest key v more is left before =
    let ascends : Ascends left.last (member key v more) = rw is at left.ascends in
    let there : get key d ≡ Some v = left.found key ascends.0 ∙ ap (get_member key) is
    ∙ ap (λ o. match_ordering o (get_member key more) (Some v) (get_member key more)) (tied_itself nat_list_cmp_total key) in
    subst (λ x. MisfitAt f x (codes "." ++ key) Unknown) (sym left.whole.1)
    (unknown f left.whole.0 key v left.rows_known (left.unlisted key v more is before) (rw left.whole.1 at there))

wanted_left : (f : Form) (d : Data) (rest : Members) (name : Text)
    → get_member name rest ≡ None → AreLeft f d (Some name) rest → is_wanted f name ≡ true → MisfitAt f d (codes "." ++ name) Missing
wanted_left f d rest name none left wanted =
    let both = both_true (option_map_or (λ g. true) (row_of name (rows f)) false) (not (may_be_left_out name)) wanted in
    let known = row_known (row_of name (rows f)) both.0 in
    let none_there : get name d ≡ None = left.found name left.ahead ∙ none in
    subst (λ x. MisfitAt f x (codes "." ++ name) Missing) (sym left.whole.1)
    (missing f known.0 left.whole.0 name known.1 (not_true (may_be_left_out name) both.1) (rw left.whole.1 at none_there))

pub missing_before : (f : Form) (d : Data) (rest : Members) (name key : Text) (v : Data) (more : Members)
    → rest ≡ member key v more → is_below name key ≡ true → AreLeft f d (Some name) rest → is_wanted f name ≡ true → MisfitAt f d (codes "." ++ name) Missing
missing_before f d rest name key v more is less left wanted =
    let ascends : Ascends left.last (member key v more) = rw is at left.ascends in
    wanted_left f d rest name
    (ap (get_member name) is ∙ ap (λ o. match_ordering o (get_member name more) (Some v) (get_member name more)) (less_below _ less) ∙ none_below name key more less ascends.1)
    left wanted

pub missing_at_end : (f : Form) (d : Data) (rest : Members) (name : Text)
    → rest ≡ no_members → AreLeft f d (Some name) rest → is_wanted f name ≡ true → MisfitAt f d (codes "." ++ name) Missing
missing_at_end f d rest name is left wanted = wanted_left f d rest name (ap (get_member name) is) left wanted

pub same_key : (k l : Text) → bytes_eq k l ≡ true → k ≡ l
same_key k l h = (bytes_eq-Decides k l).0 h

not_below : (o : Ordering) → is_eq o ≡ false → is_lt o ≡ false → is_lt (ordering_reverse o) ≡ true
not_below Less a b = absurd (true≢false b)
not_below Equal a b = absurd (true≢false a)
not_below Greater a b = refl

pub below_key : (k l : Text) → bytes_eq k l ≡ false → is_below k l ≡ false → is_below l k ≡ true
below_key k l a b = ap is_lt (nat_list_cmp_total.antisymm l k) ∙ not_below (slice_cmp nat_cmp k l) (is_eq-slice_cmp k l ∙ a) b

-- ---- items

pub item_there : (vs : List Value) (i : ℕ) (x : Value) → i < length vs → x ≡ get_or vs i x → at i (array (items_view vs)) ≡ Some (view x)
item_there vs i x within is = sym (ap (λ y. Some (view y)) is ∙ get_item_within vs i x within)

-- ---- members in order

pub order_of_two : (f : Form) (k l : Text) → in_order f (k ∷ l ∷ []) ≡ true
    → (in_order f (k ∷ []) ≡ true) × (follows f (Some k) (Some l) ≡ true) × (in_order f (l ∷ []) ≡ true)
order_of_two f k l order =
    let both = both_true (is_wanted f k && follows f (Some k) (Some l)) (is_wanted f l) order in
    let start = both_true (is_wanted f k) (follows f (Some k) (Some l)) both.0 in
    (start.0, start.1, both.1)

pub order_of_three : (f : Form) (k l m : Text) → in_order f (k ∷ l ∷ m ∷ []) ≡ true
    → (in_order f (k ∷ l ∷ []) ≡ true) × (follows f (Some l) (Some m) ≡ true) × (in_order f (m ∷ []) ≡ true)
order_of_three f k l m order =
    let both = both_true (is_wanted f k && follows f (Some k) (Some l)) (in_order f (l ∷ m ∷ [])) order in
    let rest = order_of_two f l m both.1 in
    (ap (λ b. b && is_wanted f l) both.0 ∙ rest.0, rest.1, rest.2)
