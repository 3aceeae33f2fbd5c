-- What is read of a form, and what is not.
use Rattle.std.proofs.Common.{true≢false, subst, Err, Bool, true, false, ◌==◌, ◌||◌, codes, ◌≡◌, ◌≢◌, ◌<◌, ◌∙◌, ℕ, ℤ, zero, suc, List, [], ◌∷◌, ◌++◌, Option, Some, None, Ok, Global, ap, sym, map, length, refl, arith}
use lib.ListN.{get_or}
use Rattle.std.specs.Prelude.{Result, IfErr, IsErrAnd}
use Rattle.std.proofs.lemmas.Slice.Eq.{bytes_eq-Decides}
use Rattle.std.proofs.lemmas.Bool.Decides.{Decides-eqb}
use Rattle.std.specs.List.{AllByRecursion, list_any}
use Rattle.std.specs.Str.{bytes_eq}
use Rattle.std.specs.declared.boxed.Box.{Box}
use Rattle.std.specs.Option.{option_map_or, option_or}
use Rattle.serde_json.specs.Data.{Data, null, boolean, item, no_items, object, string as text, Members, no_members, member}
use Rattle.serde_json.specs.Find.{get}
use Rattle.serde_json.specs.View.{items_of}
use Rattle.serde_json.proofs.Views.{get_member-put}
use Rattle.promql_text.specs.Texts.{Text}
use Rattle.promql_text.specs.declared.number.Number.{Number}
use Rattle.promql_token.specs.Ids.{is_one_of, text_of}
use Rattle.promql_label.specs.PlainMatchers.{PlainMatcher, plain_matchers}
use Rattle.promql_kind.specs.Functions.{Signature, signature, function_named, name_of}
use Rattle.promql_kind.specs.Modifiers.{Cardinality, one_to_one, many_to_one, one_to_many, many_to_many, Clause, Matching, matching, fills, is_including}
use Rattle.promql_kind.specs.declared.value.ValueType.{ValueType}
use Rattle.promql_ast.specs.Selectors.{Selector, selector}
use Rattle.promql_ast.specs.Tree.{Tree, Trees, no_trees, first_tree, matrix, vector}
use Rattle.promql_ast.specs.View.{tree_of, trees_of}
use Rattle.promql_ast.specs.declared.expr.Expr.{Expr}
use Rattle.promql_ast.specs.declared.range_mode.RangeMode.{RangeMode}
use Rattle.promql_ast.specs.declared.range_mode.RangeMode.TheVariants.{Plain, Smoothed, Anchored}
use Rattle.promql_from_json.specs.FormMembers.{begin_members, end_members, function_members, groups_members, mode_members, modifier_members}
use Rattle.promql_json.specs.Json.{args_items, first_fault, json, json_value}
use Rattle.promql_json.specs.FormNames.{node_members, optional_labels, type_json, type_name, unless}
use Rattle.promql_json.specs.JsonFaults.{args_fault, json_fault}
use Rattle.promql_json.specs.JsonParts.{cardinality_json, fills_json, function_json, group_json, labels_json, list, matching_json, millis, whole}
use Rattle.promql_json.specs.JsonTokens.{moment_of_selector}
use Rattle.promql_from_json.specs.Readable.{ReadableMatcher, ReadableMoment}
use Rattle.promql_from_json.specs.ReadableBelow.{ReadableFill, ReadableMatching, ReadableSelector}
use Rattle.promql_from_json.specs.ReadableBelow.{AllReadableBelow, ReadableBelow}
use Rattle.promql_json.specs.declared.error.JsonError.{JsonError}
use Rattle.promql_json.proofs.FaultOrder.{first_met}

pub has_form : (t : Tree) (d : Data) → json_fault t ≡ None → d ≡ json_value t → json t ≡ Ok d
has_form t d fits is = ap (λ f. unless f (json_value t)) (sym (first_met t) ∙ fits) ∙ ap Ok (sym is)

form_is : (fault : Option JsonError) (v d : Data) → unless fault v ≡ Ok d → d ≡ v
form_is None v d is = cc
form_is (Some e) v d is = absurd cc

pub no_form : (t : Tree) (d : Data) → d ≢ json_value t → json t ≢ Ok d
no_form t d none is = none (form_is (first_fault t) (json_value t) d is)

-- an item that is no item's form leaves its list without one
pub no_list : {A B : Type 0} (P : B → Type 0) (f : A → Data) (g : B → Data) (xs : List A) (ys : List B) (i : ℕ) (x : A)
    → i < length xs → x ≡ get_or xs i x → ((y : B) → P y → f x ≢ g y) → AllByRecursion P ys → items_of (map f xs) ≢ items_of (map g ys)
no_list P f g [] ys i x within is none all h = absurd (omega arith)
no_list P f g (a ∷ xs) [] i x within is none all h = absurd cc
no_list P f g (a ∷ xs) (b ∷ ys) zero x within is none all h = none b all.0 (ap f is ∙ cc)
no_list P f g (a ∷ xs) (b ∷ ys) (suc i) x within is none all h = no_list P f g xs ys i x (omega arith) is none all.1 cc

all_true : {B : Type 0} (ys : List B) → AllByRecursion (λ _. Unit {0}) ys
all_true [] = tt
all_true (y ∷ ys) = (tt, all_true ys)

pub no_plain_list : {A B : Type 0} (f : A → Data) (g : B → Data) (xs : List A) (ys : List B) (i : ℕ) (x : A)
    → i < length xs → x ≡ get_or xs i x → ((y : B) → f x ≢ g y) → items_of (map f xs) ≢ items_of (map g ys)
no_plain_list f g xs ys i x within is none = no_list (λ _. Unit {0}) f g xs ys i x within is (λ y _. none y) (all_true ys)

-- ---- arguments

both_none : (a b : Option JsonError) → option_or a b ≡ None → (a ≡ None) × (b ≡ None)
both_none None b h = (refl, h)
both_none (Some e) b h = absurd cc

none_after : (a b : Option JsonError) → a ≡ None → b ≡ None → option_or a b ≡ None
none_after None b h k = k
none_after (Some e) b h k = absurd cc

pub one_more_fits : (bs : List (Box Expr Global)) (b : Box Expr Global) → args_fault (trees_of bs) ≡ None → json_fault (tree_of b.value) ≡ None
    → args_fault (trees_of (bs ++ b ∷ [])) ≡ None
one_more_fits [] b h k = none_after (json_fault (tree_of b.value)) None k refl
one_more_fits (a ∷ bs) b h k =
    let both = both_none (json_fault (tree_of a.value)) (args_fault (trees_of bs)) h in
    none_after (json_fault (tree_of a.value)) (args_fault (trees_of (bs ++ b ∷ []))) both.0 (one_more_fits bs b both.1 k)

pub items_of_args : (bs : List (Box Expr Global)) → items_of (map (λ b. json_value (tree_of b.value)) bs) ≡ args_items (trees_of bs)
items_of_args [] = refl
items_of_args (b ∷ bs) = ap (item (json_value (tree_of b.value))) (items_of_args bs)

-- an item that is no argument's form leaves its list without arguments
pub no_args : {A : Type 0} (n : ℕ) (f : A → Data) (xs : List A) (ts : Trees) (i : ℕ) (x : A)
    → i < length xs → x ≡ get_or xs i x → ((t : Tree) → ReadableBelow n t → f x ≢ json_value t) → AllReadableBelow n ts → items_of (map f xs) ≢ args_items ts
no_args n f [] ts i x within is none all h = absurd (omega arith)
no_args n f (a ∷ xs) no_trees i x within is none all h = absurd cc
no_args n f (a ∷ xs) (first_tree t ts) zero x within is none all h = none t all.0 (ap f is ∙ cc)
no_args n f (a ∷ xs) (first_tree t ts) (suc i) x within is none all h = no_args n f xs ts i x (omega arith) is none all.1 cc

-- ---- types of nodes

pub type_found : (t : Tree) → get (codes "type") (json_value t) ≡ Some (text (type_name t))
type_found t = get_member-put (codes "type") (text (type_name t)) (node_members t)

-- ---- ids

step : (a b c d : Bool) → a || b ≡ false → c || d ≡ true → (c ≡ true → a ≡ true) → (b ≡ false → d ≡ true → ⊥) → ⊥
step true b c d none is same rest = absurd (true≢false none)
step false b true d none is same rest = absurd (true≢false (sym (same refl)))
step false b false d none is same rest = rest none is

-- no id of a few has the text
pub none_of : (ids : List ℕ) (word : Text) (id : ℕ) → list_any (λ k. bytes_eq (text_of k) word) ids ≡ false
    → is_one_of ids id ≡ true → text_of id ≢ word
none_of [] word id none is h = true≢false (sym is)
none_of (k ∷ ks) word id none is h =
    step (bytes_eq (text_of k) word) _ (id == k) _ none is
    (λ e. (bytes_eq-Decides (text_of k) word).1 (ap text_of (sym ((Decides-eqb id k).0 e)) ∙ h))
    (λ n i. none_of ks word id n i h)

-- ---- exits of a `?`

-- what holds of the error within holds of the error that is returned
pub err_within : {T E : Type 0} (Q : E → Type 0) (r : Result T E) (x : E) → IsErrAnd r (λ y. y ≡ x) → Q x → IfErr r Q
err_within Q (Ok v) x h q = absurd h
err_within Q (Err y) x h q = subst Q (sym h) q

-- the members after the first
abbrev pub rest_of : Members → Members
rest_of no_members = no_members
rest_of (member k d ms) = ms

pub err_from : {T E : Type 0} (P Q : E → Type 0) (r : Result T E) → IsErrAnd r P → ((y : E) → P y → Q y) → IfErr r Q
err_from P Q (Ok v) h f = absurd h
err_from P Q (Err y) h f = f y h

abbrev pub value_of : Members → Data
value_of no_members = null
value_of (member k d ms) = d

pub same_members : (a b : Members) → object a ≡ object b → a ≡ b
same_members a b h = cc

pub differ : (a b : Text) → bytes_eq a b ≡ false → a ≢ b
differ a b none h = true≢false (sym ((bytes_eq-Decides a b).1 h) ∙ none)

-- ---- lists of one length

pub none_in : {A : Type 0} (f : A → Data) (xs : List A) → items_of (map f xs) ≡ no_items → length xs ≡ 0
none_in f [] h = refl
none_in f (x ∷ xs) h = absurd cc

pub same_length : {A B : Type 0} (f : A → Data) (g : B → Data) (xs : List A) (ys : List B) → items_of (map f xs) ≡ items_of (map g ys) → length xs ≡ length ys
same_length f g [] [] h = refl
same_length f g [] (y ∷ ys) h = absurd cc
same_length f g (x ∷ xs) [] h = absurd cc
same_length f g (x ∷ xs) (y ∷ ys) h = ap suc (same_length f g xs ys cc)

pub same_at : {A B : Type 0} (f : A → Data) (g : B → Data) (xs : List A) (ys : List B) (i : ℕ) (x : A) (y : B)
    → i < length xs → items_of (map f xs) ≡ items_of (map g ys) → f (get_or xs i x) ≡ g (get_or ys i y)
same_at f g [] ys i x y within h = absurd (omega arith)
same_at f g (a ∷ xs) [] i x y within h = absurd cc
same_at f g (a ∷ xs) (b ∷ ys) zero x y within h = cc
same_at f g (a ∷ xs) (b ∷ ys) (suc i) x y within h = same_at f g xs ys i x y (omega arith) cc

-- ---- or-groups

-- where the next member is the groups
pub no_groups : (gs : List (List PlainMatcher)) (name : Text) (v d : Data) (old rest ms : Members) → name ≢ codes "or_matchers"
    → ((g : List PlainMatcher) (more : List (List PlainMatcher)) → AllByRecursion (AllByRecursion ReadableMatcher) (g ∷ more) → v ≢ list (map group_json (g ∷ more)))
    → AllByRecursion (AllByRecursion ReadableMatcher) gs → old ≡ member (codes "or_matchers") v rest → old ≢ groups_members gs (member name d ms)
no_groups [] name v d old rest ms other none fine is h = other cc
no_groups (g ∷ gs) name v d old rest ms other none fine is h = none g gs fine cc

pub without_groups : (gs : List (List PlainMatcher)) (old rest : Members)
    → ((d : Data) (ms : Members) → old ≢ member (codes "or_matchers") d ms) → old ≡ groups_members gs rest → old ≡ rest
without_groups [] old rest none h = h
without_groups (g ∷ gs) old rest none h = absurd (none _ _ h)

-- ---- selectors

pub no_begin : (old : Members) → ((b c d : Data) (ms : Members) → old ≢ member (codes "matchers") b (member (codes "name") c (member (codes "offset") d ms)))
    → (s : Selector) (ms : Members) → old ≢ begin_members s ms
no_begin old none (selector name (plain_matchers plain groups) offset at) ms h = none _ _ _ _ h

pub moment_fine : (s : Selector) → ReadableSelector s → ReadableMoment (moment_of_selector s)
moment_fine (selector name (plain_matchers plain groups) offset at) fine = fine.1

pub vector_form : (s : Selector) → json_value (vector s) ≡ object (begin_members s (end_members (moment_of_selector s) (codes "vectorSelector")))
vector_form (selector name (plain_matchers plain []) offset at) = refl
vector_form (selector name (plain_matchers plain (g ∷ gs)) offset at) = refl

pub matrix_form : (s : Selector) (range : ℕ) (mode : RangeMode) → json_value (matrix s range mode)
    ≡ object (begin_members s (member (codes "range") (whole (millis range)) (mode_members mode (end_members (moment_of_selector s) (codes "matrixSelector")))))
matrix_form (selector name (plain_matchers plain []) offset at) range Plain = refl
matrix_form (selector name (plain_matchers plain []) offset at) range Smoothed = refl
matrix_form (selector name (plain_matchers plain []) offset at) range Anchored = refl
matrix_form (selector name (plain_matchers plain (g ∷ gs)) offset at) range Plain = refl
matrix_form (selector name (plain_matchers plain (g ∷ gs)) offset at) range Smoothed = refl
matrix_form (selector name (plain_matchers plain (g ∷ gs)) offset at) range Anchored = refl

-- ---- cardinalities and modifiers

pub no_cardinality : (ms : Members) → ((ls : List Text) → ms ≢ member (codes "many-to-one") (labels_json ls) no_members)
    → ((ls : List Text) → ms ≢ member (codes "one-to-many") (labels_json ls) no_members) → (card : Cardinality) → object ms ≢ cardinality_json card
no_cardinality ms one many one_to_one h = cc
no_cardinality ms one many (many_to_one ls) h = one ls cc
no_cardinality ms one many (one_to_many ls) h = many ls cc
no_cardinality ms one many many_to_many h = cc

pub no_modifier : (ms : Members)
    → ((card : Cardinality) (clause : Option Clause) (r l : Option Number) → ReadableFill r → ReadableFill l
    → ms ≢ modifier_members (cardinality_json card) (fills_json (fills r l)) (list []) (labels_json (optional_labels clause)) (boolean (option_map_or is_including clause false)))
    → (m : Matching) → ReadableMatching (Some m) → object ms ≢ matching_json m
no_modifier ms none (matching card clause return_bool (fills r l)) fine h = none card clause r l fine.0 fine.1 cc

-- ---- functions

pub no_function : (d : Data)
    → ((name : Text) (args : List ValueType) (variadic : ℤ) (gives : ValueType) (experimental : Bool) → function_named name ≡ Some (signature name args variadic gives experimental)
    → d ≢ object (function_members (list (map type_json args)) (boolean experimental) (text name) (type_json gives) (whole variadic)))
    → (f : Signature) → function_named (name_of f) ≡ Some f → d ≢ function_json f
no_function d none (signature name args variadic gives experimental) named h = none name args variadic gives experimental named h
