-- What the relation of forms says is a fault by the definition of their faults.
use Rattle.std.proofs.Common.{ℕ, zero, suc, ◌≡◌, ◌≢◌, ◌⊎◌, inl, inr, List, [], ◌∷◌, ◌++◌, Bool, true, false, true≢false, Option, Some, None, if◌then◌else◌, codes, refl, sym, ap, subst, ◌∙◌, Ordering, Less, Equal, Greater, nat_cmp, add-one}
use Rattle.std.specs.Prelude.{IfSome, option_and_then, option_map, slice_get, map}
use Rattle.std.specs.Str.{bytes_eq}
use Rattle.std.proofs.lemmas.Slice.Eq.{bytes_eq-Decides}
use Rattle.std.proofs.lemmas.List.{append-nil}
use Rattle.std.proofs.lemmas.Map.Text.{is_eq-slice_cmp}
use Rattle.std.specs.Cmp.Lexicographic.{slice_cmp}
use Rattle.std.specs.Ordering.{is_eq, match_ordering}
use Rattle.promql_label.specs.Answers.{Allows, rejected}
use Rattle.promql_kind.specs.ValueTypes.{type_text}
use Rattle.promql_kind.specs.declared.value.ValueType.{ValueType}
use Rattle.serde_json.specs.Data.{Data, null, boolean, number as number_data, string, array, object, Members, no_members, member as data_member}
use Rattle.serde_json.specs.Find.{as_str, at, get, get_member}
use Rattle.promql_text.specs.Texts.{Text}
use Rattle.promql_label.specs.PlainMatchers.{Operator, matches, matches_not, operator_text, plain_matcher}
use Rattle.promql_kind.specs.Functions.{Signature, signature, function_named, name_of}
use Rattle.promql_json.specs.JsonParts.{function_json, list as list_data, whole}
use Rattle.promql_from_json.specs.Readable.{ReadableMatcher}
use Rattle.promql_from_json.specs.declared.from_error.Expected.{Expected}
use Rattle.promql_from_json.specs.declared.from_error.Expected.TheVariants as kind
use Rattle.promql_from_json.specs.FormMisfits as old
use Rattle.promql_from_json.specs.FormMisfits.{AsksOf, IsNot, MisfitAt, exactly, expected_at, fill_values, grouped, may_be_left_out, no_list, node_named, one, or_null, rows, word}
use Rattle.promql_from_json.specs.FormFaults as new
use Rattle.promql_from_json.specs.FormFaults.{both, is, like, list, member, object_of, of_type, or, text, token}
use Rattle.promql_from_json.proofs.FormRows.{leaf, Differs, choose, named, known, same, news, T, Row, same_key, found, unlisted, unlike, Tables, tables_go, all_rows, at_once, in_item}

-- ---- a member

in_object : (f : old.Form) (ms : Members) (name rest : Text) (e : Expected) → rows f ≢ [] → new.row_of (news f (Some (object ms))) name (get_member name ms) rest e
    → T f (Some (object ms)) (codes "." ++ (name ++ rest)) e
in_object (node_named type n) ms name rest e some h = inr (ms, name, rest, refl, refl, h)
in_object old.matcher ms name rest e some h = inr (ms, name, rest, refl, refl, h)
in_object old.modifier ms name rest e some h = inr (ms, name, rest, refl, refl, h)
in_object (grouped key) ms name rest e some h = inr (ms, name, rest, refl, refl, h)
in_object fill_values ms name rest e some h = inr (ms, name, rest, refl, refl, h)
in_object old.function ms name rest e some h = inr (ms, name, rest, refl, refl, h)
in_object f ms name rest e some h = absurd (some refl)

of_object : (P : Data → Type 0) (d v : Data) (name : Text) → get name d ≡ Some v → ((ms : Members) → get_member name ms ≡ Some v → P (object ms)) → P d
of_object P null v name has go = absurd cc
of_object P (boolean b) v name has go = absurd cc
of_object P (number_data n) v name has go = absurd cc
of_object P (string s) v name has go = absurd cc
of_object P (array ds) v name has go = absurd cc
of_object P (object ms) v name has go = go ms has

some_rows : (name : Text) (olds : List (Text × old.Form)) (g : old.Form) → old.row_of name olds ≡ Some g → olds ≢ []
some_rows name olds g row none = let is = subst (λ rs. old.row_of name rs ≡ Some g) none row in absurd cc

by_a_row : (f g : old.Form) (d v : Data) (name path : Text) (e : Expected) → old.row_of name (rows f) ≡ Some g → get name d ≡ Some v
    → ((o : Option Data) (k : Text) (h : new.Form) → o ≡ Some d → k ≡ name → Row o k g h → h (Some v) path e) → T f (Some d) (codes "." ++ (name ++ path)) e
by_a_row f g d v name path e row has go =
    of_object (λ x. x ≡ d → T f (Some x) (codes "." ++ (name ++ path)) e) d v name has
    (λ ms is same_data. in_object f ms name path e (some_rows name (rows f) g row)
    (subst (λ o. new.row_of (news f (Some (object ms))) name o path e) (sym is)
    (found (Some (object ms)) (rows f) (news f (Some (object ms))) name g (Some v) path e (all_rows f (Some (object ms))) row
    (λ k h key r. go (Some (object ms)) k h (ap Some same_data) key r)))) refl

-- ---- what other members ask for

matching_goes : (o : Option Data) → member (codes "bool") o ≡ Some (boolean true) → (v : Option Data) (path : Text) (e : Expected) → T old.modifier v path e
    → (member (codes "bool") o ≢ Some (boolean true) → v ≢ Some null) × new.modifier v path e
matching_goes o has v path e h = (λ other. absurd (other has), h)

plain : (w d : Data) (path : Text) → Differs w d path → ((i : ℕ) → at i w ≡ None) → (path ≡ []) × (d ≢ w)
plain w d path (at_once _ _ other) none = (refl, other)
plain w d path (in_item _ _ x v i rest at_w at_d more) none = absurd (let is = none i in cc)

pattern_goes : (o : Option Data) (op : Operator) (v : Data) (path : Text) (e : Expected) → member (codes "type") o ≡ Some (string (operator_text op))
    → ((s : Text) → Allows s rejected → ¬ ReadableMatcher (plain_matcher op [] s)) → T (one kind.Pattern) (Some v) path e
    → both text (is kind.Pattern (λ d. (p : Operator) (s : Text) → member (codes "type") o ≡ Some (string (operator_text p)) → d ≡ string s → ReadableMatcher (plain_matcher p [] s))) (Some v) path e
pattern_goes o op v path e type unreadable (inl h) = inr (h.0, h.1, λ all. unreadable h.2.0 h.2.2 (all op h.2.0 type h.2.1))
pattern_goes o op v path e type unreadable (inr h) = absurd cc

-- ---- functions

member_at : (k name : Text) (u w : Data) (ms : Members) (P : Type 0) (o : Ordering) → slice_cmp nat_cmp name k ≡ o
    → match_ordering o (get_member name ms) (Some u) (get_member name ms) ≡ Some w → (name ≡ k → u ≡ w → P) → (get_member name ms ≡ Some w → P) → P
member_at k name u w ms P Less is has first later = later has
member_at k name u w ms P Equal is has first later = first ((bytes_eq-Decides name k).0 (sym (is_eq-slice_cmp name k) ∙ ap is_eq is)) cc
member_at k name u w ms P Greater is has first later = later has

types_plain : (types : List ValueType) (i : ℕ) (x : Data) → at i (list_data (map (λ t. string (type_text t)) types)) ≡ Some x → (j : ℕ) → at j x ≡ None
types_plain [] i x has j = absurd cc
types_plain (t ∷ types) zero x has j = let is : string (type_text t) ≡ x = cc in subst (λ y. at j y ≡ None) is refl
types_plain (t ∷ types) (suc i) x has j = types_plain types i x has j

fun_known : (d : Data) (s : Signature) → function_named (name_of s) ≡ Some s → get (codes "name") d ≡ Some (string (name_of s)) → known (Some d) ≡ Some (function_json s)
fun_known d s row name =
    ap (λ o. option_map function_json (option_and_then function_named (option_and_then as_str o))) name ∙ ap (option_map function_json) row

same_goes : (o : Option Data) (w v : Data) → o ≡ Some w → v ≢ w → ¬ IfSome o (λ x. v ≡ x)
same_goes o w v is other h = other (subst (λ x. IfSome x (λ y. v ≡ y)) is h)

never : (w : Data) → None ≡ Some w → ⊥
never w is = absurd cc

unsome : (v u : Data) → Some v ≡ Some u → u ≡ v
unsome v u is = cc

-- of a part but the types
part_goes : (o : Option Data) (w v : Data) (path : Text) (e : Expected) → o ≡ Some w → T (exactly w) (Some v) path e → ((i : ℕ) → at i w ≡ None) → same o (Some v) path e
part_goes o w v path e is h none =
    let differs : Differs w v path = subst (λ x. Differs w x path) (unsome v h.0 h.1) h.3 in
    let apart = plain w v path differs none in (apart.0, h.2, same_goes o w v is apart.1)

-- of the types
type_goes : (o : Option Data) (types : List ValueType) (v : Data) (path : Text) (e : Expected) → o ≡ Some (list_data (map (λ t. string (type_text t)) types)) → e ≡ kind.FunctionPart
    → Differs (list_data (map (λ t. string (type_text t)) types)) v path
    → both (list (λ i. same (option_and_then (at i) o))) (same o) (Some v) path e
type_goes o types v path e is part (at_once _ _ other) = inr (refl, part, same_goes o _ v is other)
type_goes o types v path e is part (in_item _ _ x y i rest at_w at_v more) =
    let apart = plain x y rest more (types_plain types i x at_w) in
    inl (inr (
      i,
      rest,
      refl,
      subst (λ z. or None (same (option_and_then (at i) o)) z rest e) (sym at_v)
          (λ none. cc, (apart.0, part, same_goes (option_and_then (at i) o) x y (ap (option_and_then (at i)) is ∙ at_w) apart.1)),
    ))

function_goes : (s : Signature) (d w v : Data) (name path : Text) (e : Expected) → function_named (name_of s) ≡ Some s → get (codes "name") d ≡ Some (string (name_of s))
    → get name (function_json s) ≡ Some w → get name d ≡ Some v → T (exactly w) (Some v) path e → T old.function (Some d) (codes "." ++ (name ++ path)) e
function_goes (signature called types variadic gives experimental) d w v name path e row is part has fault =
    let s = signature called types variadic gives experimental in
    let asked = fun_known d s row is in
    let goes : (k : Text) → name ≡ k → ((ms : Members) → object ms ≡ d → new.row_of (news old.function (Some (object ms))) k (Some v) path e) → T old.function (Some d) (codes "." ++ (name ++ path)) e
    = λ k key row_goes. of_object (λ x. x ≡ d → T old.function (Some x) (codes "." ++ (name ++ path)) e) d v name has
    (λ ms there same_data. in_object old.function ms name path e (λ none. cc) (subst (λ q. new.row_of (news old.function (Some (object ms))) q (get_member name ms) path e) (sym key)
    (subst (λ o. new.row_of (news old.function (Some (object ms))) k o path e) (sym there) (row_goes ms same_data)))) refl in
    let part_of : (k : Text) (ms : Members) → object ms ≡ d → member k (known (Some (object ms))) ≡ get k (function_json s)
    = λ k ms same_data. ap (λ x. member k (known (Some x))) same_data ∙ ap (member k) asked in
    let after_return = data_member (codes "variadic") (whole variadic) no_members in
    let after_name = data_member (codes "returnType") (string (type_text gives)) after_return in
    let after_flag = data_member (codes "name") (string called) after_name in
    let after_types = data_member (codes "experimental") (boolean experimental) after_flag in
    member_at (codes "argTypes") name _ w after_types _ _ refl part
    (λ key u. goes (codes "argTypes") key (λ ms same_data.
    type_goes (member (codes "argTypes") (known (Some (object ms)))) types v path e (part_of (codes "argTypes") ms same_data) fault.2
    (subst (λ x. Differs (list_data (map (λ t. string (type_text t)) types)) x path) (unsome v fault.0 fault.1) (subst (λ y. Differs y fault.0 path) (sym u) fault.3))))
    (λ p. member_at (codes "experimental") name _ w after_flag _ _ refl p
    (λ key u. goes (codes "experimental") key (λ ms same_data.
    part_goes _ w v path e (part_of (codes "experimental") ms same_data ∙ ap Some u) fault (subst (λ x. (i : ℕ) → at i x ≡ None) u (λ i. refl))))
    (λ p. member_at (codes "name") name _ w after_name _ _ refl p
    (λ key u. absurd (
    let differs : Differs w v path = subst (λ x. Differs w x path) (unsome v fault.0 fault.1) fault.3 in
    let apart = plain w v path differs (subst (λ x. (i : ℕ) → at i x ≡ None) u (λ i. refl)) in
    let there : get (codes "name") d ≡ Some v = subst (λ k. get k d ≡ Some v) key has in
    apart.1 (sym (unsome v (string called) (sym there ∙ is)) ∙ u)))
    (λ p. member_at (codes "returnType") name _ w after_return _ _ refl p
    (λ key u. goes (codes "returnType") key (λ ms same_data.
    part_goes _ w v path e (part_of (codes "returnType") ms same_data ∙ ap Some u) fault (subst (λ x. (i : ℕ) → at i x ≡ None) u (λ i. refl))))
    (λ p. member_at (codes "variadic") name _ w no_members _ _ refl p
    (λ key u. goes (codes "variadic") key (λ ms same_data.
    part_goes _ w v path e (part_of (codes "variadic") ms same_data ∙ ap Some u) fault (subst (λ x. (i : ℕ) → at i x ≡ None) u (λ i. refl))))
    (λ p. absurd (never w p))))))

-- ---- what other members ask of one

asked : (f g : old.Form) (d v : Data) (name path : Text) (e : Expected) → AsksOf f d name g → get name d ≡ Some v → T g (Some v) path e → T f (Some d) (codes "." ++ (name ++ path)) e
asked f g d v name path e (old.by_row _ _ _ _ row) has fault = by_a_row f g d v name path e row has (λ o k h same_data key r. r.0 v path e fault)
asked _ _ d v _ path e (old.by_match _ type) has fault =
    of_object (λ x. x ≡ d → T old.matcher (Some x) (codes "." ++ (codes "value" ++ path)) e) d v (codes "value") has
    (λ ms there same_data. in_object old.matcher ms (codes "value") path e (λ none. cc)
    (subst (λ o. new.row_of (news old.matcher (Some (object ms))) (codes "value") o path e) (sym there)
    (pattern_goes (Some (object ms)) (matches []) v path e (ap (get (codes "type")) same_data ∙ type) (λ s allowed readable. readable allowed) fault))) refl
asked _ _ d v _ path e (old.by_no_match _ type) has fault =
    of_object (λ x. x ≡ d → T old.matcher (Some x) (codes "." ++ (codes "value" ++ path)) e) d v (codes "value") has
    (λ ms there same_data. in_object old.matcher ms (codes "value") path e (λ none. cc)
    (subst (λ o. new.row_of (news old.matcher (Some (object ms))) (codes "value") o path e) (sym there)
    (pattern_goes (Some (object ms)) (matches_not []) v path e (ap (get (codes "type")) same_data ∙ type) (λ s allowed readable. readable allowed) fault))) refl
asked f _ d v _ path e (old.by_start_or_end _ _ u row word_there other) has (inl h) =
    rw h.0 (rw h.1 (by_a_row f (or_null (one kind.Millis)) d v (codes "timestamp") [] kind.NoTimestamp row has
    (λ o k g same_data key r. r.2 u v (ap (member (codes "startOrEnd")) same_data ∙ word_there) other h.2)))
asked f _ d v _ path e (old.by_start_or_end _ _ u row word_there other) has (inr h) = absurd cc
asked _ _ d v _ path e (old.by_bool n _ bool) has fault =
    of_object (λ x. x ≡ d → T (node_named (codes "binaryExpr") n) (Some x) (codes "." ++ (codes "matching" ++ path)) e) d v (codes "matching") has
    (λ ms there same_data. in_object (node_named (codes "binaryExpr") n) ms (codes "matching") path e (λ none. cc)
    (subst (λ o. new.row_of (news (node_named (codes "binaryExpr") n) (Some (object ms))) (codes "matching") o path e) (sym there)
    (matching_goes (Some (object ms)) (ap (get (codes "bool")) same_data ∙ bool) (Some v) path e fault))) refl
asked _ _ d v name path e (old.by_function s _ w _ row is part) has fault = function_goes s d w v name path e row is part has fault

-- ---- at the value itself

only : (x e : Expected) (i : ℕ) → slice_get (x ∷ []) i ≡ Some e → x ≡ e
only x e zero is = cc
only x e (suc i) is = absurd cc

either_of : (x y e : Expected) (i : ℕ) → slice_get (x ∷ y ∷ []) i ≡ Some e → (x ≡ e) ⊎ (y ≡ e)
either_of x y e zero is = inl cc
either_of x y e (suc i) is = inr (only y e i is)

leaf_here : (x e : Expected) (d : Data) → x ≡ e → IsNot e d → leaf x (Some d) [] e
leaf_here x e d is other = (refl, sym is, subst (λ k. IsNot k d) (sym is) other)

both_here : (x y e : Expected) (d : Data) → (x ≡ e) ⊎ (y ≡ e) → IsNot e d → both (leaf x) (leaf y) (Some d) [] e
both_here x y e d (inl is) other = inl (leaf_here x e d is other)
both_here x y e d (inr is) other = inr (leaf_here y e d is other)

object_here : (rows : List (Text × new.Form)) (e : Expected) (d : Data) → kind.Object ≡ e → IsNot e d → object_of rows (Some d) [] e
object_here rows e d is other = inl (refl, sym is, unlike object d (subst (λ k. IsNot k d) (sym is) other))

at_here : (f : old.Form) (d : Data) (e : Expected) (i : ℕ) → slice_get (expected_at f) i ≡ Some e → IsNot e d → T f (Some d) [] e
at_here (old.node zero) d e i is other = absurd cc
at_here (old.node (suc n)) d e i is other = inl (refl, sym (only kind.Object e i is), unlike object d (subst (λ k. IsNot k d) (sym (only kind.Object e i is)) other))
at_here (one x) d e i is other = inl (leaf_here x e d (only x e i is) other)
at_here (word x) d e i is other = both_here kind.Text x e d (either_of kind.Text x e i is) other
at_here (old.list_of x f) d e i is other = inl (both_here kind.List x e d (either_of kind.List x e i is) other)
at_here no_list d e i is other = both_here kind.List kind.EmptyList e d (either_of kind.List kind.EmptyList e i is) other
at_here (or_null f) d e i is other = absurd cc
at_here (exactly w) d e i is other = absurd cc
at_here (node_named name n) d e i is other = object_here (news (node_named name n) (Some d)) e d (only kind.Object e i is) other
at_here old.matcher d e i is other = object_here (news old.matcher (Some d)) e d (only kind.Object e i is) other
at_here old.modifier d e i is other = object_here (news old.modifier (Some d)) e d (only kind.Object e i is) other
at_here fill_values d e i is other = object_here (news fill_values (Some d)) e d (only kind.Object e i is) other
at_here old.function d e i is other = object_here (news old.function (Some d)) e d (only kind.Object e i is) other
at_here (grouped name) d e i is other = object_here (news (grouped name) (Some d)) e d (only kind.Object e i is) other

-- ---- the type of a node

typed_at : (b : Bool) (o : Option Data) (k name : Text) (P Q : Type 0) → bytes_eq k name ≡ b → member (codes "type") o ≡ Some (string name) → (b ≡ true → P) → (b ≡ false → Q)
    → ((member (codes "type") o ≡ Some (string k)) × P) ⊎ ((member (codes "type") o ≢ Some (string k)) × Q)
typed_at true o k name P Q is type first later = inl (type ∙ ap (λ x. Some (string x)) (sym (same_key k name is)), first refl)
typed_at false o k name P Q is type first later =
    inr (λ h. (let key : k ≡ name = cc in true≢false (sym ((bytes_eq-Decides k name).1 key) ∙ is)), later refl)

typed_in : (o : Option Data) (name path : Text) (e : Expected) (olds : List (Text × old.Form)) (table : List (Text × List (Text × old.Form))) (others : List (Text × List (Text × new.Form)))
    → Tables o table others → old.row_of name table ≡ Some olds → member (codes "type") o ≡ Some (string name)
    → object_of ((codes "type", is kind.Node (like string)) ∷ named name others) o path e → of_type others o path e
typed_in o name path e olds [] [] all row type fault = absurd cc
typed_in o name path e olds [] (x ∷ others) all row type fault = absurd all
typed_in o name path e olds (x ∷ table) [] all row type fault = absurd all
typed_in o name path e olds ((k, rows) ∷ table) ((l, more) ∷ others) all row type fault =
    typed_at (bytes_eq l name) o l name _ _ refl type
    (λ yes. subst (λ b. object_of ((codes "type", is kind.Node (like string)) ∷ choose b more (named name others)) o path e) yes fault)
    (λ no. typed_in o name path e olds table others all.2 (subst (λ b. (if b then Some rows else old.row_of name table) ≡ Some olds) (ap (λ m. bytes_eq m name) all.0 ∙ no) row) type
    (subst (λ b. object_of ((codes "type", is kind.Node (like string)) ∷ choose b more (named name others)) o path e) no fault))

untyped_tail : (b : Bool) (rows : List (Text × old.Form)) (r : Option (List (Text × old.Form))) → (if b then Some rows else r) ≡ None → r ≡ None
untyped_tail true rows r none = absurd cc
untyped_tail false rows r none = none

untyped_in : (o : Option Data) (ms : Members) (table : List (Text × List (Text × old.Form))) (others : List (Text × List (Text × new.Form)))
    → Tables o table others → ((name : Text) → get_member (codes "type") ms ≡ Some (string name) → old.row_of name table ≡ None) → of_type others (Some (object ms)) (codes ".type") kind.Node
untyped_in o ms [] [] all none = (ms, refl, refl, refl)
untyped_in o ms [] (x ∷ others) all none = absurd all
untyped_in o ms (x ∷ table) [] all none = absurd all
untyped_in o ms ((k, rows) ∷ table) ((l, more) ∷ others) all none =
    inr (
      λ h. (let is = subst (λ b. (if b then Some rows else old.row_of l table) ≡ None) ((bytes_eq-Decides k l).1 all.0) (none l h) in absurd cc),
      untyped_in o ms table others all.2 (λ name h. untyped_tail (bytes_eq k name) rows (old.row_of name table) (none name h)),
    )

-- ---- the whole relation

sound : (f : old.Form) (d : Data) (path : Text) (e : Expected) → MisfitAt f d path e → T f (Some d) path e
sound f d path e (old.here _ _ _ i is other) = at_here f d e i is other
sound f d path e (old.differs _ w other) = (d, refl, refl, at_once w d other)
sound f d path e (old.too_high _) = (refl, refl, λ x. x)
sound f d path e (old.missing _ g ms name row required none) =
    subst (λ p. T f (Some (object ms)) (codes "." ++ p) kind.Missing) (append-nil name)
    (in_object f ms name [] kind.Missing (some_rows name (rows f) g row)
    (subst (λ o. new.row_of (news f (Some (object ms))) name o [] kind.Missing) (sym none)
    (found (Some (object ms)) (rows f) (news f (Some (object ms))) name g None [] kind.Missing (all_rows f (Some (object ms))) row
    (λ k h key r. r.1 (subst (λ m. may_be_left_out m ≡ false) (sym key) required)))))
sound f d path e (old.unknown _ ms name v some none there) =
    subst (λ p. T f (Some (object ms)) (codes "." ++ p) kind.Unknown) (append-nil name)
    (in_object f ms name [] kind.Unknown some
    (subst (λ o. new.row_of (news f (Some (object ms))) name o [] kind.Unknown) (sym there)
    (unlisted (Some (object ms)) (rows f) (news f (Some (object ms))) name v (all_rows f (Some (object ms))) none)))
sound f d path e (old.untyped n ms none) =
    subst (λ m. new.node m (Some (object ms)) (codes ".type") kind.Node) (sym (add-one n))
    (inr (untyped_in (Some (object ms)) ms (old.nodes n) (new.nodes (new.node n) (Some (object ms))) (tables_go n (Some (object ms))) none))
sound f d path e (old.typed n _ name _ _ more type row fault) =
    subst (λ m. new.node m (Some d) path e) (sym (add-one n))
    (inr (typed_in (Some d) name path e more (old.nodes n) (new.nodes (new.node n) (Some d)) (tables_go n (Some d)) row type (sound (node_named name n) d path e fault)))
sound f d path e (old.many_to_one _ _ _ none fault) =
    inr (refl, subst (λ o. new.grouped o (Some d) path e) (sym none) (sound (grouped (codes "many-to-one")) d path e fault))
sound f d path e (old.one_to_many _ v _ _ some fault) =
    inr (refl, subst (λ o. new.grouped o (Some d) path e) (sym some) (sound (grouped (codes "one-to-many")) d path e fault))
sound f d path e (old.not_null g _ _ _ other fault) = (λ h. other cc, sound g d path e fault)
sound f d path e (old.inside _ g _ v name rest _ asks has fault) = asked f g d v name rest e asks has (sound g v rest e fault)
sound f d path e (old.inside_item x g _ v i rest _ has fault) =
    inr (i, rest, refl, subst (λ o. or None (T g) o rest e) (sym has) (λ none. cc, sound g v rest e fault))
sound f d path e (old.inside_exact _ v w x i rest _ at_w at_d fault) =
    let inner = sound (exactly x) v rest e fault in
    (d, refl, inner.2, in_item w d x v i rest at_w at_d (subst (λ u. Differs x u rest) (unsome v inner.0 inner.1) inner.3))

-- in a value of which the relation says so of a node, the definition by faults says so
pub faults_of_nodes : (n : ℕ) (d : Data) (path : Text) (e : Expected) → MisfitAt (old.node n) d path e → new.node n (Some d) path e
faults_of_nodes n d path e = sound (old.node n) d path e
