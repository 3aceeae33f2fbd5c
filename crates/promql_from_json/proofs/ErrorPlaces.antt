-- Where the error of a reader is.
use Rattle.std.proofs.Common.{ℕ, ◌+◌, ◌==◌, ◌||◌, ◌⊎◌, inl, true≢false, length, arith, ℤ, pos, negsuc, int_lt, option_and_then, Ok, Err, Bool, true, false, if◌then◌else◌, ◌≡◌, ◌≢◌, List, [], ◌∷◌, ◌++◌, Option, Some, None, string_bytes, codes, refl, sym, ap, subst, ◌∙◌}
use Rattle.std.specs.Prelude.{FitsSigned, Result, IfErr, IfOk, IsErr, OnErr}
use Rattle.std.specs.Int.{w64}
use Rattle.std.specs.Str.{bytes_eq}
use Rattle.std.proofs.lemmas.Slice.Eq.{bytes_eq-Decides}
use Rattle.std.proofs.lemmas.Bool.Decides.{Decides-eqb}
use Rattle.serde_json.specs.Data.{Data, boolean, null, string, object, Items, item, Members}
use Rattle.serde_json.specs.Find.{as_number, as_u64, get}
use Rattle.serde_json.specs.View.{items_view}
use Rattle.serde_json.specs.declared.value.Value.{Value}
use Rattle.promql_text.specs.Texts.{Text}
use Rattle.promql_from_json.specs.FormMisfits.{AsksOf, exactly, Form, by_bool, by_match, by_no_match, by_row, matcher, modifier, IsNot, MisfitAt, grouped, here, inside, many_to_one, node, node_named, nodes, not_null, one, one_to_many, or_null, row_of, typed, word}
use Rattle.promql_token.specs.declared.ids.TheConstants.{T_EQL_REGEX, T_NEQ_REGEX}
use Rattle.promql_label.specs.Operators.{is_pattern_id}
use Rattle.promql_ast.specs.Shifts.{Moment, at_start, at_end, at_time}
use Rattle.promql_ast.specs.Tree.{Tree}
use Rattle.promql_from_json.proofs.ReadForms.{type_found}
use Rattle.promql_json.specs.Json.{json_value}
use Rattle.promql_json.specs.FormNames.{token_json, type_name}
use Rattle.promql_json.specs.JsonParts.{start_or_end, timestamp, whole}
use Rattle.promql_from_json.specs.MembersLeft.{IsIn, IsTypeIn, IsTyped}
use Rattle.promql_from_json.specs.Readable.{ReadableMoment}
use Rattle.promql_from_json.specs.declared.from_error.Expected.{Expected}
use Rattle.promql_from_json.specs.declared.from_error.Expected.TheVariants.{Cardinality, Object, Pattern}
use Rattle.promql_from_json.specs.declared.from_error.ReadError.{ReadError}
use Rattle.promql_from_json.specs.declared.from_error.ReadError.TheVariants.{Memory, Misfit}

pub one_here : (e : Expected) (d : Data) → IsNot e d → MisfitAt (one e) d [] e
one_here e d other = here (one e) d e 0 refl other

pub word_here : (e : Expected) (d : Data) → IsNot e d → MisfitAt (word e) d [] e
word_here e d other = here (word e) d e 1 refl other

pub nullable : (f : Form) (d : Data) (e : ReadError) → d ≢ null → IsIn f d e → IsIn (or_null f) d e
nullable f d Memory other place = tt
nullable f d (Misfit m) other place = not_null f d (string_bytes m.path) m.expected other place

-- an error is in a value if it is there unless it is for memory
pub by_kind : (f : Form) (d : Data) (e : ReadError) (P : Type 0) → (e ≢ Memory → P) → (P → IsIn f d e) → IsIn f d e
by_kind f d Memory P other place = tt
by_kind f d (Misfit m) P other place = place (other (λ h. cc))

pub all_by_kind : {T : Type 0} (f : Form) (d : Data) (P : Type 0) (r : Result T ReadError)
    → IfErr r (λ e. e ≢ Memory → P) → IfErr r (λ e. P → IsIn f d e) → IfErr r (IsIn f d)
all_by_kind f d P (Ok x) other place = tt
all_by_kind f d P (Err e) other place = by_kind f d e P other place

-- ---- offsets

no_millis : (d : Data) → option_and_then as_u64 (as_number d) ≡ None → ((z : ℤ) → int_lt z (pos 0) ≡ true → d ≢ whole z) → (z : ℤ) → FitsSigned w64 z → d ≢ whole z
no_millis d none below (pos n) fits h = let some = rw h at none in absurd cc
no_millis d none below (negsuc n) fits h = below (negsuc n) refl h

pub offset_in : {T : Type 0} (f : Form) (d : Data) (r : Result T ReadError) → option_and_then as_u64 (as_number d) ≡ None
    → OnErr r ((z : ℤ) → int_lt z (pos 0) ≡ true → d ≢ whole z) → IfErr r (λ e. ((z : ℤ) → FitsSigned w64 z → d ≢ whole z) → IsIn f d e) → IfErr r (IsIn f d)
offset_in f d (Ok x) none below place = tt
offset_in f d (Err e) none below place = place (no_millis d none below)

-- ---- objects

pub one_many : (d v : Data) (e : ReadError) → get (codes "one-to-many") d ≡ Some v → IsIn (grouped (codes "one-to-many")) d e → IsIn (one Cardinality) d e
one_many d v Memory some place = tt
one_many d v (Misfit m) some place = one_to_many d v (string_bytes m.path) m.expected some place

pub many_one : (d : Data) (e : ReadError) → get (codes "one-to-many") d ≡ None → IsIn (grouped (codes "many-to-one")) d e → IsIn (one Cardinality) d e
many_one d Memory none place = tt
many_one d (Misfit m) none place = many_to_one d (string_bytes m.path) m.expected none place

pub in_typed : (n : ℕ) (d : Data) (name : Text) (more : List (Text × Form)) (e : ReadError) → IsTyped d name → row_of name (nodes n) ≡ Some more
    → IsIn (node_named name n) d e → IsIn (node (n + 1)) d e
in_typed n d name more Memory is row place = tt
in_typed n d name more (Misfit m) is row place = typed n d name (string_bytes m.path) m.expected more is row place

no_more : (xs : Text) → xs ++ [] ≡ xs
no_more [] = refl
no_more (x ∷ xs) = ap (λ ys. x ∷ ys) (no_more xs)

-- at a member itself
pub at_member : (f g : Form) (d v : Data) (name : Text) (e : Expected) → AsksOf f d name g → get name d ≡ Some v → MisfitAt g v [] e
    → MisfitAt f d (codes "." ++ name) e
at_member f g d v name e asks has place = subst (λ p. MisfitAt f d (codes "." ++ p) e) (no_more name) (inside f g d v name [] e asks has place)

pub same_type : (o : Option Data) (d : Data) (name : Text) → o ≡ Some d → o ≡ Some (string name) → d ≡ string name
same_type o d name h is = cc

-- ---- types of nodes

pub tree_type : (d : Data) (found : Text) → IsTypeIn d found → (t : Tree) → d ≡ json_value t → found ≡ type_name t
tree_type d found known t is = known.only (type_name t) (ap (get (codes "type")) is ∙ type_found t)

pub typed_as : (d : Data) (found name : Text) → IsTypeIn d found → found ≡ name → name ≢ [] → IsTyped d name
typed_as d found name known is some = subst (IsTyped d) is (known.found (λ none. some (sym is ∙ none)))

-- `matching` is asked of a comparison with `bool`
pub matching_asked : (n : ℕ) (d : Data) (b : Bool) → get (codes "bool") d ≡ Some (boolean b)
    → AsksOf (node_named (codes "binaryExpr") n) d (codes "matching") (if b then modifier else or_null modifier)
matching_asked n d true is = by_bool n d is
matching_asked n d false is = by_row (node_named (codes "binaryExpr") n) (or_null modifier) d (codes "matching") refl

pub untyped_node : (n : ℕ) (d : Data) (found : Text) → IsTypeIn d found → row_of found (nodes n) ≡ None → (name : Text) → IsTyped d name → row_of name (nodes n) ≡ None
untyped_node n d found known none name is = subst (λ x. row_of x (nodes n) ≡ None) (known.only name is) none

-- ---- operators and times

pick : (d : Data) (id : ℕ) (a b : Bool) → (id == T_EQL_REGEX) ≡ a → (id == T_NEQ_REGEX) ≡ b → a || (b || false) ≡ true
    → get (codes "type") d ≡ Some (token_json id) → AsksOf matcher d (codes "value") (one Pattern)
pick d id true b is other h has = by_match d (has ∙ ap (λ k. Some (token_json k)) ((Decides-eqb id T_EQL_REGEX).0 is))
pick d id false true is other h has = by_no_match d (has ∙ ap (λ k. Some (token_json k)) ((Decides-eqb id T_NEQ_REGEX).0 other))
pick d id false false is other h has = absurd (true≢false (sym h))

-- the value of a matcher of a pattern is asked to be one
pub pattern_asked : (d : Data) (id : ℕ) → is_pattern_id id ≡ true → get (codes "type") d ≡ Some (token_json id) → AsksOf matcher d (codes "value") (one Pattern)
pattern_asked d id is has = pick d id (id == T_EQL_REGEX) (id == T_NEQ_REGEX) refl refl is has

pub moment_word : (m : Moment) → timestamp (Some m) ≡ null → start_or_end (Some m) ≢ null
moment_word at_start h is = cc
moment_word at_end h is = cc
moment_word (at_time t) h is = cc

-- ---- functions

pub either_by_kind : (f g : Form) (d : Data) (e : ReadError) (P : Type 0) → (e ≢ Memory → P) → (P → IsIn f d e ⊎ IsIn g d e) → IsIn f d e ⊎ IsIn g d e
either_by_kind f g d Memory P other place = inl tt
either_by_kind f g d (Misfit m) P other place = place (other (λ h. cc))

-- ---- rows of other names

not_equal_is : (b : Bool) → b ≢ true → b ≡ false
not_equal_is true h = absurd (h refl)
not_equal_is false h = refl

differ : (k l : Text) → k ≢ l → bytes_eq k l ≡ false
differ k l other = not_equal_is (bytes_eq k l) (λ h. other ((bytes_eq-Decides k l).0 h))

pub no_row : (n : ℕ) (name : Text) → name ≢ codes "aggregation" → name ≢ codes "unaryExpr" → name ≢ codes "binaryExpr" → name ≢ codes "parenExpr" → name ≢ codes "subquery"
    → name ≢ codes "numberLiteral" → name ≢ codes "stringLiteral" → name ≢ codes "vectorSelector" → name ≢ codes "matrixSelector" → name ≢ codes "call" → row_of name (nodes n) ≡ None
no_row n name a b c d e f g h i j =
    rw (differ (codes "aggregation") name (λ k. a (sym k))) (
    rw (differ (codes "unaryExpr") name (λ k. b (sym k))) (
    rw (differ (codes "binaryExpr") name (λ k. c (sym k))) (
    rw (differ (codes "parenExpr") name (λ k. d (sym k))) (
    rw (differ (codes "subquery") name (λ k. e (sym k))) (
    rw (differ (codes "numberLiteral") name (λ k. f (sym k))) (
    rw (differ (codes "stringLiteral") name (λ k. g (sym k))) (
    rw (differ (codes "vectorSelector") name (λ k. h (sym k))) (
    rw (differ (codes "matrixSelector") name (λ k. i (sym k))) (
    rw (differ (codes "call") name (λ k. j (sym k))) (
    refl))))))))))

-- ---- times

pub no_time : (d w : Data) (at : Option Moment) → d ≢ null → w ≢ null → w ≡ start_or_end at → d ≢ timestamp at
no_time d w None full other same h = full h
no_time d w (Some at_start) full other same h = full h
no_time d w (Some at_end) full other same h = full h
no_time d w (Some (at_time t)) full other same h = other same

pub no_other_time : (d : Data) (at : Option Moment) → d ≢ null → ((z : ℤ) → FitsSigned w64 z → d ≢ whole z) → ReadableMoment at → null ≡ start_or_end at → d ≢ timestamp at
no_other_time d None full none fine same h = full h
no_other_time d (Some at_start) full none fine same h = full h
no_other_time d (Some at_end) full none fine same h = full h
no_other_time d (Some (at_time t)) full none fine same h = none t fine h

pub none_ok : {T E : Type 0} (P : T → Type 0) (r : Result T E) → IsErr r → IfOk r P
none_ok P (Ok x) h = absurd (true≢false (sym h))
none_ok P (Err e) h = tt

pub on_err : {T E : Type 0} (P : Type 0) (r : Result T E) → P → OnErr r P
on_err P (Ok x) h = tt
on_err P (Err e) h = h

-- ---- modifiers

pub as_wanted : (b : Bool) (d : Data) (e : ReadError) → d ≢ null → IsIn modifier d e → IsIn (if b then modifier else or_null modifier) d e
as_wanted true d e full place = place
as_wanted false d e full place = nullable modifier d e full place

pub bool_here : (b : Bool) (d : Data) → b ≡ true → ((ms : Members) → d ≢ object ms) → MisfitAt (if b then modifier else or_null modifier) d [] Object
bool_here true d is other = here modifier d Object 0 refl other
bool_here false d is other = absurd (true≢false (sym is))

pub modifier_here : (b : Bool) (d : Data) → d ≢ null → ((ms : Members) → d ≢ object ms) → MisfitAt (if b then modifier else or_null modifier) d [] Object
modifier_here true d full other = here modifier d Object 0 refl other
modifier_here false d full other = not_null modifier d [] Object full (here modifier d Object 0 refl other)

pub none_first : (xs : List Value) (first : Data) (ds : Items) → length xs ≡ 0 → items_view xs ≢ item first ds
none_first [] first ds none h = absurd cc
none_first (x ∷ xs) first ds none h = absurd (omega arith)

pub moved : (d : Data) (z w : ℤ) (e : ReadError) → IsIn (exactly (whole w)) d e → z ≡ w → IsIn (exactly (whole z)) d e
moved d z w e place is = subst (λ k. IsIn (exactly (whole k)) d e) (sym is) place
