-- What the checks accept, over well typed children, is well typed.
use Rattle.std.proofs.Common.{◌≡◌, ◌∙◌, ◌⊎◌, inl, inr, ◌≤◌, ◌+◌, ◌-◌, ℕ, ℤ, Bool, true, false, not, ◌&&◌, ◌||◌, List, [], ◌∷◌, length, Option, Some, None, refl, sym, ap, subst, unsigned_abs}
use Rattle.std.specs.Prelude.{if◌then◌else◌, ◌==◌, nat_lt, option_map}
use Rattle.std.specs.Int.{is_negative}
use Rattle.std.proofs.lemmas.Bool.{ltb-false}
use Rattle.std.proofs.lemmas.Bool.Decides.{Decides-eqb}
use Rattle.promql_text.specs.Texts.{Text}
use Rattle.promql_token.specs.Ids.{is_comparison_operator, is_operator, is_set_operator}
use Rattle.promql_label.specs.PlainMatchers.{PlainMatchers, found_value}
use Rattle.promql_kind.specs.Functions.{signature}
use Rattle.promql_kind.specs.Modifiers.{one_to_one, many_to_one, one_to_many, many_to_many, Matching, matching}
use Rattle.promql_kind.specs.ValueTypes.{type_eq}
use Rattle.promql_kind.specs.declared.value.ValueType.{ValueType}
use Rattle.promql_kind.specs.declared.value.ValueType.TheVariants.{Vector, Scalar, Matrix, String}
use Rattle.promql_kind.proofs.SameModifiersDecide.{type_eq-Decides}
use Rattle.promql_ast.specs.Arguments.{count}
use Rattle.promql_ast.specs.Checked.{check_tree}
use Rattle.promql_ast.specs.Checks.{when, first_fault, unless, is_scalar, is_vector, is_scalar_or_vector, type_fault}
use Rattle.promql_ast.specs.Faults.{Fault, Context, in_aggregation, binary_operator, bool_modifier, scalar_comparison, set_on_scalar, no_grouping, binary_types, name_twice, vector_matching, Verdict, passes}
use Rattle.promql_ast.specs.OptionalModifiers.{has_matching_labels, is_grouped, is_on, joint_labels, returns_bool}
use Rattle.promql_ast.specs.Selectors.{Selector, selector}
use Rattle.promql_ast.specs.Tree.{Tree, aggregate, unary, binary, paren, subquery, number, string, vector, matrix, call, extension, Trees, no_trees, first_tree}
use Rattle.promql_ast.specs.Typed.{IsApart, IsManyToMany, TypedBinary, TypedParam, TypedAggregate, TakesCount, TypedArgs, HasName, TypedSelector, Typed, TypedBelow}
use Rattle.promql_ast.specs.Types.{type_of}
use Rattle.promql_ast.specs.check.AggregateChecks.{aggregate_fault, maybe_type, param_fault, param_type}
use Rattle.promql_ast.specs.check.BinaryChecks.{first_twice, label_fault, operator_fault, set_fault, settle_matching, settled_set, side_fault}
use Rattle.promql_ast.specs.check.CallChecks.{arity_fault, is_exempt, types_fault, typing_fault}
use Rattle.promql_ast.specs.check.VectorChecks.{name_fault, selector_fault}

-- ---- faults that do not apply

unless_passes : (f : Option Fault) (v : Verdict) (u : Tree) → unless f v ≡ passes u → (f ≡ None) × (v ≡ passes u)
unless_passes (Some f) v u e = cc
unless_passes None v u e = (refl, e)

passes_is_injective : (t u : Tree) → passes t ≡ passes u → t ≡ u
passes_is_injective t u e = cc

first_none : (f : Option Fault) (fs : List (Option Fault)) → first_fault (f ∷ fs) ≡ None → (f ≡ None) × (first_fault fs ≡ None)
first_none (Some f) fs e = cc
first_none None fs e = (refl, e)

when_none : (b : Bool) (f : Fault) → when b f ≡ None → b ≡ false
when_none true f e = cc
when_none false f e = refl

none_of_two : (a b : Bool) (f g : Fault) → first_fault (when a f ∷ when b g ∷ []) ≡ None → (a ≡ false) × (b ≡ false)
none_of_two true b f g e = cc
none_of_two false true f g e = cc
none_of_two false false f g e = (refl, refl)

none_of_three : (a b c : Bool) (f g h : Fault) → first_fault (when a f ∷ when b g ∷ when c h ∷ []) ≡ None
    → (a ≡ false) × (b ≡ false) × (c ≡ false)
none_of_three true b c f g h e = cc
none_of_three false true c f g h e = cc
none_of_three false false true f g h e = cc
none_of_three false false false f g h e = (refl, refl, refl)

if_none : (b : Bool) (f : Fault) (rest : Option Fault) → (if b then Some f else rest) ≡ None → (b ≡ false) × (rest ≡ None)
if_none true f rest e = cc
if_none false f rest e = (refl, e)

-- ---- tests

not_false : (b : Bool) → not b ≡ false → b ≡ true
not_false true e = refl
not_false false e = cc

true_of_and_not : (a b : Bool) → (a && not b) ≡ false → a ≡ true → b ≡ true
true_of_and_not true true e h = refl
true_of_and_not true false e h = cc
true_of_and_not false b e h = cc

implied_by_three : (a b c d : Bool) → (a && (b && (c && not d))) ≡ false → a ≡ true → b ≡ true → c ≡ true → d ≡ true
implied_by_three true true true d e ha hb hc = not_false d e
implied_by_three false b c d e ha hb hc = cc
implied_by_three true false c d e ha hb hc = cc
implied_by_three true true false d e ha hb hc = cc

and_true : (a b : Bool) → (a && b) ≡ true → (a ≡ true) × (b ≡ true)
and_true true b e = (refl, e)
and_true false b e = cc

or_false : (a b : Bool) → (a || b) ≡ false → (a ≡ false) × (b ≡ false)
or_false true b e = cc
or_false false b e = (refl, e)

and_false_at : (a b : Bool) → (a && b) ≡ false → a ≡ true → b ≡ false
and_false_at true b e h = e
and_false_at false b e h = cc

unless_both : (a b : Bool) → (not a && b) ≡ false → b ≡ true → a ≡ true
unless_both true b e h = refl
unless_both false b e h = sym e ∙ h

is_type : (a b : ValueType) → type_eq a b ≡ true → a ≡ b
is_type a b e = (type_eq-Decides a b).0 e

of_type : (a b : ValueType) → a ≡ b → type_eq a b ≡ true
of_type a b e = (type_eq-Decides a b).1 e

either_type : (t : ValueType) → is_scalar_or_vector t ≡ true → (t ≡ Scalar) ⊎ (t ≡ Vector)
either_type Vector e = inr refl
either_type Scalar e = inl refl
either_type Matrix e = cc
either_type String e = cc

vector_left : (t : ValueType) → is_scalar_or_vector t ≡ true → is_scalar t ≡ false → t ≡ Vector
vector_left Vector e h = refl
vector_left Scalar e h = cc
vector_left Matrix e h = cc
vector_left String e h = cc

typed_as : (k : ValueType) (p : Context) (t : ValueType) → type_fault k p (Some t) ≡ None → k ≡ t
typed_as k p t e = is_type k t (not_false (type_eq k t) (when_none _ _ e))

-- ---- binary expressions

module _ (op : ℕ) (m : Option Matching) where
  settled_bool : returns_bool (settle_matching op m) ≡ returns_bool m
  settled_bool = go (is_set_operator op) m
    where
      go : (b : Bool) (n : Option Matching) → returns_bool (if b then Some (settled_set n) else n) ≡ returns_bool n
      go false n = refl
      go true None = refl
      go true (Some (matching card clause return_bool values)) = refl

  settled_on : is_on (settle_matching op m) ≡ is_on m
  settled_on = go (is_set_operator op) m
    where
      go : (b : Bool) (n : Option Matching) → is_on (if b then Some (settled_set n) else n) ≡ is_on n
      go false n = refl
      go true None = refl
      go true (Some (matching card clause return_bool values)) = refl

  settled_labels : has_matching_labels (settle_matching op m) ≡ has_matching_labels m
  settled_labels = go (is_set_operator op) m
    where
      go : (b : Bool) (n : Option Matching) → has_matching_labels (if b then Some (settled_set n) else n) ≡ has_matching_labels n
      go false n = refl
      go true None = refl
      go true (Some (matching card clause return_bool values)) = refl

  settled_joint : joint_labels (settle_matching op m) ≡ joint_labels m
  settled_joint = go (is_set_operator op) m
    where
      go : (b : Bool) (n : Option Matching) → joint_labels (if b then Some (settled_set n) else n) ≡ joint_labels n
      go false n = refl
      go true None = refl
      go true (Some (matching one_to_one clause return_bool values)) = refl
      go true (Some (matching (many_to_one ls) clause return_bool values)) = refl
      go true (Some (matching (one_to_many ls) clause return_bool values)) = refl
      go true (Some (matching many_to_many clause return_bool values)) = refl

  settled_many : is_set_operator op ≡ true → is_grouped m ≡ false → IsManyToMany (settle_matching op m)
  settled_many set grouped = subst (λ b. IsManyToMany (if b then Some (settled_set m) else m)) (sym set) (go m grouped)
    where
      go : (n : Option Matching) → is_grouped n ≡ false → IsManyToMany (Some (settled_set n))
      go None e = refl
      go (Some (matching one_to_one clause return_bool values)) e = refl
      go (Some (matching (many_to_one ls) clause return_bool values)) e = cc
      go (Some (matching (one_to_many ls) clause return_bool values)) e = cc
      go (Some (matching many_to_many clause return_bool values)) e = refl

apart : (ls : Option (List Text)) → first_twice ls ≡ None → IsApart ls
apart None e = tt
apart (Some []) e = refl
apart (Some (l ∷ ls)) e = cc

labels_apart : (m : Option Matching) → label_fault m ≡ None → is_on m ≡ true → IsApart (joint_labels m)
labels_apart m e on = apart (joint_labels m) (ap (λ b. if b then first_twice (joint_labels m) else None) (sym on) ∙ e)

typed_binary : (op : ℕ) (l r : ValueType) (m : Option Matching) → operator_fault op l r m ≡ None → label_fault m ≡ None
    → set_fault op l r m ≡ None → side_fault l r m ≡ None → TypedBinary op l r (settle_matching op m)
typed_binary op l r m operators labels sets sides =
    let op_faults = none_of_three (not (is_operator op)) (returns_bool m && not (is_comparison_operator op))
    (is_comparison_operator op && (is_scalar l && (is_scalar r && not (returns_bool m)))) (binary_operator op) bool_modifier scalar_comparison operators in
    let set_faults = none_of_two (is_set_operator op && (is_scalar l || is_scalar r)) (is_set_operator op && ((is_vector l && is_vector r) && is_grouped m))
    (set_on_scalar op) (no_grouping op) sets in
    let side_faults = none_of_two (not (is_scalar_or_vector l && is_scalar_or_vector r)) (not (is_vector l && is_vector r) && has_matching_labels m)
    binary_types vector_matching sides in
    let both = and_true (is_scalar_or_vector l) (is_scalar_or_vector r) (not_false _ side_faults.0) in
    let vectors : is_set_operator op ≡ true → (l ≡ Vector) × (r ≡ Vector) =
    λ set. let neither = or_false (is_scalar l) (is_scalar r) (and_false_at (is_set_operator op) (is_scalar l || is_scalar r) set_faults.0 set) in
    (vector_left l both.0 neither.0, vector_left r both.1 neither.1) in
    record {
      operator = not_false (is_operator op) op_faults.0;
      bool_on_comparison = λ e. true_of_and_not (returns_bool m) (is_comparison_operator op) op_faults.1 (sym (settled_bool op m) ∙ e);
      scalars_with_bool = λ compares left right.
          settled_bool op m
          ∙ implied_by_three (is_comparison_operator op) (is_scalar l) (is_scalar r) (returns_bool m) op_faults.2 compares (of_type l Scalar left) (of_type r Scalar right);
      labels_apart = λ on. subst IsApart (sym (settled_joint op m)) (labels_apart m labels (sym (settled_on op m) ∙ on));
      sets_of_vectors = vectors;
      sets_many_to_many = λ set.
          settled_many op m set
          (and_false_at (is_vector l && is_vector r) (is_grouped m)
          (and_false_at (is_set_operator op) ((is_vector l && is_vector r) && is_grouped m) set_faults.1 set)
          (λ i. of_type l Vector (vectors set).0 i && of_type r Vector (vectors set).1 i));
      left_side = either_type l both.0;
      right_side = either_type r both.1;
      matched_vectors = λ e.
          let are = and_true (is_vector l) (is_vector r) (unless_both (is_vector l && is_vector r) (has_matching_labels m) side_faults.1 (sym (settled_labels op m) ∙ e)) in
          (is_type l Vector are.0, is_type r Vector are.1);
    }

-- ---- aggregations

typed_param : (k p : Option ValueType) → param_fault k p ≡ None → TypedParam k p
typed_param None p e = tt
typed_param (Some k) None e = cc
typed_param (Some k) (Some t) e = ap Some (sym (typed_as k in_aggregation t e))

typed_aggregate : (op : ℕ) (e : ValueType) (p : Option ValueType) → aggregate_fault op e p ≡ None → TypedAggregate op e p
typed_aggregate op e p h =
    let first = first_none _ _ h in
    let second = first_none _ _ first.1 in
    let third = first_none _ _ second.1 in
    record {
      aggregator = not_false _ (when_none _ _ first.0);
      over_vector = sym (typed_as Vector in_aggregation e second.0);
      param = typed_param (param_type op) p third.0;
    }

-- ---- selectors

name_without_fault : (name : Option Text) (ms : PlainMatchers) → name_fault name ms ≡ None → HasName name ms
name_without_fault (Some n) ms e = go (found_value ms _) e
  where
    go : (v : Option Text) → option_map (name_twice n) v ≡ None → v ≡ None
    go None h = refl
    go (Some v) h = cc
name_without_fault None ms e = when_none _ _ e

typed_selector : (s : Selector) → selector_fault s ≡ None → TypedSelector s
typed_selector (selector name ms offset at) e = name_without_fault name ms e

-- ---- calls

typed_args : (name : Text) (ks : List ValueType) (ts : Trees) → types_fault name ks ts ≡ None → TypedArgs ks ts
typed_args name [] ts e = tt
typed_args name (k ∷ ks) no_trees e = tt
typed_args name (k ∷ []) (first_tree t ts) e =
    let parts = if_none _ _ _ e in
    (sym (is_type k (type_of t) (not_false _ parts.0)), typed_args name (k ∷ []) ts parts.1)
typed_args name (k ∷ j ∷ ks) (first_tree t ts) e =
    let parts = if_none _ _ _ e in
    (sym (is_type k (type_of t) (not_false _ parts.0)), typed_args name (j ∷ ks) ts parts.1)

-- of nested tests without a fault, those that are reached fail
first_fault_of_four : (z same less negative more : Bool) (f g h : Fault)
    → (if z then (if not same then Some f else None)
    else (if less then Some g else (if negative then None else (if more then Some h else None)))) ≡ None
    → (z ≡ true → same ≡ true) × (z ≡ false → less ≡ false) × (z ≡ false → negative ≡ false → more ≡ false)
first_fault_of_four true same less negative more f g h e = ((λ _. not_false same (if_none (not same) f None e).0), (λ k. cc), (λ k j. cc))
first_fault_of_four false same less negative more f g h e =
    let parts = if_none less g (if negative then None else (if more then Some h else None)) e in
    ((λ k. cc), (λ _. parts.0), (λ _ plain. go negative more plain parts.1))
  where
    go : (n m : Bool) → n ≡ false → (if n then None else (if m then Some h else None)) ≡ None → m ≡ false
    go true m k j = cc
    go false m k j = (if_none m h None j).0

is_false : (b : Bool) → (b ≡ true → ⊥) → b ≡ false
is_false true h = absurd (h refl)
is_false false h = refl

not_less : (a b : ℕ) → nat_lt a b ≡ false → b ≤ a
not_less a b e = ltb-false a b e

takes : (name : Text) (v : ℤ) (n k : ℕ) → arity_fault name v n k ≡ None → TakesCount v n k
takes name v n k e =
    let parts = first_fault_of_four (unsigned_abs v == 0) (k == n) (nat_lt k (n - 1)) (is_negative v) (nat_lt (n - 1 + unsigned_abs v) k) _ _ _ e in
    let some : (unsigned_abs v ≡ 0 → ⊥) → (unsigned_abs v == 0) ≡ false =
    λ h. is_false (unsigned_abs v == 0) (λ t. h ((Decides-eqb (unsigned_abs v) 0).0 t)) in (
      (λ z. (Decides-eqb k n).0 (parts.0 ((Decides-eqb (unsigned_abs v) 0).1 z))),
      (λ h. not_less k (n - 1) (parts.1 (some h))),
      (λ h plain. not_less (n - 1 + unsigned_abs v) k (parts.2 (some h) plain)),
    )

typing : (name : Text) (ks : List ValueType) (ts : Trees) → typing_fault name ks ts ≡ None → is_exempt name ts ≡ false → TypedArgs ks ts
typing name ks ts e h = typed_args name ks ts (ap (λ b. if b then None else types_fault name ks ts) (sym h) ∙ e)

-- ---- the law

pub checked_typed : (t u : Tree) → TypedBelow t → check_tree t ≡ passes u → Typed u
checked_typed (aggregate op e p m) u below h =
    let parts = unless_passes _ _ u h in
    let whole : Typed (aggregate op e p m) = (typed_aggregate op (type_of e) (maybe_type p) parts.0, below) in
    subst Typed (passes_is_injective (aggregate op e p m) u parts.1) whole
checked_typed (unary e) u below h =
    let parts = unless_passes _ _ u h in
    let whole : Typed (unary e) = (either_type (type_of e) (not_false _ (when_none _ _ parts.0)), below) in
    subst Typed (passes_is_injective (unary e) u parts.1) whole
checked_typed (binary op l r m) u below h =
    let one = unless_passes _ _ u h in
    let two = unless_passes _ _ u one.1 in
    let three = unless_passes _ _ u two.1 in
    let four = unless_passes _ _ u three.1 in
    let whole : Typed (binary op l r (settle_matching op m)) = (typed_binary op (type_of l) (type_of r) m one.0 two.0 three.0 four.0, below) in
    subst Typed (passes_is_injective (binary op l r (settle_matching op m)) u four.1) whole
checked_typed (paren e) u below h = subst Typed (passes_is_injective (paren e) u h) below
checked_typed (subquery e offset at range step) u below h =
    let parts = unless_passes _ _ u h in
    let whole : Typed (subquery e offset at range step) = (is_type (type_of e) Vector (not_false _ (when_none _ _ parts.0)), below) in
    subst Typed (passes_is_injective (subquery e offset at range step) u parts.1) whole
checked_typed (number n) u below h = subst Typed (passes_is_injective (number n) u h) tt
checked_typed (string s) u below h = subst Typed (passes_is_injective (string s) u h) tt
checked_typed (vector s) u below h =
    let parts = unless_passes _ _ u h in
    subst Typed (passes_is_injective (vector s) u parts.1) (typed_selector s parts.0)
checked_typed (matrix s range mode) u below h = subst Typed (passes_is_injective (matrix s range mode) u h) below
checked_typed (call (signature name types variadic gives experimental) ts) u below h =
    let one = unless_passes _ _ u h in
    let two = unless_passes _ _ u one.1 in
    let whole : Typed (call (signature name types variadic gives experimental) ts) =
    (record { arguments = takes name variadic (length types) (count ts) one.0; typed = typing name types ts two.0 }, below) in
    subst Typed (passes_is_injective (call (signature name types variadic gives experimental) ts) u two.1) whole
checked_typed (extension name gives es) u below h = subst Typed (passes_is_injective (extension name gives es) u h) below
