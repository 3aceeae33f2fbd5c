-- What is well typed passes its checks.
use Rattle.std.proofs.Common.{◌≡◌, ◌≢◌, ◌⊎◌, inl, inr, ◌≤◌, ◌<◌, ◌+◌, ◌-◌, ℕ, ℤ, refl, sym, ◌∙◌, ap, arith, Bool, true, false, cond, not, ◌&&◌, ◌||◌, List, [], ◌∷◌, length, Option, Some, None, unsigned_abs}
use Rattle.std.specs.Prelude.{◌==◌, nat_lt, option_map}
use Rattle.std.specs.Int.{is_negative}
use Rattle.std.proofs.lemmas.Bool.Decides.{Decides-eqb, Decides-ltb}
use Rattle.promql_text.specs.Texts.{Text}
use Rattle.promql_token.specs.Ids.{is_aggregator, is_comparison_operator, is_operator, is_set_operator}
use Rattle.promql_label.specs.PlainMatchers.{PlainMatchers}
use Rattle.promql_kind.specs.Functions.{Signature, signature}
use Rattle.promql_kind.specs.Modifiers.{Clause, Matching, matching, is_grouping}
use Rattle.promql_kind.specs.ValueTypes.{type_eq}
use Rattle.promql_kind.specs.declared.value.ValueType.{ValueType}
use Rattle.promql_kind.specs.declared.value.ValueType.TheVariants.{Vector, Scalar}
use Rattle.promql_kind.proofs.SameModifiersDecide.{type_eq-Decides}
use Rattle.promql_ast.specs.Arguments.{count}
use Rattle.promql_ast.specs.Builds.{minus}
use Rattle.promql_ast.specs.Checked.{check_tree}
use Rattle.promql_ast.specs.Checks.{when, first_fault, unless, is_scalar, is_vector, is_scalar_or_vector, type_fault}
use Rattle.promql_ast.specs.Faults as faults
use Rattle.promql_ast.specs.Faults.{Fault, Context, Verdict, passes, in_aggregation, in_call, type_expected}
use Rattle.promql_ast.specs.OptionalModifiers.{has_matching_labels, is_grouped, is_on, joint_labels, returns_bool}
use Rattle.promql_ast.specs.Tree.{Tree, aggregate, unary, binary, subquery, number, string, matrix, call, MaybeTree, Trees, no_trees, first_tree}
use Rattle.promql_ast.specs.Typed.{HasName, IsApart, IsManyToMany, TakesCount, TypedAggregate, TypedArgs, TypedBinary, TypedParam, TypedSignature}
use Rattle.promql_ast.specs.Types.{type_of}
use Rattle.promql_ast.specs.check.AggregateChecks.{aggregate_fault, maybe_type, param_fault, param_type}
use Rattle.promql_ast.specs.check.BinaryChecks.{first_twice, label_fault, operator_fault, set_fault, settle_matching, side_fault}
use Rattle.promql_ast.specs.check.CallChecks.{arity_fault, is_exempt, types_fault, typing_fault}
use Rattle.promql_ast.specs.check.VectorChecks.{name_fault}
use Rattle.promql_syntax.proofs.printed.PrintedModifiers.{PassesChecks}
use Rattle.promql_rewrite.specs.PrintableConditions.{IsNegated}

-- ---- faults that do not apply

pub no_fault : (f : Option Fault) (v : Verdict) → f ≡ None → unless f v ≡ v
no_fault f v e = ap (λ f. unless f v) e

pub not_when : (b : Bool) (f : Fault) → b ≡ false → when b f ≡ None
not_when b f e = ap (λ b. when b f) e

-- ---- tests

and_not : (a b : Bool) → (a ≡ true → b ≡ true) → (a && not b) ≡ false
and_not true b h = ap not (h refl)
and_not false b h = refl

and_none : (a b c d : Bool) → (a ≡ true → b ≡ true → c ≡ true → d ≡ true) → (a && (b && (c && not d))) ≡ false
and_none true true true d h = ap not (h refl refl refl)
and_none false b c d h = refl
and_none true false c d h = refl
and_none true true false d h = refl

and_if : (a b : Bool) → (a ≡ true → b ≡ false) → (a && b) ≡ false
and_if true b h = h refl
and_if false b h = refl

and_right : (a b : Bool) → b ≡ false → (a && b) ≡ false
and_right true b e = e
and_right false b e = refl

not_and : (a b : Bool) → (b ≡ true → a ≡ true) → (not a && b) ≡ false
not_and true b h = refl
not_and false true h = sym (h refl)
not_and false false h = refl

is_type : (a b : ValueType) → type_eq a b ≡ true → a ≡ b
is_type a b e = (type_eq-Decides a b).0 e

of_type : (a b : ValueType) → a ≡ b → type_eq a b ≡ true
of_type a b e = (type_eq-Decides a b).1 e

either_type : (t : ValueType) → (t ≡ Scalar) ⊎ (t ≡ Vector) → is_scalar_or_vector t ≡ true
either_type t (inl e) = ap is_scalar_or_vector e
either_type t (inr e) = ap is_scalar_or_vector e

type_passes : (k : ValueType) (c : Context) → type_fault k c (Some k) ≡ None
type_passes k c = ap (λ b. when (not b) (type_expected k c (Some k))) (of_type k k refl)

-- ---- binary expressions

twice_none : (ls : Option (List Text)) → IsApart ls → first_twice ls ≡ None
twice_none None h = refl
twice_none (Some ls) h = ap (λ x. first_twice (Some x)) h

many_ungrouped : (m : Option Matching) → IsManyToMany m → is_grouped m ≡ false
many_ungrouped None h = refl
many_ungrouped (Some (matching card clause return_bool values)) h = ap is_grouping h

module _ (op : ℕ) (l r : ValueType) (m : Option Matching) (typed : TypedBinary op l r m) where
  operator_passes : operator_fault op l r m ≡ None
  operator_passes =
      let known : not (is_operator op) ≡ false = ap not typed.operator in
      let flag = and_not (returns_bool m) (is_comparison_operator op) typed.bool_on_comparison in
      let scalars = and_none (is_comparison_operator op) (is_scalar l) (is_scalar r) (returns_bool m) (λ compares left right. typed.scalars_with_bool compares (is_type l Scalar left) (is_type r Scalar right)) in
      λ i. first_fault (when (known i) (faults.binary_operator op) ∷ when (flag i) faults.bool_modifier ∷ when (scalars i) faults.scalar_comparison ∷ [])

  label_passes : label_fault m ≡ None
  label_passes = go (is_on m) refl
    where
      go : (b : Bool) → is_on m ≡ b → cond b (first_twice (joint_labels m)) None ≡ None
      go true on = twice_none (joint_labels m) (typed.labels_apart on)
      go false on = refl

  no_scalar : is_set_operator op ≡ true → (is_scalar l || is_scalar r) ≡ false
  no_scalar set = let both = typed.sets_of_vectors set in λ i. is_scalar (both.0 i) || is_scalar (both.1 i)

  no_group : is_set_operator op ≡ true → ((is_vector l && is_vector r) && is_grouped m) ≡ false
  no_group set = and_right (is_vector l && is_vector r) (is_grouped m) (many_ungrouped m (typed.sets_many_to_many set))

  set_passes : set_fault op l r m ≡ None
  set_passes =
      let scalar = and_if (is_set_operator op) (is_scalar l || is_scalar r) no_scalar in
      let grouped = and_if (is_set_operator op) ((is_vector l && is_vector r) && is_grouped m) no_group in
      λ i. first_fault (when (scalar i) (faults.set_on_scalar op) ∷ when (grouped i) (faults.no_grouping op) ∷ [])

  sides : not (is_scalar_or_vector l && is_scalar_or_vector r) ≡ false
  sides = let left = either_type l typed.left_side in let right = either_type r typed.right_side in λ i. not (left i && right i)

  vectors : has_matching_labels m ≡ true → (is_vector l && is_vector r) ≡ true
  vectors labels = let both = typed.matched_vectors labels in λ i. is_vector (both.0 i) && is_vector (both.1 i)

  side_passes : side_fault l r m ≡ None
  side_passes =
      let labels = not_and (is_vector l && is_vector r) (has_matching_labels m) vectors in
      λ i. first_fault (when (sides i) faults.binary_types ∷ when (labels i) faults.vector_matching ∷ [])

pub binary_passes : (op : ℕ) (l r : Tree) (m : Option Matching) → TypedBinary op (type_of l) (type_of r) m → PassesChecks op l r m (binary op l r (settle_matching op m))
binary_passes op l r m typed = record {
  operator = operator_passes op (type_of l) (type_of r) m typed;
  label = label_passes op (type_of l) (type_of r) m typed;
  set = set_passes op (type_of l) (type_of r) m typed;
  side = side_passes op (type_of l) (type_of r) m typed;
  is = refl;
}

-- ---- aggregations

param_passes : (k p : Option ValueType) → TypedParam k p → param_fault k p ≡ None
param_passes None p h = refl
param_passes (Some k) p h = ap (param_fault (Some k)) h ∙ type_passes k in_aggregation

pub aggregate_passes : (op : ℕ) (e : Tree) (p : MaybeTree) (m : Option Clause) → TypedAggregate op (type_of e) (maybe_type p) → check_tree (aggregate op e p m) ≡ passes (aggregate op e p m)
aggregate_passes op e p m typed =
    let known : not (is_aggregator op) ≡ false = ap not typed.aggregator in
    let vector : type_fault Vector in_aggregation (Some (type_of e)) ≡ None = ap (λ k. type_fault Vector in_aggregation (Some k)) typed.over_vector in
    let param = param_passes (param_type op) (maybe_type p) typed.param in
    no_fault (aggregate_fault op (type_of e) (maybe_type p)) (passes (aggregate op e p m)) (λ i. first_fault (when (known i) (faults.aggregator_expected op) ∷ vector i ∷ param i ∷ []))

-- ---- selectors

pub name_passes : (name : Option Text) (cs : PlainMatchers) → HasName name cs → name_fault name cs ≡ None
name_passes (Some name) cs h = ap (option_map (faults.name_twice name)) h
name_passes None cs h = ap (λ b. when b faults.empty_selector) h

-- ---- unary operators and subqueries

pub unary_passes : (e : Tree) → (type_of e ≡ Scalar) ⊎ (type_of e ≡ Vector) → check_tree (unary e) ≡ passes (unary e)
unary_passes e typed = no_fault (when (not (is_scalar_or_vector (type_of e))) (faults.unary_type (type_of e))) (passes (unary e)) (not_when (not (is_scalar_or_vector (type_of e))) (faults.unary_type (type_of e)) (ap not (either_type (type_of e) typed)))

-- a minus before it makes a node
pub minus_passes : (e : Tree) → IsNegated e → (type_of e ≡ Scalar) ⊎ (type_of e ≡ Vector) → minus e ≡ passes (unary e)
minus_passes (number n) h typed = absurd h
minus_passes (string s) h (inl e) = cc
minus_passes (string s) h (inr e) = cc
minus_passes (matrix s range mode) h (inl e) = cc
minus_passes (matrix s range mode) h (inr e) = cc
minus_passes e h typed = refl

pub subquery_passes : (e : Tree) (range : ℕ) (step : Option ℕ) → type_of e ≡ Vector → check_tree (subquery e None None range step) ≡ passes (subquery e None None range step)
subquery_passes e range step typed =
    no_fault (when (not (is_vector (type_of e))) (faults.subquery_type (type_of e))) (passes (subquery e None None range step)) (not_when (not (is_vector (type_of e))) (faults.subquery_type (type_of e)) (λ i. not (is_vector (typed i))))

-- ---- calls

is_false : (b : Bool) → (b ≡ true → ⊥) → b ≡ false
is_false true h = absurd (h refl)
is_false false h = refl

not_below : (a b : ℕ) → b ≤ a → nat_lt a b ≡ false
not_below a b h = is_false (nat_lt a b) (λ less. let below : a < b = (Decides-ltb a b).0 less in absurd (omega arith))

-- of nested tests, none of those that are reached holds
arity_passes : (name : Text) (v : ℤ) (n k : ℕ) → TakesCount v n k → arity_fault name v n k ≡ None
arity_passes name v n k takes = go (unsigned_abs v == 0) refl
  where
    most : (b : Bool) → is_negative v ≡ b → unsigned_abs v ≢ 0 → cond b None (cond (nat_lt (n - 1 + unsigned_abs v) k) (Some (faults.arity_most (n - 1 + unsigned_abs v) name k)) None) ≡ None
    most true is some = refl
    most false is some = ap (λ b. cond b (Some (faults.arity_most (n - 1 + unsigned_abs v) name k)) None) (not_below (n - 1 + unsigned_abs v) k (takes.2 some is))

    go : (b : Bool) → (unsigned_abs v == 0) ≡ b
        → cond b (cond (not (k == n)) (Some (faults.arity_exact n name k)) None)
        (cond (nat_lt k (n - 1)) (Some (faults.arity_least (n - 1) name k)) (cond (is_negative v) None (cond (nat_lt (n - 1 + unsigned_abs v) k) (Some (faults.arity_most (n - 1 + unsigned_abs v) name k)) None)))
        ≡ None
    go true is = ap (λ b. cond (not b) (Some (faults.arity_exact n name k)) None) ((Decides-eqb k n).1 (takes.0 ((Decides-eqb (unsigned_abs v) 0).0 is)))
    go false is =
        let some : unsigned_abs v ≢ 0 = (λ e. let same : (unsigned_abs v == 0) ≡ true = (Decides-eqb (unsigned_abs v) 0).1 e in cc) in
        ap (λ b. cond b (Some (faults.arity_least (n - 1) name k)) (cond (is_negative v) None (cond (nat_lt (n - 1 + unsigned_abs v) k) (Some (faults.arity_most (n - 1 + unsigned_abs v) name k)) None))) (not_below k (n - 1) (takes.1 some))
        ∙ most (is_negative v) refl some

types_pass : (name : Text) (ks : List ValueType) (ts : Trees) → TypedArgs ks ts → types_fault name ks ts ≡ None
types_pass name [] ts h = refl
types_pass name (k ∷ []) no_trees h = refl
types_pass name (k ∷ j ∷ ks) no_trees h = refl
types_pass name (k ∷ []) (first_tree t ts) h =
    ap (λ b. cond (not b) (Some (type_expected k (in_call name) (Some (type_of t)))) (types_fault name (k ∷ []) ts)) (of_type k (type_of t) (sym h.0)) ∙ types_pass name (k ∷ []) ts h.1
types_pass name (k ∷ j ∷ ks) (first_tree t ts) h =
    ap (λ b. cond (not b) (Some (type_expected k (in_call name) (Some (type_of t)))) (types_fault name (j ∷ ks) ts)) (of_type k (type_of t) (sym h.0)) ∙ types_pass name (j ∷ ks) ts h.1

typing_passes : (name : Text) (ks : List ValueType) (ts : Trees) → (is_exempt name ts ≡ false → TypedArgs ks ts) → typing_fault name ks ts ≡ None
typing_passes name ks ts typed = go (is_exempt name ts) refl
  where
    go : (b : Bool) → is_exempt name ts ≡ b → cond b None (types_fault name ks ts) ≡ None
    go true is = refl
    go false is = types_pass name ks ts (typed is)

pub call_passes : (f : Signature) (ts : Trees) → TypedSignature f ts → check_tree (call f ts) ≡ passes (call f ts)
call_passes (signature name types variadic gives experimental) ts typed =
    let f = signature name types variadic gives experimental in
    no_fault (arity_fault name variadic (length types) (count ts)) (unless (typing_fault name types ts) (passes (call f ts))) (arity_passes name variadic (length types) (count ts) typed.arguments)
    ∙ no_fault (typing_fault name types ts) (passes (call f ts)) (typing_passes name types ts typed.typed)
