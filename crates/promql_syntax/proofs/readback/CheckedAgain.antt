-- The normal form passes the checks that a tree passes.
use Rattle.std.proofs.Common.{◌≡◌, ℕ, ◌+◌, refl, sym, ◌∙◌, ap, Bool, true, false, cond, not, Option, Some, None, List, [], ◌∷◌, length}
use Rattle.std.specs.Prelude.{option_and_then}
use Rattle.std.specs.Option.{option_map_or}
use Rattle.promql_text.specs.Texts.{Text}
use Rattle.promql_token.specs.Ids.{is_aggregator, is_aggregator_with_param}
use Rattle.promql_kind.specs.Functions.{Signature, signature}
use Rattle.promql_kind.specs.Modifiers.{Clause}
use Rattle.promql_kind.specs.ValueTypes.{type_eq}
use Rattle.promql_kind.specs.declared.value.ValueType.{ValueType}
use Rattle.promql_kind.specs.declared.value.ValueType.TheVariants as kind
use Rattle.promql_ast.specs.Arguments.{count, first_of}
use Rattle.promql_ast.specs.Builds.{aggregate_args, aggregated_alone, aggregated_with, minus, scalar_value}
use Rattle.promql_ast.specs.Checked.{check_tree}
use Rattle.promql_ast.specs.Checks.{first_fault, is_scalar_or_vector, is_vector, type_fault, unless, when}
use Rattle.promql_ast.specs.Faults as build_errors
use Rattle.promql_ast.specs.Faults.{Fault, Verdict, passes, type_expected, in_call}
use Rattle.promql_ast.specs.Normal.{normal, maybe_normal, all_normal}
use Rattle.promql_ast.specs.Tree.{Tree, aggregate, unary, binary, paren, subquery, number, string, vector, matrix, call, extension, MaybeTree, absent, present, Trees, no_trees, first_tree}
use Rattle.promql_ast.specs.Types.{type_of}
use Rattle.promql_ast.specs.check.AggregateChecks.{aggregate_fault, maybe_type, param_fault, param_type}
use Rattle.promql_ast.specs.check.CallChecks.{arity_fault, is_exempt, is_exempt_number, types_fault, typing_fault}
use Rattle.promql_ast.specs.node.Binary.{binary_type}

-- ---- types

pub type_normal : (t : Tree) → type_of (normal t) ≡ type_of t
type_normal (aggregate op e p m) = refl
type_normal (unary e) = type_normal e
type_normal (binary op l r m) = λ i. binary_type (type_normal l i) (type_normal r i)
type_normal (paren e) = type_normal e
type_normal (subquery e offset at range step) = refl
type_normal (number n) = refl
type_normal (string s) = refl
type_normal (vector s) = refl
type_normal (matrix s range mode) = refl
type_normal (call f ts) = refl
type_normal (extension name gives ts) = refl

-- ---- one check that passes

unless_passes : (f : Option Fault) (v : Verdict) (u : Tree) → unless f v ≡ passes u → (f ≡ None) × (v ≡ passes u)
unless_passes (Some f) v u e = cc
unless_passes None v u e = (refl, e)

no_fault : (f : Option Fault) (v w : Verdict) → f ≡ None → v ≡ w → unless f v ≡ w
no_fault f v w e h = ap (λ f. unless f v) e ∙ h

pub same_tree : (t u : Tree) → passes t ≡ passes u → t ≡ u
same_tree t u e = cc

-- a verdict passes this tree alone, and passes another one as well
pub record PassesAgain (t u : Tree) (verdict : Verdict) (v : Tree) : Type 0 where
  pub is : t ≡ u
  pub again : verdict ≡ passes v

pub subquery_again : (e : Tree) (range : ℕ) (step : Option ℕ) (u : Tree) → check_tree (subquery e None None range step) ≡ passes u
    → PassesAgain (subquery e None None range step) u (check_tree (subquery (normal e) None None range step)) (subquery (normal e) None None range step)
subquery_again e range step u h =
    let both = unless_passes (when (not (is_vector (type_of e))) (build_errors.subquery_type (type_of e))) (passes (subquery e None None range step)) u h in
    record {
      is = same_tree _ _ both.1;
      again = no_fault (when (not (is_vector (type_of (normal e)))) (build_errors.subquery_type (type_of (normal e)))) _ _
          (ap (λ k. when (not (is_vector k)) (build_errors.subquery_type k)) (type_normal e) ∙ both.0) refl;
    }

pub unary_again : (e u : Tree) → check_tree (unary e) ≡ passes u → PassesAgain (unary e) u (check_tree (unary (normal e))) (unary (normal e))
unary_again e u h =
    let both = unless_passes (when (not (is_scalar_or_vector (type_of e))) (build_errors.unary_type (type_of e))) (passes (unary e)) u h in
    record {
      is = same_tree _ _ both.1;
      again = no_fault (when (not (is_scalar_or_vector (type_of (normal e)))) (build_errors.unary_type (type_of (normal e)))) _ _
          (ap (λ k. when (not (is_scalar_or_vector k)) (build_errors.unary_type k)) (type_normal e) ∙ both.0) refl;
    }

pub minus_normal : (t : Tree) → minus t ≡ passes (unary t) → minus (normal t) ≡ passes (unary (normal t))
minus_normal (number n) e = cc
minus_normal (string s) e = cc
minus_normal (matrix s range mode) e = cc
minus_normal t e = refl

-- ---- calls

count_normal : (ts : Trees) → count (all_normal ts) ≡ count ts
count_normal no_trees = refl
count_normal (first_tree t ts) = ap (λ n. n + 1) (count_normal ts)

scalar_normal : (t : Tree) → scalar_value (normal t) ≡ scalar_value t
scalar_normal (number n) = refl
scalar_normal t = refl

first_normal : (ts : Trees) → option_and_then scalar_value (first_of (all_normal ts)) ≡ option_and_then scalar_value (first_of ts)
first_normal no_trees = refl
first_normal (first_tree t ts) = scalar_normal t

types_normal : (name : Text) (ks : List ValueType) (ts : Trees) → types_fault name ks (all_normal ts) ≡ types_fault name ks ts
types_normal name [] ts = refl
types_normal name (k ∷ []) no_trees = refl
types_normal name (k ∷ j ∷ ks) no_trees = refl
types_normal name (k ∷ []) (first_tree t ts) =
    λ i. cond (not (type_eq k (type_normal t i))) (Some (type_expected k (in_call name) (Some (type_normal t i)))) (types_normal name (k ∷ []) ts i)
types_normal name (k ∷ j ∷ ks) (first_tree t ts) =
    λ i. cond (not (type_eq k (type_normal t i))) (Some (type_expected k (in_call name) (Some (type_normal t i)))) (types_normal name (j ∷ ks) ts i)

exempt_normal : (name : Text) (ts : Trees) → is_exempt name (all_normal ts) ≡ is_exempt name ts
exempt_normal name ts = ap (λ o. option_map_or (λ n. is_exempt_number name (Some n)) o false) (first_normal ts)

typing_normal : (name : Text) (ks : List ValueType) (ts : Trees) → typing_fault name ks (all_normal ts) ≡ typing_fault name ks ts
typing_normal name ks ts = λ i. cond (exempt_normal name ts i) None (types_normal name ks ts i)

pub call_again : (f : Signature) (ts : Trees) (u : Tree) → check_tree (call f ts) ≡ passes u → PassesAgain (call f ts) u (check_tree (call f (all_normal ts))) (call f (all_normal ts))
call_again (signature name types variadic gives experimental) ts u h =
    let one = unless_passes (arity_fault name variadic (length types) (count ts)) _ u h in
    let two = unless_passes (typing_fault name types ts) _ u one.1 in
    record {
      is = same_tree _ _ two.1;
      again =
          no_fault (arity_fault name variadic (length types) (count (all_normal ts))) _ _ (ap (arity_fault name variadic (length types)) (count_normal ts) ∙ one.0)
          (no_fault (typing_fault name types (all_normal ts)) _ _ (typing_normal name types ts ∙ two.0) refl);
    }

-- ---- aggregations

maybe_type_normal : (p : MaybeTree) → maybe_type (maybe_normal p) ≡ maybe_type p
maybe_type_normal absent = refl
maybe_type_normal (present e) = ap Some (type_normal e)

aggregator_of : (b : Bool) (f : Fault) (fs : List (Option Fault)) → first_fault (when (not b) f ∷ fs) ≡ None → b ≡ true
aggregator_of true f fs e = refl
aggregator_of false f fs e = cc

pub is_aggregated : (op : ℕ) (e : Tree) (p : MaybeTree) (m : Option Clause) (u : Tree) → check_tree (aggregate op e p m) ≡ passes u → is_aggregator op ≡ true
is_aggregated op e p m u h =
    let both = unless_passes (aggregate_fault op (type_of e) (maybe_type p)) (passes (aggregate op e p m)) u h in
    aggregator_of (is_aggregator op) (build_errors.aggregator_expected op) (type_fault kind.Vector build_errors.in_aggregation (Some (type_of e)) ∷ param_fault (param_type op) (maybe_type p) ∷ []) both.0

pub aggregate_again : (op : ℕ) (e : Tree) (p : MaybeTree) (m n : Option Clause) (u : Tree) → check_tree (aggregate op e p m) ≡ passes u
    → PassesAgain (aggregate op e p m) u (check_tree (aggregate op (normal e) (maybe_normal p) n)) (aggregate op (normal e) (maybe_normal p) n)
aggregate_again op e p m n u h =
    let both = unless_passes (aggregate_fault op (type_of e) (maybe_type p)) (passes (aggregate op e p m)) u h in
    record {
      is = same_tree _ _ both.1;
      again = no_fault (aggregate_fault op (type_of (normal e)) (maybe_type (maybe_normal p))) _ _
          ((λ i. aggregate_fault op (type_normal e i) (maybe_type_normal p i)) ∙ both.0) refl;
    }

-- the arguments of an aggregation: its expression, after its parameter if it has one
abbrev pub arguments : MaybeTree → Tree → Trees
arguments absent e = first_tree e no_trees
arguments (present p) e = first_tree p (first_tree e no_trees)

pub record Aggregates (op : ℕ) (m : Option Clause) (ts : Trees) (u : Tree) : Type 0 where
  pub tree : Tree
  pub param : MaybeTree
  pub is : u ≡ aggregate op tree param m
  pub all : ts ≡ arguments param tree
  pub again : (n : Option Clause) → aggregate_args op n (all_normal ts) ≡ passes (aggregate op (normal tree) (maybe_normal param) n)

aggregates_by : (b : Bool) (op : ℕ) (m : Option Clause) (ts : Trees) (u : Tree) → is_aggregator_with_param op ≡ b → cond b (aggregated_with op m ts) (aggregated_alone op m ts) ≡ passes u → Aggregates op m ts u
aggregates_by true op m no_trees u is e = cc
aggregates_by true op m (first_tree p no_trees) u is e = cc
aggregates_by true op m (first_tree p (first_tree t no_trees)) u is e = record {
  tree = t;
  param = present p;
  is = sym (same_tree _ _ e);
  all = refl;
  again = λ n. ap (λ b. cond b (passes (aggregate op (normal t) (present (normal p)) n)) (aggregated_alone op n (first_tree (normal p) (first_tree (normal t) no_trees)))) is;
}
aggregates_by true op m (first_tree p (first_tree t (first_tree s ts))) u is e = cc
aggregates_by false op m no_trees u is e = cc
aggregates_by false op m (first_tree t no_trees) u is e = record {
  tree = t;
  param = absent;
  is = sym (same_tree _ _ e);
  all = refl;
  again = λ n. ap (λ b. cond b (aggregated_with op n (first_tree (normal t) no_trees)) (passes (aggregate op (normal t) absent n))) is;
}
aggregates_by false op m (first_tree p (first_tree t ts)) u is e = cc

pub aggregates : (op : ℕ) (m : Option Clause) (ts : Trees) (u : Tree) → aggregate_args op m ts ≡ passes u → Aggregates op m ts u
aggregates op m ts u e = aggregates_by (is_aggregator_with_param op) op m ts u refl e
