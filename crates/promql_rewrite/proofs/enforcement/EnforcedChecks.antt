-- An enforced tree has the tree's types, and passes the checks and the builders that the tree passes.
use Rattle.std.proofs.Common.{◌≡◌, ◌≢◌, ℕ, ◌+◌, refl, ◌∙◌, ap, Bool, true, false, cond, not, Option, Some, None, List, [], ◌∷◌, length, codes}
use Rattle.std.specs.Prelude.{option_and_then}
use Rattle.std.specs.Option.{option_map_or}
use Rattle.promql_text.specs.Texts.{Text}
use Rattle.promql_token.specs.Ids.{is_aggregator_with_param}
use Rattle.promql_label.specs.PlainMatchers.{PlainMatcher, name_of}
use Rattle.promql_kind.specs.Functions.{Signature, signature}
use Rattle.promql_kind.specs.Modifiers.{Clause}
use Rattle.promql_kind.specs.ValueTypes.{type_eq}
use Rattle.promql_kind.specs.declared.value.ValueType.{ValueType}
use Rattle.promql_ast.specs.Arguments.{count, first_of}
use Rattle.promql_ast.specs.Builds.{aggregate_args, aggregated_alone, aggregated_with, at_given, mode_given, offset_given, scalar_value}
use Rattle.promql_ast.specs.Checked.{check_tree}
use Rattle.promql_ast.specs.Checks.{is_scalar_or_vector, is_vector, unless, when}
use Rattle.promql_ast.specs.Faults as faults
use Rattle.promql_ast.specs.Faults.{Fault, Verdict, passes, rejected, type_expected, in_call}
use Rattle.promql_ast.specs.Selectors.{Selector, selector}
use Rattle.promql_ast.specs.Shifts.{Shift, Moment}
use Rattle.promql_ast.specs.Tree.{Tree, aggregate, unary, binary, paren, subquery, number, string, vector, matrix, call, extension, MaybeTree, absent, present, Trees, no_trees, first_tree}
use Rattle.promql_ast.specs.Types.{type_of}
use Rattle.promql_ast.specs.check.AggregateChecks.{aggregate_fault, maybe_type}
use Rattle.promql_ast.specs.check.CallChecks.{arity_fault, is_exempt_number, types_fault, typing_fault}
use Rattle.promql_ast.specs.check.VectorChecks.{name_fault}
use Rattle.promql_ast.specs.declared.range_mode.RangeMode.{RangeMode}
use Rattle.promql_ast.specs.declared.range_mode.RangeMode.TheVariants.{Plain}
use Rattle.promql_ast.specs.node.Binary.{binary_type}
use Rattle.promql_syntax.proofs.printed.PrintedModifiers.{binary_checked, checked_again}
use Rattle.promql_rewrite.specs.Enforcing.{all_enforced, enforced, enforced_matchers, maybe_enforced}
use Rattle.promql_rewrite.proofs.enforcement.EnforcedMatchers.{name_passes}

-- ---- arguments of the same types

-- as many trees, of the same types, and the same numbers
data SameTypes : Trees → Trees → Type 0 where
  none : SameTypes no_trees no_trees
  first : {t u : Tree} {ts us : Trees} → type_of u ≡ type_of t → scalar_value u ≡ scalar_value t → SameTypes ts us → SameTypes (first_tree t ts) (first_tree u us)

same_count : {ts us : Trees} → SameTypes ts us → count us ≡ count ts
same_count none = refl
same_count (first e f s) = ap (λ n. n + 1) (same_count s)

same_first : {ts us : Trees} → SameTypes ts us → option_and_then scalar_value (first_of us) ≡ option_and_then scalar_value (first_of ts)
same_first none = refl
same_first (first e f s) = f

same_types : (name : Text) (ks : List ValueType) {ts us : Trees} → SameTypes ts us → types_fault name ks us ≡ types_fault name ks ts
same_types name [] s = refl
same_types name (k ∷ []) none = refl
same_types name (k ∷ j ∷ ks) none = refl
same_types name (k ∷ []) (first e f s) = λ i. cond (not (type_eq k (e i))) (Some (type_expected k (in_call name) (Some (e i)))) (same_types name (k ∷ []) s i)
same_types name (k ∷ j ∷ ks) (first e f s) = λ i. cond (not (type_eq k (e i))) (Some (type_expected k (in_call name) (Some (e i)))) (same_types name (j ∷ ks) s i)

same_typing : (name : Text) (ks : List ValueType) {ts us : Trees} → SameTypes ts us → typing_fault name ks us ≡ typing_fault name ks ts
same_typing name ks s = λ i. cond (option_map_or (λ n. is_exempt_number name (Some n)) (same_first s i) false) None (same_types name ks s i)

unless_passes : (f : Option Fault) (v : Verdict) (u : Tree) → unless f v ≡ passes u → (f ≡ None) × (v ≡ passes u)
unless_passes (Some f) v u e = cc
unless_passes None v u e = (refl, e)

module _ (c : PlainMatcher) where
  -- ---- types

  pub type_enforced : (t : Tree) → type_of (enforced c t) ≡ type_of t
  type_enforced (aggregate op e p m) = refl
  type_enforced (unary e) = type_enforced e
  type_enforced (binary op l r m) = λ i. binary_type (type_enforced l i) (type_enforced r i)
  type_enforced (paren e) = type_enforced e
  type_enforced (subquery e offset at range step) = refl
  type_enforced (number n) = refl
  type_enforced (string s) = refl
  type_enforced (vector s) = refl
  type_enforced (matrix s range mode) = refl
  type_enforced (call f ts) = refl
  type_enforced (extension name gives ts) = refl

  maybe_type_enforced : (p : MaybeTree) → maybe_type (maybe_enforced c p) ≡ maybe_type p
  maybe_type_enforced absent = refl
  maybe_type_enforced (present e) = ap Some (type_enforced e)

  scalar_enforced : (t : Tree) → scalar_value (enforced c t) ≡ scalar_value t
  scalar_enforced (number n) = refl
  scalar_enforced t = refl

  all_same : (ts : Trees) → SameTypes ts (all_enforced c ts)
  all_same no_trees = none
  all_same (first_tree t ts) = first (type_enforced t) (scalar_enforced t) (all_same ts)

  -- ---- checks

  abbrev pub enforced_verdict : Verdict → Verdict
  enforced_verdict (passes t) = passes (enforced c t)
  enforced_verdict (rejected f) = rejected f

  unless_enforced : (f : Option Fault) (v : Verdict) → unless f (enforced_verdict v) ≡ enforced_verdict (unless f v)
  unless_enforced (Some f) v = refl
  unless_enforced None v = refl

  aggregate_enforced : (op : ℕ) (e : Tree) (p : MaybeTree) (m : Option Clause) → check_tree (enforced c (aggregate op e p m)) ≡ enforced_verdict (check_tree (aggregate op e p m))
  aggregate_enforced op e p m =
      (λ i. unless (aggregate_fault op (type_enforced e i) (maybe_type_enforced p i)) (passes (aggregate op (enforced c e) (maybe_enforced c p) m)))
      ∙ unless_enforced (aggregate_fault op (type_of e) (maybe_type p)) (passes (aggregate op e p m))

  unary_enforced : (e : Tree) → check_tree (enforced c (unary e)) ≡ enforced_verdict (check_tree (unary e))
  unary_enforced e =
      ap (λ k. unless (when (not (is_scalar_or_vector k)) (faults.unary_type k)) (passes (unary (enforced c e)))) (type_enforced e)
      ∙ unless_enforced (when (not (is_scalar_or_vector (type_of e))) (faults.unary_type (type_of e))) (passes (unary e))

  subquery_enforced : (e : Tree) (offset : Option Shift) (at : Option Moment) (range : ℕ) (step : Option ℕ)
      → check_tree (enforced c (subquery e offset at range step)) ≡ enforced_verdict (check_tree (subquery e offset at range step))
  subquery_enforced e offset at range step =
      ap (λ k. unless (when (not (is_vector k)) (faults.subquery_type k)) (passes (subquery (enforced c e) offset at range step))) (type_enforced e)
      ∙ unless_enforced (when (not (is_vector (type_of e))) (faults.subquery_type (type_of e))) (passes (subquery e offset at range step))

  call_enforced : (f : Signature) (ts : Trees) → check_tree (enforced c (call f ts)) ≡ enforced_verdict (check_tree (call f ts))
  call_enforced (signature name types variadic gives experimental) ts =
      let f = signature name types variadic gives experimental in
      let same = all_same ts in
      (λ i. unless (arity_fault name variadic (length types) (same_count same i)) (unless (same_typing name types same i) (passes (call f (all_enforced c ts)))))
      ∙ ap (unless (arity_fault name variadic (length types) (count ts))) (unless_enforced (typing_fault name types ts) (passes (call f ts)))
      ∙ unless_enforced (arity_fault name variadic (length types) (count ts)) (unless (typing_fault name types ts) (passes (call f ts)))

  vector_enforced : name_of c ≢ codes "__name__" → (s : Selector) (u : Tree) → check_tree (vector s) ≡ passes u → check_tree (enforced c (vector s)) ≡ passes (enforced c u)
  vector_enforced other (selector name cs offset at) u h =
      let two = unless_passes (name_fault name cs) (passes (vector (selector name cs offset at))) u h in
      ap (λ f. unless f (passes (vector (selector name (enforced_matchers c cs) offset at)))) (name_passes c other name cs two.0) ∙ ap enforced_verdict two.1

  pub check_enforced : name_of c ≢ codes "__name__" → (t u : Tree) → check_tree t ≡ passes u → check_tree (enforced c t) ≡ passes (enforced c u)
  check_enforced other (aggregate op e p m) u h = aggregate_enforced op e p m ∙ ap enforced_verdict h
  check_enforced other (unary e) u h = unary_enforced e ∙ ap enforced_verdict h
  check_enforced other (binary op l r m) u h =
      let b = binary_checked op l r m u h in
      checked_again op l r (enforced c l) (enforced c r) m m u (type_enforced l) (type_enforced r) (record { bool = refl; on = refl; joint = refl; grouped = refl; labels = refl }) b
      ∙ ap (λ t. passes (enforced c t)) b.is
  check_enforced other (subquery e offset at range step) u h = subquery_enforced e offset at range step ∙ ap enforced_verdict h
  check_enforced other (vector s) u h = vector_enforced other s u h
  check_enforced other (call f ts) u h = call_enforced f ts ∙ ap enforced_verdict h
  check_enforced other t u h = ap enforced_verdict h

  -- ---- builders

  pub at_enforced : (t : Tree) (m : Moment) → at_given (enforced c t) m ≡ enforced_verdict (at_given t m)
  at_enforced (vector (selector name cs offset None)) m = refl
  at_enforced (matrix (selector name cs offset None) range mode) m = refl
  at_enforced (subquery e offset None range step) m = refl
  at_enforced t m = refl

  pub offset_enforced : (t : Tree) (x : Shift) → offset_given (enforced c t) x ≡ enforced_verdict (offset_given t x)
  offset_enforced (vector (selector name cs None at)) x = refl
  offset_enforced (matrix (selector name cs None at) range mode) x = refl
  offset_enforced (subquery e None at range step) x = refl
  offset_enforced t x = refl

  pub mode_enforced : (t : Tree) (m : RangeMode) → mode_given (enforced c t) m ≡ enforced_verdict (mode_given t m)
  mode_enforced (matrix s range Plain) m = refl
  mode_enforced t m = refl

  pub args_enforced : (op : ℕ) (m : Option Clause) (ts : Trees) (u : Tree) → aggregate_args op m ts ≡ passes u → aggregate_args op m (all_enforced c ts) ≡ passes (enforced c u)
  args_enforced op m ts u e = go (is_aggregator_with_param op) ts e
    where
      go : (b : Bool) (ts : Trees) → cond b (aggregated_with op m ts) (aggregated_alone op m ts) ≡ passes u → cond b (aggregated_with op m (all_enforced c ts)) (aggregated_alone op m (all_enforced c ts)) ≡ passes (enforced c u)
      go true no_trees e = cc
      go true (first_tree p no_trees) e = cc
      go true (first_tree p (first_tree t no_trees)) e = ap enforced_verdict e
      go true (first_tree p (first_tree t (first_tree s ts))) e = cc
      go false no_trees e = cc
      go false (first_tree t no_trees) e = ap enforced_verdict e
      go false (first_tree p (first_tree t ts)) e = cc
