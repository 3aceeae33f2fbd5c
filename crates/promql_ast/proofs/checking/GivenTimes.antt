-- What `@` and `offset` make of a tree, by the times that it has; and what an aggregation makes of its arguments.
use Rattle.std.proofs.Common.{◌≡◌, ℕ, Bool, true, false, Option, Some, None, refl, ap}
use Rattle.std.specs.Option.{option_map_or}
use Rattle.std.specs.Prelude.{◌≢◌, if◌then◌else◌}
use Rattle.promql_token.specs.Ids.{is_aggregator_with_param}
use Rattle.promql_kind.specs.Modifiers.{Clause}
use Rattle.promql_ast.specs.Arguments.{count}
use Rattle.promql_ast.specs.Builds.{aggregate_args, aggregated_alone, aggregated_with, at_given, offset_given, timed}
use Rattle.promql_ast.specs.Faults.{passes, rejected, node}
use Rattle.promql_ast.specs.Selectors.{selector}
use Rattle.promql_ast.specs.Shifts.{Moment, Shift}
use Rattle.promql_ast.specs.Tree.{Tree, aggregate, unary, binary, paren, subquery, number, string, vector, matrix, call, extension, absent, present, Trees, no_trees, first_tree}
use Rattle.promql_ast.specs.declared.fault.NodeFault.TheVariants.{AtTwice, AtBase, OffsetTwice, OffsetBase, NoArguments, ArgumentCount}

pub at_by_times : (t : Tree) (at : Moment) → at_given t at
    ≡ option_map_or (λ times. option_map_or (λ before. rejected (node AtTwice)) times.1 (passes (times.2 times.0 (Some at)))) (timed t) (rejected (node AtBase))
at_by_times (vector (selector name matchers offset None)) at = refl
at_by_times (vector (selector name matchers offset (Some before))) at = refl
at_by_times (matrix (selector name matchers offset None) range mode) at = refl
at_by_times (matrix (selector name matchers offset (Some before)) range mode) at = refl
at_by_times (subquery e offset None range step) at = refl
at_by_times (subquery e offset (Some before) range step) at = refl
at_by_times (aggregate op e p m) at = refl
at_by_times (unary e) at = refl
at_by_times (binary op l r m) at = refl
at_by_times (paren e) at = refl
at_by_times (number n) at = refl
at_by_times (string s) at = refl
at_by_times (call f args) at = refl
at_by_times (extension name gives es) at = refl

pub offset_by_times : (t : Tree) (offset : Shift) → offset_given t offset
    ≡ option_map_or (λ times. option_map_or (λ before. rejected (node OffsetTwice)) times.0 (passes (times.2 (Some offset) times.1))) (timed t) (rejected (node OffsetBase))
offset_by_times (vector (selector name matchers None at)) offset = refl
offset_by_times (vector (selector name matchers (Some before) at)) offset = refl
offset_by_times (matrix (selector name matchers None at) range mode) offset = refl
offset_by_times (matrix (selector name matchers (Some before) at) range mode) offset = refl
offset_by_times (subquery e None at range step) offset = refl
offset_by_times (subquery e (Some before) at range step) offset = refl
offset_by_times (aggregate op e p m) offset = refl
offset_by_times (unary e) offset = refl
offset_by_times (binary op l r m) offset = refl
offset_by_times (paren e) offset = refl
offset_by_times (number n) offset = refl
offset_by_times (string s) offset = refl
offset_by_times (call f args) offset = refl
offset_by_times (extension name gives es) offset = refl

-- ---- aggregations, for each of the two kinds of aggregators

pub without_arguments : (op : ℕ) (m : Option Clause) → aggregate_args op m no_trees ≡ rejected (node (NoArguments op))
without_arguments op m = go (is_aggregator_with_param op)
  where
    go : (b : Bool) → (if b then aggregated_with op m no_trees else aggregated_alone op m no_trees) ≡ rejected (node (NoArguments op))
    go true = refl
    go false = refl

pub with_one : (op : ℕ) (m : Option Clause) (e : Tree) → is_aggregator_with_param op ≡ false
    → aggregate_args op m (first_tree e no_trees) ≡ passes (aggregate op e absent m)
with_one op m e is = ap (λ b. if b then aggregated_with op m (first_tree e no_trees) else aggregated_alone op m (first_tree e no_trees)) is

pub with_two : (op : ℕ) (m : Option Clause) (p e : Tree) → is_aggregator_with_param op ≡ true
    → aggregate_args op m (first_tree p (first_tree e no_trees)) ≡ passes (aggregate op e (present p) m)
with_two op m p e is =
    ap (λ b. if b then aggregated_with op m (first_tree p (first_tree e no_trees)) else aggregated_alone op m (first_tree p (first_tree e no_trees))) is

pub miscounted : (op : ℕ) (m : Option Clause) (ts : Trees) → count ts ≢ 0 → count ts ≢ (if is_aggregator_with_param op then 2 else 1)
    → aggregate_args op m ts ≡ rejected (node (ArgumentCount (if is_aggregator_with_param op then 2 else 1) (count ts)))
miscounted op m ts some not = go (is_aggregator_with_param op) ts some not
  where
    go : (b : Bool) (ts : Trees) → count ts ≢ 0 → count ts ≢ (if b then 2 else 1)
        → (if b then aggregated_with op m ts else aggregated_alone op m ts) ≡ rejected (node (ArgumentCount (if b then 2 else 1) (count ts)))
    go true no_trees some not = absurd (some refl)
    go true (first_tree p no_trees) some not = refl
    go true (first_tree p (first_tree e no_trees)) some not = absurd (not refl)
    go true (first_tree p (first_tree e (first_tree f ts))) some not = refl
    go false no_trees some not = absurd (some refl)
    go false (first_tree e no_trees) some not = absurd (not refl)
    go false (first_tree e (first_tree f ts)) some not = refl
