-- A query sees the same where a store has only the series that it may read.
use Rattle.std.proofs.Common.{◌≡◌, ℕ, refl, sym, ◌∙◌, ap, Bool, true, false, cond, ◌&&◌, ◌||◌, [], ◌∷◌, true≢false}
use Rattle.std.specs.Prelude.{filter, nat_le, unwrap_or}
use Rattle.promql_kind.specs.Functions.{Signature}
use Rattle.promql_kind.specs.Modifiers.{including}
use Rattle.promql_ast.specs.Arguments.{count}
use Rattle.promql_ast.specs.Selectors.{Selector, selector}
use Rattle.promql_ast.specs.declared.range_mode.RangeMode.{RangeMode}
use Rattle.promql_ast.specs.Tree.{Tree, aggregate, unary, binary, paren, subquery, number, string, vector, matrix, call, extension, MaybeTree, absent, present, Trees, no_trees, first_tree}
use Rattle.promql_rewrite.specs.Enforcing.{is_info}
use Rattle.promql_rewrite.specs.Selecting.{Series, selects}
use Rattle.promql_when.specs.MayRead.{any_may_read, may_read, maybe_may_read}
use Rattle.promql_when.specs.Reads.{is_bare_info, target_info}
use Rattle.promql_meaning.specs.Stores.{Stored, Store, read}
use Rattle.promql_meaning.specs.Seen.{joined, aggregated, negated, operated, stepped, called, extended, instants, ranges, none_seen, first_seen, seen, maybe_seen, all_seen, beside, info_beside, is_absent, nothing, series}
use Rattle.promql_meaning.proofs.Among.{found_among}
use Rattle.promql_meaning.proofs.SeenClauses.{matchers_in_first}

first_holds : (a b : Bool) → a ≡ true → (a || b) ≡ true
first_holds a b is = ap (λ a. a || b) is

second_holds : (a b : Bool) → b ≡ true → (a || b) ≡ true
second_holds true b is = refl
second_holds false b is = is

module _ (p : Stored → Bool) (store : Store) where
  -- all series that are read pass the test
  abbrev Passes : (Series → Bool) → Type 0
  Passes may = (x : Stored) → may x.labels ≡ true → p x ≡ true

  read_among : (s : Selector) → Passes (selects s) → read s store ≡ read s (filter p store)
  read_among s only = found_among (λ x. selects s x.labels) p store only

  instants_among : (s : Selector) → Passes (selects s) → seen store (vector s) ≡ seen (filter p store) (vector s)
  instants_among (selector name cs offset at) only = ap (λ r. instants r offset at) (read_among (selector name cs offset at) only)

  ranges_among : (s : Selector) (range : ℕ) (mode : RangeMode) → Passes (selects s) → seen store (matrix s range mode) ≡ seen (filter p store) (matrix s range mode)
  ranges_among (selector name cs offset at) range mode only = ap (λ r. ranges r offset at range mode) (read_among (selector name cs offset at) only)

  info_among : (b : Bool) (args : Trees) → Passes (λ s. (b && nat_le (count args) 1) && selects target_info s)
      → cond b (info_beside store args) nothing ≡ cond b (info_beside (filter p store) args) nothing
  info_among false args only = refl
  info_among true no_trees only = ap series (read_among target_info only)
  info_among true (first_tree e no_trees) only = ap series (read_among target_info only)
  info_among true (first_tree e (first_tree labels es)) only = refl

  beside_among : (f : Signature) (args : Trees) → Passes (λ s. is_bare_info f args && selects target_info s) → beside store f args ≡ beside (filter p store) f args
  beside_among f args only = ap (λ r. cond (is_absent f) (matchers_in_first args) r) (info_among (is_info f) args only)

  mutual
    pub seen_among : (t : Tree) → Passes (λ s. may_read s t) → seen store t ≡ seen (filter p store) t
    seen_among (aggregate op e param m) only =
        λ i. aggregated op (seen_among e (λ x is. only x (second_holds (maybe_may_read x.labels param) (may_read x.labels e) is)) i)
        (maybe_among param (λ x is. only x (first_holds (maybe_may_read x.labels param) (may_read x.labels e) is)) i) (unwrap_or m (including []))
    seen_among (unary e) only = λ i. negated (seen_among e only i)
    seen_among (binary op l r m) only =
        λ i. operated op (seen_among l (λ x is. only x (first_holds (may_read x.labels l) (may_read x.labels r) is)) i)
        (seen_among r (λ x is. only x (second_holds (may_read x.labels l) (may_read x.labels r) is)) i) (joined m)
    seen_among (paren e) only = seen_among e only
    seen_among (subquery e offset at range step) only = λ i. stepped (seen_among e only i) offset at range step
    seen_among (number n) only = refl
    seen_among (string s) only = refl
    seen_among (vector s) only = instants_among s only
    seen_among (matrix s range mode) only = ranges_among s range mode only
    seen_among (call f args) only =
        λ i. called f
        (beside_among f args (λ x is. only x (second_holds (any_may_read x.labels args) (is_bare_info f args && selects target_info x.labels) is)) i)
        (all_among args (λ x is. only x (first_holds (any_may_read x.labels args) (is_bare_info f args && selects target_info x.labels) is)) i)
    seen_among (extension name gives es) only = λ i. extended name gives (all_among es only i)

    maybe_among : (param : MaybeTree) → Passes (λ s. maybe_may_read s param) → maybe_seen store param ≡ maybe_seen (filter p store) param
    maybe_among absent only = refl
    maybe_among (present e) only = λ i. first_seen (seen_among e only i) none_seen

    all_among : (es : Trees) → Passes (λ s. any_may_read s es) → all_seen store es ≡ all_seen (filter p store) es
    all_among no_trees only = refl
    all_among (first_tree e es) only =
        λ i. first_seen (seen_among e (λ x is. only x (first_holds (may_read x.labels e) (any_may_read x.labels es) is)) i)
        (all_among es (λ x is. only x (second_holds (may_read x.labels e) (any_may_read x.labels es) is)) i)
