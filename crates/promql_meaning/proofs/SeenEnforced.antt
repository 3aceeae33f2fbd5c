-- An enforced query sees nothing but what its matcher allows.
use Rattle.std.proofs.Common.{◌≡◌, refl, ap, Bool, true, false, cond, ◌&&◌, true≢false}
use Rattle.std.specs.Prelude.{nat_le}
use Rattle.std.specs.List.{list_any}
use Rattle.promql_label.specs.PlainMatchers.{PlainMatcher}
use Rattle.promql_kind.specs.Functions.{Signature}
use Rattle.promql_ast.specs.Arguments.{count}
use Rattle.promql_ast.specs.Tree.{Tree, aggregate, unary, binary, paren, subquery, number, string, vector, matrix, call, extension, MaybeTree, absent, present, Trees, no_trees, first_tree}
use Rattle.promql_rewrite.specs.Collecting.{nodes_of, maybe_nodes, all_nodes}
use Rattle.promql_rewrite.specs.Enforcing.{all_enforced, enforced, has_bare_info, is_bare_info, is_info, maybe_enforced}
use Rattle.promql_meaning.specs.Stores.{Store, kept}
use Rattle.promql_meaning.specs.Seen.{joined, aggregated, negated, operated, stepped, called, extended, none_seen, first_seen, seen, maybe_seen, all_seen, beside, info_beside, is_absent, nothing}
use Rattle.promql_meaning.proofs.SeenClauses.{matchers_in_first, grouped}
use Rattle.promql_meaning.proofs.NoNodes.{neither, none_apart}
use Rattle.promql_meaning.proofs.SeenSelectors.{instants_again, ranges_again}

module _ (c : PlainMatcher) (store : Store) where
  info_again : (b : Bool) (args : Trees) → (b && nat_le (count args) 1) ≡ false
      → cond b (info_beside store (all_enforced c args)) nothing ≡ cond b (info_beside (kept c store) (all_enforced c args)) nothing
  info_again false args bare = refl
  info_again true no_trees bare = absurd (true≢false bare)
  info_again true (first_tree e no_trees) bare = absurd (true≢false bare)
  info_again true (first_tree e (first_tree labels es)) bare = refl

  beside_again : (f : Signature) (args : Trees) → is_bare_info (call f args) ≡ false
      → beside store f (all_enforced c args) ≡ beside (kept c store) f (all_enforced c args)
  beside_again f args bare = ap (λ r. cond (is_absent f) (matchers_in_first (all_enforced c args)) r) (info_again (is_info f) args bare)

  mutual
    pub seen_again : (t : Tree) → has_bare_info t ≡ false → seen store (enforced c t) ≡ seen (kept c store) (enforced c t)
    seen_again (aggregate op e p m) h =
        let parts = none_apart is_bare_info (maybe_nodes p) (nodes_of e) h in
        λ i. aggregated op (seen_again e parts.1 i) (maybe_again p parts.0 i) (grouped m)
    seen_again (unary e) h = λ i. negated (seen_again e h i)
    seen_again (binary op l r m) h =
        let parts = none_apart is_bare_info (nodes_of l) (nodes_of r) h in
        λ i. operated op (seen_again l parts.0 i) (seen_again r parts.1 i) (joined m)
    seen_again (paren e) h = seen_again e h
    seen_again (subquery e offset at range step) h = λ i. stepped (seen_again e h i) offset at range step
    seen_again (number n) h = refl
    seen_again (string s) h = refl
    seen_again (vector s) h = instants_again c store s
    seen_again (matrix s range mode) h = ranges_again c store s range mode
    seen_again (call f args) h =
        let parts = neither (is_bare_info (call f args)) (list_any is_bare_info (all_nodes args)) h in
        λ i. called f (beside_again f args parts.0 i) (all_again args parts.1 i)
    seen_again (extension name gives es) h = λ i. extended name gives (all_again es h i)

    maybe_again : (p : MaybeTree) → list_any is_bare_info (maybe_nodes p) ≡ false → maybe_seen store (maybe_enforced c p) ≡ maybe_seen (kept c store) (maybe_enforced c p)
    maybe_again absent h = refl
    maybe_again (present e) h = λ i. first_seen (seen_again e h i) none_seen

    all_again : (es : Trees) → list_any is_bare_info (all_nodes es) ≡ false → all_seen store (all_enforced c es) ≡ all_seen (kept c store) (all_enforced c es)
    all_again no_trees h = refl
    all_again (first_tree e es) h =
        let parts = none_apart is_bare_info (nodes_of e) (all_nodes es) h in
        λ i. first_seen (seen_again e parts.0 i) (all_again es parts.1 i)
