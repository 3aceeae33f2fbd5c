-- Where a store has only what the matcher allows, an enforced query sees what the query sees.
use Rattle.std.proofs.Common.{◌≡◌, refl, ap, ◌∙◌, sym, false, cond, ◌||◌}
use Rattle.std.specs.List.{list_any}
use Rattle.promql_label.specs.PlainMatchers.{PlainMatcher}
use Rattle.promql_kind.specs.Functions.{Signature}
use Rattle.promql_ast.specs.Tree.{Tree, aggregate, unary, binary, paren, subquery, number, string, vector, matrix, call, extension, MaybeTree, absent, present, Trees, no_trees, first_tree}
use Rattle.promql_rewrite.specs.Collecting.{nodes_of, maybe_nodes, all_nodes}
use Rattle.promql_rewrite.specs.Enforcing.{all_enforced, enforced, is_info, maybe_enforced}
use Rattle.promql_meaning.specs.Stores.{Store, kept}
use Rattle.promql_meaning.specs.Seen.{joined, aggregated, negated, operated, stepped, called, extended, none_seen, first_seen, seen, maybe_seen, all_seen, beside, info_beside, is_absent, nothing, sees_beside, has_call_that_sees_beside}
use Rattle.promql_meaning.proofs.SeenClauses.{matchers_in_first, grouped}
use Rattle.promql_meaning.proofs.NoNodes.{neither, none_apart}
use Rattle.promql_meaning.proofs.SeenSelectors.{instants_at_home, ranges_at_home}

pub sees_nothing_beside : (store : Store) (f : Signature) (args : Trees) → (is_absent f || is_info f) ≡ false → beside store f args ≡ nothing
sees_nothing_beside store f args none =
    let parts = neither (is_absent f) (is_info f) none in
    ap (λ b. cond b (matchers_in_first args) (cond (is_info f) (info_beside store args) nothing)) parts.0
    ∙ ap (λ b. cond b (info_beside store args) nothing) parts.1

module _ (c : PlainMatcher) (store : Store) where
  mutual
    pub seen_at_home : (t : Tree) → has_call_that_sees_beside t ≡ false → seen (kept c store) (enforced c t) ≡ seen (kept c store) t
    seen_at_home (aggregate op e p m) h =
        let parts = none_apart sees_beside (maybe_nodes p) (nodes_of e) h in
        λ i. aggregated op (seen_at_home e parts.1 i) (maybe_at_home p parts.0 i) (grouped m)
    seen_at_home (unary e) h = λ i. negated (seen_at_home e h i)
    seen_at_home (binary op l r m) h =
        let parts = none_apart sees_beside (nodes_of l) (nodes_of r) h in
        λ i. operated op (seen_at_home l parts.0 i) (seen_at_home r parts.1 i) (joined m)
    seen_at_home (paren e) h = seen_at_home e h
    seen_at_home (subquery e offset at range step) h = λ i. stepped (seen_at_home e h i) offset at range step
    seen_at_home (number n) h = refl
    seen_at_home (string s) h = refl
    seen_at_home (vector s) h = instants_at_home c store s
    seen_at_home (matrix s range mode) h = ranges_at_home c store s range mode
    seen_at_home (call f args) h =
        let parts = neither (is_absent f || is_info f) (list_any sees_beside (all_nodes args)) h in
        let same = sees_nothing_beside (kept c store) f (all_enforced c args) parts.0 ∙ sym (sees_nothing_beside (kept c store) f args parts.0) in
        λ i. called f (same i) (all_at_home args parts.1 i)
    seen_at_home (extension name gives es) h = λ i. extended name gives (all_at_home es h i)

    maybe_at_home : (p : MaybeTree) → list_any sees_beside (maybe_nodes p) ≡ false → maybe_seen (kept c store) (maybe_enforced c p) ≡ maybe_seen (kept c store) p
    maybe_at_home absent h = refl
    maybe_at_home (present e) h = λ i. first_seen (seen_at_home e h i) none_seen

    all_at_home : (es : Trees) → list_any sees_beside (all_nodes es) ≡ false → all_seen (kept c store) (all_enforced c es) ≡ all_seen (kept c store) es
    all_at_home no_trees h = refl
    all_at_home (first_tree e es) h =
        let parts = none_apart sees_beside (nodes_of e) (all_nodes es) h in
        λ i. first_seen (seen_at_home e parts.0 i) (all_at_home es parts.1 i)
