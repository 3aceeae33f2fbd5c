-- Trees of one outline see alike where their selectors read alike.
use Rattle.std.proofs.Common.{◌≡◌, ℕ, refl, ap, ◌∙◌, sym, false, ◌||◌, List, [], ◌∷◌, ◌++◌, append_assoc, append-nil, map}
use Rattle.std.specs.List.{list_any}
use Rattle.std.proofs.lemmas.List.{map-append}
use Rattle.std.proofs.lemmas.List.Folds.{list_any-append}
use Rattle.promql_ast.specs.Selectors.{Selector, selector}
use Rattle.promql_ast.specs.Tree.{Tree, aggregate, unary, binary, paren, subquery, number, string, vector, matrix, call, extension, MaybeTree, absent, present, Trees, no_trees, first_tree}
use Rattle.promql_ast.specs.declared.range_mode.RangeMode.{RangeMode}
use Rattle.promql_rewrite.specs.Collecting.{nodes_of, maybe_nodes, all_nodes}
use Rattle.promql_rewrite.specs.Enforcing.{is_info}
use Rattle.promql_rewrite.specs.Mapping.{KindedSelector, all_outlines, maybe_outline, outline, selectors_of}
use Rattle.promql_rewrite.specs.MappedSelectors.{arg_selectors, kind_after, param_selectors, selectors_in}
use Rattle.promql_rewrite.specs.declared.mapping.SelectorKind.{SelectorKind}
use Rattle.promql_rewrite.specs.declared.mapping.SelectorKind.TheVariants.{Series}
use Rattle.promql_meaning.specs.Stores.{Store}
use Rattle.promql_meaning.specs.Seen.{Seen, Seens, joined, aggregated, negated, operated, stepped, literal, instants, ranges, called, extended, none_seen, first_seen, seen, maybe_seen, all_seen, is_absent, nothing, sees_beside, has_call_that_sees_beside}
use Rattle.promql_meaning.proofs.SeenClauses.{instants_of, ranges_of, grouped}
use Rattle.promql_rewrite.proofs.mapped.KindedSelectors.{selectors_are}
use Rattle.promql_meaning.proofs.NoNodes.{neither, none_apart}
use Rattle.promql_meaning.proofs.SeenAtHome.{sees_nothing_beside}

-- ---- calls that see something beside their arguments are those of the outline

any_apart : (xs vs ys ws : List Tree) → list_any sees_beside xs ≡ list_any sees_beside vs → list_any sees_beside ys ≡ list_any sees_beside ws
    → list_any sees_beside (xs ++ ys) ≡ list_any sees_beside (vs ++ ws)
any_apart xs vs ys ws first second =
    list_any-append sees_beside xs ys ∙ (λ i. first i || second i) ∙ sym (list_any-append sees_beside vs ws)

mutual
  same_calls : (t : Tree) → has_call_that_sees_beside (outline t) ≡ has_call_that_sees_beside t
  same_calls (aggregate op e p m) = any_apart (maybe_nodes (maybe_outline p)) (maybe_nodes p) (nodes_of (outline e)) (nodes_of e) (maybe_same_calls p) (same_calls e)
  same_calls (unary e) = same_calls e
  same_calls (binary op l r m) = any_apart (nodes_of (outline l)) (nodes_of l) (nodes_of (outline r)) (nodes_of r) (same_calls l) (same_calls r)
  same_calls (paren e) = same_calls e
  same_calls (subquery e offset at range step) = same_calls e
  same_calls (number n) = refl
  same_calls (string s) = refl
  same_calls (vector s) = refl
  same_calls (matrix s range mode) = refl
  same_calls (call f args) = ap (λ b. (is_absent f || is_info f) || b) (all_same_calls args)
  same_calls (extension name gives es) = all_same_calls es

  maybe_same_calls : (p : MaybeTree) → list_any sees_beside (maybe_nodes (maybe_outline p)) ≡ list_any sees_beside (maybe_nodes p)
  maybe_same_calls absent = refl
  maybe_same_calls (present e) = same_calls e

  all_same_calls : (es : Trees) → list_any sees_beside (all_nodes (all_outlines es)) ≡ list_any sees_beside (all_nodes es)
  all_same_calls no_trees = refl
  all_same_calls (first_tree e es) = any_apart (nodes_of (outline e)) (nodes_of e) (all_nodes (all_outlines es)) (all_nodes es) (same_calls e) (all_same_calls es)

-- ---- what a tree sees is what its outline sees by what its selectors see

-- over a range, what is seen at an instant
abbrev over_range : Seen → ℕ → RangeMode → Seen
over_range (instants series offset at) range mode = ranges series offset at range mode
over_range other range mode = other

abbrev mutual
  -- the tree with the first of these for what its selectors see, in order, and those that are left
  see : Tree → List Seen → Seen × List Seen
  see (aggregate op e p m) vs = let a = maybe_see p vs in let b = see e a.1 in (aggregated op b.0 a.0 (grouped m), b.1)
  see (unary e) vs = let a = see e vs in (negated a.0, a.1)
  see (binary op l r m) vs = let a = see l vs in let b = see r a.1 in (operated op a.0 b.0 (joined m), b.1)
  see (paren e) vs = see e vs
  see (subquery e offset at range step) vs = let a = see e vs in (stepped a.0 offset at range step, a.1)
  see (number n) vs = (literal (number n), vs)
  see (string s) vs = (literal (string s), vs)
  see (vector s) [] = (literal (string []), [])
  see (vector s) (v ∷ vs) = (v, vs)
  see (matrix s range mode) [] = (literal (string []), [])
  see (matrix s range mode) (v ∷ vs) = (over_range v range mode, vs)
  see (call f args) vs = let a = all_see args vs in (called f nothing a.0, a.1)
  see (extension name gives es) vs = let a = all_see es vs in (extended name gives a.0, a.1)

  maybe_see : MaybeTree → List Seen → Seens × List Seen
  maybe_see absent vs = (none_seen, vs)
  maybe_see (present e) vs = let a = see e vs in (first_seen a.0 none_seen, a.1)

  all_see : Trees → List Seen → Seens × List Seen
  all_see no_trees vs = (none_seen, vs)
  all_see (first_tree e es) vs = let a = see e vs in let b = all_see es a.1 in (first_seen a.0 b.0, b.1)

module _ (store : Store) where
  abbrev view : KindedSelector → Seen
  view x = instants_of store x.1

  views_apart : (xs ys : List KindedSelector) (vs : List Seen) → map view (xs ++ ys) ++ vs ≡ map view xs ++ (map view ys ++ vs)
  views_apart xs ys vs = ap (λ v. v ++ vs) (map-append view xs ys) ∙ append_assoc (map view xs) (map view ys) vs

  selector_over_range : (s : Selector) (range : ℕ) (mode : RangeMode) → over_range (instants_of store s) range mode ≡ ranges_of store s range mode
  selector_over_range (selector name cs offset at) range mode = refl

  mutual
    sees : (k : SelectorKind) (t : Tree) (vs : List Seen) → has_call_that_sees_beside t ≡ false → see (outline t) (map view (selectors_in k t) ++ vs) ≡ (seen store t, vs)
    sees k (aggregate op e p m) vs h =
        let parts = none_apart sees_beside (maybe_nodes p) (nodes_of e) h in
        ap (see (outline (aggregate op e p m))) (views_apart (param_selectors k p) (selectors_in k e) vs)
        ∙ ap (λ (a : Seens × List Seen). let b = see (outline e) a.1 in (aggregated op b.0 a.0 (grouped m), b.1)) (maybe_sees k p (map view (selectors_in k e) ++ vs) parts.0)
        ∙ ap (λ (b : Seen × List Seen). (aggregated op b.0 (maybe_seen store p) (grouped m), b.1)) (sees k e vs parts.1)
    sees k (unary e) vs h = ap (λ (a : Seen × List Seen). (negated a.0, a.1)) (sees k e vs h)
    sees k (binary op l r m) vs h =
        let parts = none_apart sees_beside (nodes_of l) (nodes_of r) h in
        ap (see (outline (binary op l r m))) (views_apart (selectors_in k l) (selectors_in k r) vs)
        ∙ ap (λ (a : Seen × List Seen). let b = see (outline r) a.1 in (operated op a.0 b.0 (joined m), b.1)) (sees k l (map view (selectors_in k r) ++ vs) parts.0)
        ∙ ap (λ (b : Seen × List Seen). (operated op (seen store l) b.0 (joined m), b.1)) (sees k r vs parts.1)
    sees k (paren e) vs h = sees k e vs h
    sees k (subquery e offset at range step) vs h = ap (λ (a : Seen × List Seen). (stepped a.0 offset at range step, a.1)) (sees k e vs h)
    sees k (number n) vs h = refl
    sees k (string s) vs h = refl
    sees k (vector s) vs h = refl
    sees k (matrix s range mode) vs h = ap (λ v. (v, vs)) (selector_over_range s range mode)
    sees k (call f args) vs h =
        let parts = neither (is_absent f || is_info f) (list_any sees_beside (all_nodes args)) h in
        ap (λ (a : Seens × List Seen). (called f nothing a.0, a.1)) (all_sees k (kind_after f k) args vs parts.1)
        ∙ ap (λ b. (called f b (all_seen store args), vs)) (sym (sees_nothing_beside store f args parts.0))
    sees k (extension name gives es) vs h = ap (λ (a : Seens × List Seen). (extended name gives a.0, a.1)) (all_sees k k es vs h)

    maybe_sees : (k : SelectorKind) (p : MaybeTree) (vs : List Seen) → list_any sees_beside (maybe_nodes p) ≡ false → maybe_see (maybe_outline p) (map view (param_selectors k p) ++ vs) ≡ (maybe_seen store p, vs)
    maybe_sees k absent vs h = refl
    maybe_sees k (present e) vs h = ap (λ (a : Seen × List Seen). (first_seen a.0 none_seen, a.1)) (sees k e vs h)

    all_sees : (k others : SelectorKind) (es : Trees) (vs : List Seen) → list_any sees_beside (all_nodes es) ≡ false → all_see (all_outlines es) (map view (arg_selectors k others es) ++ vs) ≡ (all_seen store es, vs)
    all_sees k others no_trees vs h = refl
    all_sees k others (first_tree e es) vs h =
        let parts = none_apart sees_beside (nodes_of e) (all_nodes es) h in
        ap (all_see (all_outlines (first_tree e es))) (views_apart (selectors_in k e) (arg_selectors others others es) vs)
        ∙ ap (λ (a : Seen × List Seen). let b = all_see (all_outlines es) a.1 in (first_seen a.0 b.0, b.1)) (sees k e (map view (arg_selectors others others es) ++ vs) parts.0)
        ∙ ap (λ (b : Seens × List Seen). (first_seen (seen store e) b.0, b.1)) (all_sees others others es vs parts.1)

  sees_by_outline : (t : Tree) → has_call_that_sees_beside t ≡ false → see (outline t) (map view (selectors_of t)) ≡ (seen store t, [])
  sees_by_outline t h =
      ap (λ xs. see (outline t) (map view xs)) (selectors_are t) ∙ ap (see (outline t)) (sym (append-nil (map view (selectors_in Series t))))
      ∙ sees Series t [] h

  pub read_alike : (t u : Tree) → outline t ≡ outline u → map view (selectors_of t) ≡ map view (selectors_of u) → has_call_that_sees_beside t ≡ false → seen store t ≡ seen store u
  read_alike t u same alike h =
      let none : has_call_that_sees_beside u ≡ false = sym (same_calls u) ∙ ap has_call_that_sees_beside (sym same) ∙ same_calls t ∙ h in
      ap (λ (a : Seen × List Seen). a.0) (sym (sees_by_outline t h) ∙ (λ i. see (same i) (alike i)) ∙ sees_by_outline u none)
