-- The deepest level of a layout is that of its root, by the deepest levels of its children.
use Rattle.std.proofs.Common.{◌≡◌, ℕ, ◌+◌, max, Bool, true, false, refl, ap, arith}
use Rattle.std.specs.Prelude.{if◌then◌else◌}
use Rattle.promql_ast.specs.Fold.{within, maybe_within, all_within}
use Rattle.promql_ast.specs.Layout.{deepest, deepest_node, deepests, lines_deepest}
use Rattle.promql_ast.specs.Lines.{is_longer}
use Rattle.promql_ast.specs.NodeLines.{layout_depth, lines_depth}
use Rattle.promql_ast.specs.Text.{text}
use Rattle.promql_ast.specs.Tree.{Tree, aggregate, unary, binary, paren, subquery, number, string, vector, matrix, call, extension, MaybeTree, absent, present, Trees, no_trees, first_tree}

maybe_at : (p : MaybeTree) (level most : ℕ)
    → maybe_within (λ n. 0) (λ f g n. max (f n) (g n)) (deepest_node most) p level ≡ maybe_within 0 max (λ e below. deepest e level most) p
maybe_at absent level most = refl
maybe_at (present e) level most = refl

pub deepests_at : (ts : Trees) (level most : ℕ) → deepests ts level most ≡ all_within 0 max (λ e below. deepest e level most) ts
deepests_at no_trees level most = refl
deepests_at (first_tree e es) level most = ap (max (deepest e level most)) (deepests_at es level most)

below_at : (t : Tree) (level most : ℕ)
    → within (λ n. 0) (λ f g n. max (f n) (g n)) (deepest_node most) t level ≡ within 0 max (λ e below. deepest e level most) t
below_at (aggregate op e p m) level most = ap (λ n. max n (deepest e level most)) (maybe_at p level most)
below_at (unary e) level most = refl
below_at (binary op l r m) level most = refl
below_at (paren e) level most = refl
below_at (subquery e offset at range step) level most = refl
below_at (number n) level most = refl
below_at (string s) level most = refl
below_at (vector s) level most = refl
below_at (matrix s range mode) level most = refl
below_at (call f args) level most = deepests_at args level most
below_at (extension name gives es) level most = deepests_at es level most

none_below : (level : ℕ) → level ≡ max level 0
none_below level = omega arith

either_level : (b : Bool) (level : ℕ) → level ≡ (if b then max level 0 else level)
either_level true level = none_below level
either_level false level = refl

pub lines_depth_is : (t : Tree) (level most : ℕ) → lines_deepest t level most ≡ lines_depth t level most
lines_depth_is (aggregate op e p m) level most = ap (max level) (below_at (aggregate op e p m) (level + 1) most)
lines_depth_is (unary e) level most = refl
lines_depth_is (binary op l r m) level most = refl
lines_depth_is (paren e) level most = refl
lines_depth_is (subquery e offset at range step) level most = refl
lines_depth_is (number n) level most = none_below level
lines_depth_is (string s) level most = none_below level
lines_depth_is (vector s) level most = none_below level
lines_depth_is (matrix s range mode) level most = none_below level
lines_depth_is (call f args) level most = ap (max level) (deepests_at args (level + 1) most)
lines_depth_is (extension name gives es) level most = refl

split_or_not : (t : Tree) (level most : ℕ)
    → (if is_longer most (text t) then lines_deepest t level most else level) ≡ (if is_longer most (text t) then lines_depth t level most else level)
split_or_not t level most = ap (λ n. if is_longer most (text t) then n else level) (lines_depth_is t level most)

pub layout_depth_is : (t : Tree) (level most : ℕ) → deepest t level most ≡ layout_depth t level most
layout_depth_is (aggregate op e p m) level most = split_or_not (aggregate op e p m) level most
layout_depth_is (unary e) level most = refl
layout_depth_is (binary op l r m) level most = split_or_not (binary op l r m) level most
layout_depth_is (paren e) level most = split_or_not (paren e) level most
layout_depth_is (subquery e offset at range step) level most = refl
layout_depth_is (number n) level most = either_level (is_longer most (text (number n))) level
layout_depth_is (string s) level most = either_level (is_longer most (text (string s))) level
layout_depth_is (vector s) level most = either_level (is_longer most (text (vector s))) level
layout_depth_is (matrix s range mode) level most = either_level (is_longer most (text (matrix s range mode))) level
layout_depth_is (call f args) level most = split_or_not (call f args) level most
layout_depth_is (extension name gives es) level most = refl
