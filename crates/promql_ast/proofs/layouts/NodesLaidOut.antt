-- The layout of a tree is that of its root, by the layouts of its children.
use Rattle.std.proofs.Common.{◌≡◌, ℕ, ◌+◌, Bool, true, false, [], ◌∷◌, ◌++◌, codes, refl, sym, ap, append_assoc, append-nil}
use Rattle.std.specs.Prelude.{if◌then◌else◌}
use Rattle.promql_text.specs.Texts.{Text, joined_text}
use Rattle.promql_token.specs.Ids.{text_of}
use Rattle.promql_kind.specs.Functions.{name_of}
use Rattle.promql_ast.specs.Fold.{all_within}
use Rattle.promql_ast.specs.Layout.{layout_of, layouts_of, lines}
use Rattle.promql_ast.specs.Lines.{indent, is_longer}
use Rattle.promql_ast.specs.NodeLines.{node_lines, node_layout}
use Rattle.promql_ast.specs.Text.{text}
use Rattle.promql_ast.specs.Tree.{Tree, aggregate, unary, binary, paren, subquery, number, string, vector, matrix, call, extension, absent, present, Trees, no_trees, first_tree}
use Rattle.promql_ast.specs.node.Aggregate.{clause_text}

layouts_within : (ts : Trees) (level most : ℕ) → layouts_of ts level most ≡ all_within [] ◌++◌ (λ e below. layout_of e level most ∷ []) ts
layouts_within no_trees level most = refl
layouts_within (first_tree e es) level most = ap (λ xs. layout_of e level most ∷ xs) (layouts_within es level most)

alone : (before e rest : Text) → before ++ (codes "(\n" ++ (e ++ rest)) ≡ before ++ (codes "(\n" ++ ((e ++ []) ++ rest))
alone before e rest = ap (λ x. before ++ (codes "(\n" ++ (x ++ rest))) (sym (append-nil e))

after_param : (name p e rest : Text)
    → name ++ (codes "(\n" ++ ((p ++ codes ",\n") ++ (e ++ rest))) ≡ name ++ (codes "(\n" ++ ((p ++ ((codes ",\n" ++ e) ++ [])) ++ rest))
after_param name p e rest = simp (append_assoc, append-nil)

pub lines_are : (t : Tree) (level most : ℕ) → lines t level most ≡ node_lines t level most
lines_are (aggregate op e absent m) level most =
    ap (λ x. indent level ++ x) (alone (text_of op ++ clause_text m) (layout_of e (level + 1) most) (codes "\n" ++ (indent level ++ codes ")")))
lines_are (aggregate op e (present p) m) level most =
    ap (λ x. indent level ++ x)
    (after_param (text_of op ++ clause_text m) (layout_of p (level + 1) most) (layout_of e (level + 1) most) (codes "\n" ++ (indent level ++ codes ")")))
lines_are (unary e) level most = refl
lines_are (binary op l r m) level most = refl
lines_are (paren e) level most = ap (λ x. indent level ++ x) (alone [] (layout_of e (level + 1) most) (codes "\n" ++ (indent level ++ codes ")")))
lines_are (subquery e offset at range step) level most = refl
lines_are (number n) level most = refl
lines_are (string s) level most = refl
lines_are (vector s) level most = refl
lines_are (matrix s range mode) level most = refl
lines_are (call f args) level most =
    ap (λ xs. indent level ++ (name_of f ++ (codes "(\n" ++ (joined_text (codes ",\n") xs ++ (codes "\n" ++ (indent level ++ codes ")"))))))
    (layouts_within args (level + 1) most)
lines_are (extension name gives es) level most = refl

either_way : (b : Bool) (x : Text) → x ≡ (if b then x else x)
either_way true x = refl
either_way false x = refl

split_or_not : (t : Tree) (level most : ℕ)
    → (if is_longer most (text t) then lines t level most else indent level ++ text t) ≡ (if is_longer most (text t) then node_lines t level most else indent level ++ text t)
split_or_not t level most = ap (λ x. if is_longer most (text t) then x else indent level ++ text t) (lines_are t level most)

pub layout_is : (t : Tree) (level most : ℕ) → layout_of t level most ≡ node_layout t level most
layout_is (aggregate op e p m) level most = split_or_not (aggregate op e p m) level most
layout_is (unary e) level most = refl
layout_is (binary op l r m) level most = split_or_not (binary op l r m) level most
layout_is (paren e) level most = split_or_not (paren e) level most
layout_is (subquery e offset at range step) level most = refl
layout_is (number n) level most = either_way _ _
layout_is (string s) level most = either_way _ _
layout_is (vector s) level most = either_way _ _
layout_is (matrix s range mode) level most = either_way _ _
layout_is (call f args) level most = split_or_not (call f args) level most
layout_is (extension name gives es) level most = refl
