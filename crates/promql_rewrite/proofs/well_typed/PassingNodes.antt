-- A node passes unchanged exactly if its checks pass, and of a matrix selector those of its selector.
use Rattle.std.proofs.Common.{◌≡◌, ℕ, List, [], ◌∷◌, refl, subst}
use Rattle.std.specs.List.{AllByRecursion}
use Rattle.promql_ast.specs.Checked.{check_tree}
use Rattle.promql_ast.specs.Faults.{passes}
use Rattle.promql_ast.specs.Selectors.{Selector}
use Rattle.promql_ast.specs.Tree.{Tree, aggregate, unary, binary, paren, subquery, number, string, vector, matrix, call, extension}
use Rattle.promql_ast.specs.declared.range_mode.RangeMode.{RangeMode}
use Rattle.promql_rewrite.specs.CheckedNodes.{PassesUnchanged}
use Rattle.promql_rewrite.specs.Collecting.{nodes_of}
use Rattle.promql_rewrite.specs.Everywhere.{Everywhere}

node_passes : (n : Tree) → PassesUnchanged n → (check_tree n ≡ passes n)
    × ((s : Selector) (range : ℕ) (mode : RangeMode) → n ≡ matrix s range mode → check_tree (vector s) ≡ passes (vector s))
node_passes (matrix s range mode) h =
    (refl, λ u r m e. let same : s ≡ u = cc in subst (λ v. check_tree (vector v) ≡ passes (vector v)) same h)
node_passes (aggregate op e p m) h = (h, λ s r n e. cc)
node_passes (unary e) h = (h, λ s r m e. cc)
node_passes (binary op l r m) h = (h, λ s a n e. cc)
node_passes (paren e) h = (h, λ s r m e. cc)
node_passes (subquery e offset at range step) h = (h, λ s r m e. cc)
node_passes (number n) h = (h, λ s r m e. cc)
node_passes (string t) h = (h, λ s r m e. cc)
node_passes (vector v) h = (h, λ s r m e. cc)
node_passes (call f args) h = (h, λ s r m e. cc)
node_passes (extension name gives es) h = (h, λ s r m e. cc)

passes_node : (n : Tree) → (check_tree n ≡ passes n)
    × ((s : Selector) (range : ℕ) (mode : RangeMode) → n ≡ matrix s range mode → check_tree (vector s) ≡ passes (vector s)) → PassesUnchanged n
passes_node (matrix s range mode) h = h.1 s range mode refl
passes_node (aggregate op e p m) h = h.0
passes_node (unary e) h = h.0
passes_node (binary op l r m) h = h.0
passes_node (paren e) h = h.0
passes_node (subquery e offset at range step) h = h.0
passes_node (number n) h = h.0
passes_node (string t) h = h.0
passes_node (vector v) h = h.0
passes_node (call f args) h = h.0
passes_node (extension name gives es) h = h.0

all_so : (P Q : Tree → Type 0) → ((t : Tree) → P t → Q t) → (ts : List Tree) → AllByRecursion P ts → AllByRecursion Q ts
all_so P Q so [] h = tt
all_so P Q so (t ∷ ts) h = (so t h.0, all_so P Q so ts h.1)

pub nodes_pass : (t : Tree) → Everywhere PassesUnchanged t → Everywhere (λ n. (check_tree n ≡ passes n)
    × ((s : Selector) (range : ℕ) (mode : RangeMode) → n ≡ matrix s range mode → check_tree (vector s) ≡ passes (vector s))) t
nodes_pass t h = all_so _ _ node_passes (nodes_of t) h

pub pass_nodes : (t : Tree) → Everywhere (λ n. (check_tree n ≡ passes n)
    × ((s : Selector) (range : ℕ) (mode : RangeMode) → n ≡ matrix s range mode → check_tree (vector s) ≡ passes (vector s))) t → Everywhere PassesUnchanged t
pass_nodes t h = all_so _ _ passes_node (nodes_of t) h
