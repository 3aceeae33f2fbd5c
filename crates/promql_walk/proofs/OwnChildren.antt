-- The children of a node.
use Rattle.std.proofs.Common.{◌≡◌, ◌∙◌, List, [], ◌∷◌, ◌++◌, refl, sym, ap}
use Rattle.std.specs.List.{flat_map}
use Rattle.promql_ast.specs.Fold.{all_within}
use Rattle.promql_ast.specs.Tree.{Tree, aggregate, unary, binary, paren, subquery, number, string, vector, matrix, call, extension, absent, present, Trees, no_trees, first_tree}
use Rattle.promql_ast.specs.View.{trees}
use Rattle.std.proofs.lemmas.List.{append-nil}
use Rattle.promql_walk.specs.ChangedChildren.{own_children}
use Rattle.promql_walk.specs.Children.{children, with_children}
use Rattle.promql_json.specs.Events.{around, events, inner_events, all_events}

all_are : (ts : Trees) → ts ≡ trees (all_within [] ◌++◌ (λ e below. e ∷ []) ts)
all_are no_trees = refl
all_are (first_tree e es) = ap (first_tree e) (all_are es)

pub children_are : (t : Tree) → own_children t ≡ children t
children_are (aggregate op e absent m) = refl
children_are (aggregate op e (present p) m) = refl
children_are (unary e) = refl
children_are (binary op l r m) = refl
children_are (paren e) = refl
children_are (subquery e offset at range step) = refl
children_are (number n) = refl
children_are (string s) = refl
children_are (vector s) = refl
children_are (matrix s range mode) = refl
children_are (call f args) = all_are args
children_are (extension name gives es) = all_are es

of_own : (t : Tree) → inner_events t ≡ all_events (own_children t)
of_own (aggregate op e absent m) = sym (append-nil (events e))
of_own (aggregate op e (present p) m) = ap (λ es. events p ++ es) (sym (append-nil (events e)))
of_own (unary e) = sym (append-nil (events e))
of_own (binary op l r m) = ap (λ es. events l ++ es) (sym (append-nil (events r)))
of_own (paren e) = sym (append-nil (events e))
of_own (subquery e offset at range step) = sym (append-nil (events e))
of_own (number n) = refl
of_own (string s) = refl
of_own (vector s) = refl
of_own (matrix s range mode) = refl
of_own (call f args) = refl
of_own (extension name gives es) = refl

with_own : (t : Tree) → with_children t (own_children t) ≡ t
with_own (aggregate op e absent m) = refl
with_own (aggregate op e (present p) m) = refl
with_own (unary e) = refl
with_own (binary op l r m) = refl
with_own (paren e) = refl
with_own (subquery e offset at range step) = refl
with_own (number n) = refl
with_own (string s) = refl
with_own (vector s) = refl
with_own (matrix s range mode) = refl
with_own (call f args) = refl
with_own (extension name gives es) = refl

one_by_one : (ts : List Tree) → all_events (trees ts) ≡ flat_map events ts
one_by_one [] = refl
one_by_one (t ∷ ts) = ap (λ es. events t ++ es) (one_by_one ts)

pub of_children : (t : Tree) (ts : List Tree) → children t ≡ trees ts → events t ≡ around t (flat_map events ts)
of_children t ts are = ap (around t) (of_own t ∙ ap all_events (children_are t ∙ are) ∙ one_by_one ts)

pub own : (t : Tree) → with_children t (children t) ≡ t
own t = ap (with_children t) (sym (children_are t)) ∙ with_own t
