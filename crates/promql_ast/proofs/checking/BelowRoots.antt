-- What is below a root is well typed where each child is, and the selector of a matrix selector.
use Rattle.std.proofs.Common.{◌≡◌, ℕ, refl}
use Rattle.promql_ast.specs.Fold.{within, maybe_within, all_within}
use Rattle.promql_ast.specs.Selectors.{Selector}
use Rattle.promql_ast.specs.Tree.{Tree, aggregate, unary, binary, paren, subquery, number, string, vector, matrix, call, extension, MaybeTree, absent, present, Trees, no_trees, first_tree}
use Rattle.promql_ast.specs.Typed.{Typed, MaybeTyped, AllTyped, TypedBelow}
use Rattle.promql_ast.specs.declared.range_mode.RangeMode.{RangeMode}

param_typed : (p : MaybeTree) → maybe_within (Unit {0}) (λ A B. A × B) (λ e below. Typed e) p → MaybeTyped p
param_typed absent h = tt
param_typed (present e) h = h

all_typed : (ts : Trees) → all_within (Unit {0}) (λ A B. A × B) (λ e below. Typed e) ts → AllTyped ts
all_typed no_trees h = tt
all_typed (first_tree e es) h = (h.0, all_typed es h.1)

pub below_root : (t : Tree) → within (Unit {0}) (λ A B. A × B) (λ e below. Typed e) t
    → ((s : Selector) (range : ℕ) (mode : RangeMode) → t ≡ matrix s range mode → Typed (vector s)) → TypedBelow t
below_root (aggregate op e p m) h own = (param_typed p h.0, h.1)
below_root (unary e) h own = h
below_root (binary op l r m) h own = h
below_root (paren e) h own = h
below_root (subquery e offset at range step) h own = h
below_root (number n) h own = tt
below_root (string s) h own = tt
below_root (vector s) h own = tt
below_root (matrix s range mode) h own = own s range mode refl
below_root (call f args) h own = all_typed args h
below_root (extension name gives es) h own = all_typed es h
