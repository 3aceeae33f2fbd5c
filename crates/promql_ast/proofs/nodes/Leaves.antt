-- Leaves by their heights, and number literals.
use Rattle.std.proofs.Common.{◌≡◌, true, Some, refl, ap, arith}
use Rattle.std.specs.Option.{option_map_or}
use Rattle.std.specs.Prelude.{◌≢◌, ◌↔◌}
use Rattle.promql_text.specs.Texts.{Text}
use Rattle.promql_text.specs.Values.{neg}
use Rattle.promql_text.specs.declared.number.Number.{Number}
use Rattle.promql_kind.specs.Functions.{Signature}
use Rattle.promql_kind.specs.declared.value.ValueType.{ValueType}
use Rattle.promql_ast.specs.Builds.{negate_tree, scalar_value}
use Rattle.promql_ast.specs.Height.{height}
use Rattle.promql_ast.specs.Layout.{is_leaf}
use Rattle.promql_ast.specs.Tree.{Tree, aggregate, unary, binary, paren, subquery, number, string, vector, matrix, call, extension, Trees, absent, present}

lowest : (t : Tree) → is_leaf t ≡ true
    → (height t ≡ 1) × ((f : Signature) (args : Trees) → t ≢ call f args) × ((name : Text) (gives : ValueType) (es : Trees) → t ≢ extension name gives es)
lowest (number n) h = (refl, (λ f args e. cc), (λ name gives es e. cc))
lowest (string s) h = (refl, (λ f args e. cc), (λ name gives es e. cc))
lowest (vector s) h = (refl, (λ f args e. cc), (λ name gives es e. cc))
lowest (matrix s range mode) h = (refl, (λ f args e. cc), (λ name gives es e. cc))
lowest (aggregate op e p m) h = cc
lowest (unary e) h = cc
lowest (binary op l r m) h = cc
lowest (paren e) h = cc
lowest (subquery e offset at range step) h = cc
lowest (call f args) h = cc
lowest (extension name gives es) h = cc

leaf : (t : Tree)
    → ((height t ≡ 1) × ((f : Signature) (args : Trees) → t ≢ call f args) × ((name : Text) (gives : ValueType) (es : Trees) → t ≢ extension name gives es))
    → is_leaf t ≡ true
leaf (number n) h = refl
leaf (string s) h = refl
leaf (vector s) h = refl
leaf (matrix s range mode) h = refl
leaf (aggregate op e absent m) h = let one = h.0 in absurd (omega arith)
leaf (aggregate op e (present p) m) h = let one = h.0 in absurd (omega arith)
leaf (unary e) h = let one = h.0 in absurd (omega arith)
leaf (binary op l r m) h = let one = h.0 in absurd (omega arith)
leaf (paren e) h = let one = h.0 in absurd (omega arith)
leaf (subquery e offset at range step) h = let one = h.0 in absurd (omega arith)
leaf (call f args) h = absurd (h.1 f args refl)
leaf (extension name gives es) h = absurd (h.2 name gives es refl)

pub leaf_is : (t : Tree) → (is_leaf t ≡ true)
    ↔ ((height t ≡ 1) × ((f : Signature) (args : Trees) → t ≢ call f args) × ((name : Text) (gives : ValueType) (es : Trees) → t ≢ extension name gives es))
leaf_is t = (lowest t, leaf t)

is_number : (t : Tree) (n : Number) → scalar_value t ≡ Some n → t ≡ number n
is_number (number m) n h = cc
is_number (aggregate op e p m) n h = cc
is_number (unary e) n h = cc
is_number (binary op l r m) n h = cc
is_number (paren e) n h = cc
is_number (subquery e offset at range step) n h = cc
is_number (string s) n h = cc
is_number (vector s) n h = cc
is_number (matrix s range mode) n h = cc
is_number (call f args) n h = cc
is_number (extension name gives es) n h = cc

pub scalar_is : (t : Tree) (n : Number) → (scalar_value t ≡ Some n) ↔ (t ≡ number n)
scalar_is t n = (is_number t n, (λ e. ap scalar_value e))

pub negated_is : (t : Tree) → negate_tree t ≡ option_map_or (λ n. number (neg n)) (scalar_value t) (unary t)
negated_is (number m) = refl
negated_is (aggregate op e p m) = refl
negated_is (unary e) = refl
negated_is (binary op l r m) = refl
negated_is (paren e) = refl
negated_is (subquery e offset at range step) = refl
negated_is (string s) = refl
negated_is (vector s) = refl
negated_is (matrix s range mode) = refl
negated_is (call f args) = refl
negated_is (extension name gives es) = refl
