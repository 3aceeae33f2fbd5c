-- Well typed trees (docs/reference/tree.md, "Well typed trees"): each condition by itself, on the finished tree.
use Rattle.std.specs.Prelude.{◌≡◌, ◌≢◌, ◌⊎◌, ◌≤◌, ◌+◌, ◌-◌, ℕ, ℤ, true, false, List, [], ◌∷◌, length, Option, Some, None, codes, unsigned_abs}
use Rattle.std.specs.Int.{is_negative}
use Rattle.promql_text.specs.Texts.{Text}
use Rattle.promql_token.specs.Ids.{is_aggregator, is_comparison_operator, is_operator, is_set_operator}
use Rattle.promql_label.specs.PlainMatchers.{PlainMatchers, all_match_empty, found_value}
use Rattle.promql_kind.specs.Functions.{Signature, signature}
use Rattle.promql_kind.specs.Modifiers.{Matching, matching, many_to_many}
use Rattle.promql_kind.specs.declared.value.ValueType.{ValueType}
use Rattle.promql_kind.specs.declared.value.ValueType.TheVariants.{Vector, Scalar}
use Rattle.promql_ast.specs.Arguments.{count}
use Rattle.promql_ast.specs.OptionalModifiers.{has_matching_labels, is_on, joint_labels, returns_bool}
use Rattle.promql_ast.specs.Selectors.{Selector, selector}
use Rattle.promql_ast.specs.Tree.{Tree, aggregate, unary, binary, paren, subquery, number, string, vector, matrix, call, extension, MaybeTree, absent, present, Trees, no_trees, first_tree}
use Rattle.promql_ast.specs.Types.{type_of}
use Rattle.promql_ast.specs.check.AggregateChecks.{maybe_type, param_type}
use Rattle.promql_ast.specs.check.CallChecks.{is_exempt}

-- no label is in both lists
abbrev pub IsApart : Option (List Text) → Type 0
IsApart None = Unit {0}
IsApart (Some ls) = ls ≡ []

-- the modifier is there, and matches many elements with many
abbrev pub IsManyToMany : Option Matching → Type 0
IsManyToMany None = ⊥
IsManyToMany (Some (matching card clause return_bool values)) = card ≡ many_to_many

pub record TypedBinary (op : ℕ) (l r : ValueType) (m : Option Matching) : Type 0 where
  pub operator : is_operator op ≡ true
  pub bool_on_comparison : returns_bool m ≡ true → is_comparison_operator op ≡ true
  pub scalars_with_bool : is_comparison_operator op ≡ true → l ≡ Scalar → r ≡ Scalar → returns_bool m ≡ true
  pub labels_apart : is_on m ≡ true → IsApart (joint_labels m)
  pub sets_of_vectors : is_set_operator op ≡ true → (l ≡ Vector) × (r ≡ Vector)
  pub sets_many_to_many : is_set_operator op ≡ true → IsManyToMany m
  pub left_side : (l ≡ Scalar) ⊎ (l ≡ Vector)
  pub right_side : (r ≡ Scalar) ⊎ (r ≡ Vector)
  pub matched_vectors : has_matching_labels m ≡ true → (l ≡ Vector) × (r ≡ Vector)

-- an aggregator over a vector, with a parameter of its type if it has one
abbrev pub TypedParam : Option ValueType → Option ValueType → Type 0
TypedParam None found = Unit {0}
TypedParam (Some expected) found = found ≡ Some expected

pub record TypedAggregate (op : ℕ) (e : ValueType) (p : Option ValueType) : Type 0 where
  pub aggregator : is_aggregator op ≡ true
  pub over_vector : e ≡ Vector
  pub param : TypedParam (param_type op) p

-- as many arguments as the function takes
abbrev pub TakesCount : ℤ → ℕ → ℕ → Type 0
TakesCount variadic n k =
    (unsigned_abs variadic ≡ 0 → k ≡ n)
    × (unsigned_abs variadic ≢ 0 → n - 1 ≤ k)
    × (unsigned_abs variadic ≢ 0 → is_negative variadic ≡ false → k ≤ n - 1 + unsigned_abs variadic)

-- each argument has its type, those past the list the last one; without types nothing is asked
abbrev pub TypedArgs : List ValueType → Trees → Type 0
TypedArgs [] ts = Unit {0}
TypedArgs (k ∷ ks) no_trees = Unit {0}
TypedArgs (k ∷ []) (first_tree t ts) = (type_of t ≡ k) × TypedArgs (k ∷ []) ts
TypedArgs (k ∷ j ∷ ks) (first_tree t ts) = (type_of t ≡ k) × TypedArgs (j ∷ ks) ts

pub record TypedCall (name : Text) (types : List ValueType) (variadic : ℤ) (ts : Trees) : Type 0 where
  pub arguments : TakesCount variadic (length types) (count ts)
  pub typed : is_exempt name ts ≡ false → TypedArgs types ts

-- one name at most; without one, a matcher that does not match the empty text
abbrev pub HasName : Option Text → PlainMatchers → Type 0
HasName (Some name) matchers = found_value matchers (codes "__name__") ≡ None
HasName None matchers = all_match_empty matchers ≡ false

abbrev pub TypedSelector : Selector → Type 0
TypedSelector (selector name matchers offset at) = HasName name matchers

abbrev pub TypedSignature : Signature → Trees → Type 0
TypedSignature (signature name types variadic gives experimental) ts = TypedCall name types variadic ts

-- the root of the tree is well typed
abbrev pub TypedRoot : Tree → Type 0
TypedRoot (aggregate op e p m) = TypedAggregate op (type_of e) (maybe_type p)
TypedRoot (unary e) = (type_of e ≡ Scalar) ⊎ (type_of e ≡ Vector)
TypedRoot (binary op l r m) = TypedBinary op (type_of l) (type_of r) m
TypedRoot (paren e) = Unit {0}
TypedRoot (subquery e offset at range step) = type_of e ≡ Vector
TypedRoot (number n) = Unit {0}
TypedRoot (string s) = Unit {0}
TypedRoot (vector s) = TypedSelector s
TypedRoot (matrix s range mode) = TypedSelector s
TypedRoot (call f args) = TypedSignature f args
TypedRoot (extension name gives es) = Unit {0}

-- the tree is well typed at each of its nodes
abbrev mutual
  pub Typed : Tree → Type 0
  Typed (aggregate op e p m) = TypedRoot (aggregate op e p m) × (MaybeTyped p × Typed e)
  Typed (unary e) = TypedRoot (unary e) × Typed e
  Typed (binary op l r m) = TypedRoot (binary op l r m) × (Typed l × Typed r)
  Typed (paren e) = Typed e
  Typed (subquery e offset at range step) = TypedRoot (subquery e offset at range step) × Typed e
  Typed (number n) = Unit {0}
  Typed (string s) = Unit {0}
  Typed (vector s) = TypedRoot (vector s)
  Typed (matrix s range mode) = TypedRoot (matrix s range mode)
  Typed (call f args) = TypedRoot (call f args) × AllTyped args
  Typed (extension name gives es) = AllTyped es

  pub MaybeTyped : MaybeTree → Type 0
  MaybeTyped absent = Unit {0}
  MaybeTyped (present e) = Typed e

  pub AllTyped : Trees → Type 0
  AllTyped no_trees = Unit {0}
  AllTyped (first_tree e es) = Typed e × AllTyped es

-- what is below the root is well typed: the children, and a matrix selector's selector
abbrev pub TypedBelow : Tree → Type 0
TypedBelow (aggregate op e p m) = MaybeTyped p × Typed e
TypedBelow (unary e) = Typed e
TypedBelow (binary op l r m) = Typed l × Typed r
TypedBelow (paren e) = Typed e
TypedBelow (subquery e offset at range step) = Typed e
TypedBelow (matrix s range mode) = TypedSelector s
TypedBelow (call f args) = AllTyped args
TypedBelow (extension name gives es) = AllTyped es
TypedBelow t = Unit {0}
