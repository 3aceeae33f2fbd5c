-- A tree keeps its type, its parts and its patterns where parentheses are added, it stays well typed, and grows little.
use Rattle.std.proofs.Common.{◌≡◌, ◌⊎◌, ◌+◌, ◌*◌, ◌≤◌, ◌<◌, ℕ, refl, sym, ◌∙◌, ap, subst, arith, Bool, true, false, cond, Option, Some, List, [], ◌∷◌, length}
use Rattle.std.specs.Option.{option_map_or}
use Rattle.promql_text.specs.Texts.{Text}
use Rattle.promql_text.specs.Values.{is_below_zero}
use Rattle.promql_text.specs.declared.number.Number.{Number}
use Rattle.promql_label.specs.Answers.{Answer}
use Rattle.promql_kind.specs.Functions.{Signature, signature}
use Rattle.promql_kind.specs.Modifiers.{Clause, Matching}
use Rattle.promql_kind.specs.declared.value.ValueType.{ValueType}
use Rattle.promql_kind.specs.declared.value.ValueType.TheVariants as kind
use Rattle.promql_ast.specs.Arguments.{count}
use Rattle.promql_ast.specs.Builds.{scalar_value}
use Rattle.promql_ast.specs.Shifts.{Shift, Moment}
use Rattle.promql_ast.specs.Tree.{Tree, aggregate, unary, binary, paren, subquery, number, string, vector, matrix, call, extension, MaybeTree, absent, present, Trees, no_trees, first_tree}
use Rattle.promql_ast.specs.Typed.{AllTyped, MaybeTyped, TakesCount, Typed, TypedAggregate, TypedArgs, TypedBinary, TypedSignature}
use Rattle.promql_ast.specs.Types.{type_of}
use Rattle.promql_ast.specs.check.AggregateChecks.{maybe_type}
use Rattle.promql_ast.specs.check.CallChecks.{is_exempt, is_exempt_number}
use Rattle.promql_ast.specs.node.Binary.{binary_type}
use Rattle.promql_rewrite.specs.Parenthesizing.{all_parenthesized, at_place, fits_left, fits_range, fits_right, fits_sign, maybe_parenthesized, parenthesized}
use Rattle.promql_rewrite.specs.Throughout.{Throughout, ThroughoutAll, ThroughoutMaybe}
use Rattle.promql_rewrite.specs.PrintableNodes.{HasNodeParts, has_param}
use Rattle.promql_rewrite.specs.PrintableTrees.{PatternsAnswered, all_printed_height, maybe_printed_height, printed_height}

-- ---- types

type_there : (fits : Tree → Bool) (t u : Tree) → type_of u ≡ type_of t → type_of (at_place fits u) ≡ type_of t
type_there fits t u e = go (fits u)
  where
    go : (b : Bool) → type_of (cond b u (paren u)) ≡ type_of t
    go true = e
    go false = e

pub type_kept : (t : Tree) → type_of (parenthesized t) ≡ type_of t
type_kept (aggregate op e p m) = refl
type_kept (unary e) = type_there fits_sign e (parenthesized e) (type_kept e)
type_kept (binary op l r m) =
    let a = type_there (fits_left op) l (parenthesized l) (type_kept l) in
    let b = type_there (fits_right op) r (parenthesized r) (type_kept r) in
    λ i. binary_type (a i) (b i)
type_kept (paren e) = type_kept e
type_kept (subquery e offset at range step) = refl
type_kept (number n) = refl
type_kept (string s) = refl
type_kept (vector s) = refl
type_kept (matrix s range mode) = refl
type_kept (call f ts) = refl
type_kept (extension name gives ts) = refl

maybe_type_kept : (p : MaybeTree) → maybe_type (maybe_parenthesized p) ≡ maybe_type p
maybe_type_kept absent = refl
maybe_type_kept (present e) = ap Some (type_kept e)

-- ---- arguments

scalar_kept : (t : Tree) → scalar_value (parenthesized t) ≡ scalar_value t
scalar_kept (number n) = refl
scalar_kept t = refl

count_kept : (ts : Trees) → count (all_parenthesized ts) ≡ count ts
count_kept no_trees = refl
count_kept (first_tree t ts) = λ i. count_kept ts i + 1

args_kept : (ks : List ValueType) (ts : Trees) → TypedArgs ks ts → TypedArgs ks (all_parenthesized ts)
args_kept [] ts h = tt
args_kept (k ∷ []) no_trees h = h
args_kept (k ∷ j ∷ ks) no_trees h = h
args_kept (k ∷ []) (first_tree t ts) h = (type_kept t ∙ h.0, args_kept (k ∷ []) ts h.1)
args_kept (k ∷ j ∷ ks) (first_tree t ts) h = (type_kept t ∙ h.0, args_kept (j ∷ ks) ts h.1)

exempt_kept : (name : Text) (ts : Trees) → is_exempt name (all_parenthesized ts) ≡ is_exempt name ts
exempt_kept name no_trees = refl
exempt_kept name (first_tree t ts) = ap (λ o. option_map_or (λ n. is_exempt_number name (Some n)) o false) (scalar_kept t)

call_kept : (f : Signature) (ts : Trees) → TypedSignature f ts → TypedSignature f (all_parenthesized ts)
call_kept (signature name types variadic gives experimental) ts h = record {
  arguments = subst (λ n. TakesCount variadic (length types) n) (sym (count_kept ts)) h.arguments;
  typed = λ e. args_kept types ts (h.typed (sym (exempt_kept name ts) ∙ e));
}

-- ---- well typed trees

typed_there : (fits : Tree → Bool) (t : Tree) → Typed t → Typed (at_place fits t)
typed_there fits t h = go (fits t)
  where
    go : (b : Bool) → Typed (cond b t (paren t))
    go true = h
    go false = h

mutual
  pub typed_kept : (t : Tree) → Typed t → Typed (parenthesized t)
  typed_kept (aggregate op e p m) h = (
    subst (λ k. TypedAggregate op k (maybe_type (maybe_parenthesized p))) (sym (type_kept e)) (subst (λ k. TypedAggregate op (type_of e) k) (sym (maybe_type_kept p)) h.0),
    (maybe_typed_kept p h.1.0, typed_kept e h.1.1),
  )
  typed_kept (unary e) h = (
    subst (λ k. (k ≡ kind.Scalar) ⊎ (k ≡ kind.Vector)) (sym (type_there fits_sign e (parenthesized e) (type_kept e))) h.0,
    typed_there fits_sign (parenthesized e) (typed_kept e h.1),
  )
  typed_kept (binary op l r m) h =
      let a = type_there (fits_left op) l (parenthesized l) (type_kept l) in
      let b = type_there (fits_right op) r (parenthesized r) (type_kept r) in (
        subst (λ k. TypedBinary op k (type_of (at_place (fits_right op) (parenthesized r))) m) (sym a) (subst (λ k. TypedBinary op (type_of l) k m) (sym b) h.0),
        (typed_there (fits_left op) (parenthesized l) (typed_kept l h.1.0), typed_there (fits_right op) (parenthesized r) (typed_kept r h.1.1)),
      )
  typed_kept (paren e) h = typed_kept e h
  typed_kept (subquery e offset at range step) h =
      (type_there fits_range e (parenthesized e) (type_kept e) ∙ h.0, typed_there fits_range (parenthesized e) (typed_kept e h.1))
  typed_kept (number n) h = h
  typed_kept (string s) h = h
  typed_kept (vector s) h = h
  typed_kept (matrix s range mode) h = h
  typed_kept (call f ts) h = (call_kept f ts h.0, all_typed_kept ts h.1)
  typed_kept (extension name gives ts) h = all_typed_kept ts h

  maybe_typed_kept : (p : MaybeTree) → MaybeTyped p → MaybeTyped (maybe_parenthesized p)
  maybe_typed_kept absent h = h
  maybe_typed_kept (present e) h = typed_kept e h

  all_typed_kept : (ts : Trees) → AllTyped ts → AllTyped (all_parenthesized ts)
  all_typed_kept no_trees h = h
  all_typed_kept (first_tree t ts) h = (typed_kept t h.0, all_typed_kept ts h.1)

-- ---- parts and patterns

-- what a node says does not look at its children, but for whether there is a parameter
module _ (P : Tree → Type 0) (parens : (t : Tree) → P (paren t))
    (aggregates : (op : ℕ) (e f : Tree) (p : MaybeTree) (m : Option Clause) → P (aggregate op e p m) → P (aggregate op f (maybe_parenthesized p) m))
    (signs : (e f : Tree) → P (unary e) → P (unary f))
    (sides : (op : ℕ) (l r k s : Tree) (m : Option Matching) → P (binary op l r m) → P (binary op k s m))
    (ranged : (e f : Tree) (offset : Option Shift) (at : Option Moment) (range : ℕ) (step : Option ℕ) → P (subquery e offset at range step) → P (subquery f offset at range step))
    (calls : (f : Signature) (ts us : Trees) → P (call f ts) → P (call f us))
    (extensions : (name : Text) (gives : ValueType) (ts us : Trees) → P (extension name gives ts) → P (extension name gives us)) where
  there : (fits : Tree → Bool) (t : Tree) → Throughout P t → Throughout P (at_place fits t)
  there fits t h = go (fits t)
    where
      go : (b : Bool) → Throughout P (cond b t (paren t))
      go true = h
      go false = (parens t, h)

  mutual
    pub kept : (t : Tree) → Throughout P t → Throughout P (parenthesized t)
    kept (aggregate op e p m) h = (aggregates op e (parenthesized e) p m h.0, maybe_kept p h.1, kept e h.2)
    kept (unary e) h = (signs e (at_place fits_sign (parenthesized e)) h.0, there fits_sign (parenthesized e) (kept e h.1))
    kept (binary op l r m) h = (
      sides op l r (at_place (fits_left op) (parenthesized l)) (at_place (fits_right op) (parenthesized r)) m h.0,
      there (fits_left op) (parenthesized l) (kept l h.1),
      there (fits_right op) (parenthesized r) (kept r h.2),
    )
    kept (paren e) h = (parens (parenthesized e), kept e h.1)
    kept (subquery e offset at range step) h =
        (ranged e (at_place fits_range (parenthesized e)) offset at range step h.0, there fits_range (parenthesized e) (kept e h.1))
    kept (number n) h = h
    kept (string s) h = h
    kept (vector s) h = h
    kept (matrix s range mode) h = h
    kept (call f ts) h = (calls f ts (all_parenthesized ts) h.0, all_kept ts h.1)
    kept (extension name gives ts) h = (extensions name gives ts (all_parenthesized ts) h.0, all_kept ts h.1)

    maybe_kept : (p : MaybeTree) → ThroughoutMaybe P p → ThroughoutMaybe P (maybe_parenthesized p)
    maybe_kept absent h = h
    maybe_kept (present e) h = kept e h

    all_kept : (ts : Trees) → ThroughoutAll P ts → ThroughoutAll P (all_parenthesized ts)
    all_kept no_trees h = h
    all_kept (first_tree t ts) h = (kept t h.0, all_kept ts h.1)

param_kept : (p : MaybeTree) → has_param (maybe_parenthesized p) ≡ has_param p
param_kept absent = refl
param_kept (present e) = refl

pub parts_kept : (t : Tree) → Throughout HasNodeParts t → Throughout HasNodeParts (parenthesized t)
parts_kept t h = kept HasNodeParts (λ t. tt) (λ op e f p m h. param_kept p ∙ h) (λ e f h. tt) (λ op l r k s m h. h) (λ e f offset at range step h. h) (λ f ts us h. h) (λ name gives ts us h. h) t h

pub answered_kept : (g : Text → Answer) (t : Tree) → Throughout (PatternsAnswered g) t → Throughout (PatternsAnswered g) (parenthesized t)
answered_kept g t h = kept (PatternsAnswered g) (λ t. tt) (λ op e f p m h. tt) (λ e f h. tt) (λ op l r k s m h. tt) (λ e f offset at range step h. tt) (λ f ts us h. tt) (λ name gives ts us h. tt) t h

-- ---- heights

height_there : (fits : Tree → Bool) (t : Tree) → printed_height (at_place fits t) ≤ 1 + printed_height t
height_there fits t = go (fits t)
  where
    go : (b : Bool) → printed_height (cond b t (paren t)) ≤ 1 + printed_height t
    go true = omega arith
    go false = omega arith

number_low : (n : Number) → printed_height (number n) < 2 * printed_height (number n)
number_low n = go (is_below_zero n)
  where
    go : (b : Bool) → cond b 2 1 < 2 * cond b 2 1
    go true = omega arith
    go false = omega arith

mutual
  pub low_kept : (t : Tree) → printed_height (parenthesized t) < 2 * printed_height t
  low_kept (aggregate op e p m) = omega (arith, low_kept e, maybe_low_kept p)
  low_kept (unary e) = omega (arith, height_there fits_sign (parenthesized e), low_kept e)
  low_kept (binary op l r m) = omega (arith, height_there (fits_left op) (parenthesized l), height_there (fits_right op) (parenthesized r), low_kept l, low_kept r)
  low_kept (paren e) = omega (arith, low_kept e)
  low_kept (subquery e offset at range step) = omega (arith, height_there fits_range (parenthesized e), low_kept e)
  low_kept (number n) = number_low n
  low_kept (string s) = omega arith
  low_kept (vector s) = omega arith
  low_kept (matrix s range mode) = omega arith
  low_kept (call f ts) = omega (arith, all_low_kept ts)
  low_kept (extension name gives ts) = omega (arith, all_low_kept ts)

  maybe_low_kept : (p : MaybeTree) → maybe_printed_height (maybe_parenthesized p) ≤ 2 * maybe_printed_height p
  maybe_low_kept absent = omega arith
  maybe_low_kept (present e) = omega (arith, low_kept e)

  all_low_kept : (ts : Trees) → all_printed_height (all_parenthesized ts) ≤ 2 * all_printed_height ts
  all_low_kept no_trees = omega arith
  all_low_kept (first_tree t ts) = omega (arith, low_kept t, all_low_kept ts)
