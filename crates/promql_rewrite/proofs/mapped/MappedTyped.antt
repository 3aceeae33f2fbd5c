-- A tree is well typed exactly if its outline is, and its selectors are.
use Rattle.std.proofs.Common.{◌≡◌, ◌⊎◌, ◌↔◌, ◌+◌, ℕ, refl, sym, ◌∙◌, ap, subst, false, Option, Some, List, [], ◌∷◌, ◌++◌, length}
use Rattle.std.specs.List.{AllByRecursion}
use Rattle.std.specs.Option.{option_map_or}
use Rattle.promql_text.specs.Texts.{Text}
use Rattle.promql_kind.specs.Functions.{Signature, signature}
use Rattle.promql_kind.specs.declared.value.ValueType.{ValueType}
use Rattle.promql_kind.specs.declared.value.ValueType.TheVariants as kind
use Rattle.promql_kind.specs.Modifiers.{Matching}
use Rattle.promql_ast.specs.Arguments.{count}
use Rattle.promql_ast.specs.Builds.{scalar_value}
use Rattle.promql_ast.specs.Tree.{Tree, aggregate, unary, binary, paren, subquery, number, string, vector, matrix, call, extension, MaybeTree, absent, present, Trees, no_trees, first_tree}
use Rattle.promql_ast.specs.Typed.{AllTyped, MaybeTyped, TakesCount, Typed, TypedAggregate, TypedArgs, TypedBinary, TypedSelector, TypedSignature}
use Rattle.promql_ast.specs.Types.{type_of}
use Rattle.promql_ast.specs.check.AggregateChecks.{maybe_type}
use Rattle.promql_ast.specs.check.CallChecks.{is_exempt, is_exempt_number}
use Rattle.promql_rewrite.specs.Mapping.{KindedSelector, all_outlines, maybe_outline, outline, selectors_of}
use Rattle.promql_rewrite.specs.MappedSelectors.{arg_selectors, kind_after, param_selectors, selectors_in}
use Rattle.promql_rewrite.specs.declared.mapping.SelectorKind.{SelectorKind}
use Rattle.promql_rewrite.specs.declared.mapping.SelectorKind.TheVariants.{Series}
use Rattle.promql_rewrite.proofs.mapped.MappedTrees.{type_outline}
use Rattle.promql_rewrite.proofs.mapped.KindedSelectors.{selectors_are}

-- ---- the selectors of a list

abbrev TypedEach : List KindedSelector → Type 0
TypedEach xs = AllByRecursion (λ (x : KindedSelector). TypedSelector x.1) xs

parts : (xs ys : List KindedSelector) → TypedEach (xs ++ ys) → TypedEach xs × TypedEach ys
parts [] ys h = (tt, h)
parts (x ∷ xs) ys h = let more = parts xs ys h.1 in ((h.0, more.0), more.1)

-- ---- roots

maybe_type_outline : (p : MaybeTree) → maybe_type (maybe_outline p) ≡ maybe_type p
maybe_type_outline absent = refl
maybe_type_outline (present e) = ap Some (type_outline e)

scalar_outline : (t : Tree) → scalar_value (outline t) ≡ scalar_value t
scalar_outline (number n) = refl
scalar_outline t = refl

count_outline : (ts : Trees) → count (all_outlines ts) ≡ count ts
count_outline no_trees = refl
count_outline (first_tree t ts) = λ i. count_outline ts i + 1

exempt_outline : (name : Text) (ts : Trees) → is_exempt name (all_outlines ts) ≡ is_exempt name ts
exempt_outline name no_trees = refl
exempt_outline name (first_tree t ts) = ap (λ o. option_map_or (λ n. is_exempt_number name (Some n)) o false) (scalar_outline t)

args_outline : (ks : List ValueType) (ts : Trees) → TypedArgs ks (all_outlines ts) ↔ TypedArgs ks ts
args_outline [] ts = (λ h. h, λ h. h)
args_outline (k ∷ []) no_trees = (λ h. h, λ h. h)
args_outline (k ∷ j ∷ ks) no_trees = (λ h. h, λ h. h)
args_outline (k ∷ []) (first_tree t ts) =
    let more = args_outline (k ∷ []) ts in
    (λ h. (sym (type_outline t) ∙ h.0, more.0 h.1), λ h. (type_outline t ∙ h.0, more.1 h.1))
args_outline (k ∷ j ∷ ks) (first_tree t ts) =
    let more = args_outline (j ∷ ks) ts in
    (λ h. (sym (type_outline t) ∙ h.0, more.0 h.1), λ h. (type_outline t ∙ h.0, more.1 h.1))

call_outline : (f : Signature) (ts : Trees) → TypedSignature f (all_outlines ts) ↔ TypedSignature f ts
call_outline (signature name types variadic gives experimental) ts = (
  λ h. record {
    arguments = subst (λ n. TakesCount variadic (length types) n) (count_outline ts) h.arguments;
    typed = λ e. (args_outline types ts).0 (h.typed (exempt_outline name ts ∙ e));
  },
  λ h. record {
    arguments = subst (λ n. TakesCount variadic (length types) n) (sym (count_outline ts)) h.arguments;
    typed = λ e. (args_outline types ts).1 (h.typed (sym (exempt_outline name ts) ∙ e));
  },
)

aggregate_as : (op : ℕ) (a b : ValueType) (p q : Option ValueType) → a ≡ b → p ≡ q → TypedAggregate op a p → TypedAggregate op b q
aggregate_as op a b p q e f h = subst (λ k. TypedAggregate op k q) e (subst (TypedAggregate op a) f h)

binary_as : (op : ℕ) (a b c d : ValueType) (m : Option Matching) → a ≡ b → c ≡ d → TypedBinary op a c m → TypedBinary op b d m
binary_as op a b c d m e f h = subst (λ k. TypedBinary op k d m) e (subst (λ k. TypedBinary op a k m) f h)

-- ---- trees

mutual
  apart : (t : Tree) → Typed t → Typed (outline t)
  apart (aggregate op e p m) h =
      (aggregate_as op (type_of e) (type_of (outline e)) (maybe_type p) (maybe_type (maybe_outline p)) (sym (type_outline e)) (sym (maybe_type_outline p)) h.0, (maybe_apart p h.1.0, apart e h.1.1))
  apart (unary e) h = (subst (λ k. (k ≡ kind.Scalar) ⊎ (k ≡ kind.Vector)) (sym (type_outline e)) h.0, apart e h.1)
  apart (binary op x y m) h =
      (binary_as op (type_of x) (type_of (outline x)) (type_of y) (type_of (outline y)) m (sym (type_outline x)) (sym (type_outline y)) h.0, (apart x h.1.0, apart y h.1.1))
  apart (paren e) h = apart e h
  apart (subquery e offset at range step) h = (type_outline e ∙ h.0, apart e h.1)
  apart (number n) h = h
  apart (string s) h = h
  apart (vector s) h = refl
  apart (matrix s range mode) h = refl
  apart (call f ts) h = ((call_outline f ts).1 h.0, all_apart ts h.1)
  apart (extension name gives ts) h = all_apart ts h

  maybe_apart : (p : MaybeTree) → MaybeTyped p → MaybeTyped (maybe_outline p)
  maybe_apart absent h = h
  maybe_apart (present e) h = apart e h

  all_apart : (ts : Trees) → AllTyped ts → AllTyped (all_outlines ts)
  all_apart no_trees h = h
  all_apart (first_tree t ts) h = (apart t h.0, all_apart ts h.1)

mutual
  joined : (k : SelectorKind) (t : Tree) → Typed (outline t) → TypedEach (selectors_in k t) → Typed t
  joined k (aggregate op e p m) h s =
      let below = parts (param_selectors k p) (selectors_in k e) s in
      (aggregate_as op (type_of (outline e)) (type_of e) (maybe_type (maybe_outline p)) (maybe_type p) (type_outline e) (maybe_type_outline p) h.0, (maybe_joined k p h.1.0 below.0, joined k e h.1.1 below.1))
  joined k (unary e) h s = (subst (λ k. (k ≡ kind.Scalar) ⊎ (k ≡ kind.Vector)) (type_outline e) h.0, joined k e h.1 s)
  joined k (binary op x y m) h s =
      let below = parts (selectors_in k x) (selectors_in k y) s in
      (binary_as op (type_of (outline x)) (type_of x) (type_of (outline y)) (type_of y) m (type_outline x) (type_outline y) h.0, (joined k x h.1.0 below.0, joined k y h.1.1 below.1))
  joined k (paren e) h s = joined k e h s
  joined k (subquery e offset at range step) h s = (sym (type_outline e) ∙ h.0, joined k e h.1 s)
  joined k (number n) h s = h
  joined k (string z) h s = h
  joined k (vector z) h s = s.0
  joined k (matrix z range mode) h s = s.0
  joined k (call f ts) h s = ((call_outline f ts).0 h.0, all_joined k (kind_after f k) ts h.1 s)
  joined k (extension name gives ts) h s = all_joined k k ts h s

  maybe_joined : (k : SelectorKind) (p : MaybeTree) → MaybeTyped (maybe_outline p) → TypedEach (param_selectors k p) → MaybeTyped p
  maybe_joined k absent h s = h
  maybe_joined k (present e) h s = joined k e h s

  all_joined : (k others : SelectorKind) (ts : Trees) → AllTyped (all_outlines ts) → TypedEach (arg_selectors k others ts) → AllTyped ts
  all_joined k others no_trees h s = h
  all_joined k others (first_tree t ts) h s =
      let below = parts (selectors_in k t) (arg_selectors others others ts) s in
      (joined k t h.0 below.0, all_joined others others ts h.1 below.1)

pub typed_again : (t u : Tree) → outline t ≡ outline u → Typed t → AllByRecursion (λ (x : KindedSelector). TypedSelector x.1) (selectors_of u) → Typed u
typed_again t u same h selectors = joined Series u (subst Typed same (apart t h)) (subst TypedEach (selectors_are u) selectors)
