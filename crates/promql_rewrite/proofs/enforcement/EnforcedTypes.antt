-- A tree in which a matcher is enforced has the type and the height that it had, and is well typed if it was.
use Rattle.std.proofs.Common.{◌≡◌, ◌≢◌, ◌⊎◌, ◌+◌, max, refl, sym, ◌∙◌, ap, subst, Bool, true, false, cond, Option, Some, None, List, [], ◌∷◌, length, codes}
use Rattle.std.specs.Prelude.{find, option_map}
use Rattle.std.specs.Str.{bytes_eq}
use Rattle.std.proofs.lemmas.Slice.Eq.{bytes_eq-Decides}
use Rattle.std.specs.Option.{option_map_or}
use Rattle.promql_text.specs.Texts.{Text}
use Rattle.promql_label.specs.PlainMatchers.{PlainMatcher, PlainMatchers, every, holds, is_of, name_of, value_of}
use Rattle.promql_kind.specs.Functions.{Signature, signature}
use Rattle.promql_kind.specs.declared.value.ValueType.{ValueType}
use Rattle.promql_kind.specs.declared.value.ValueType.TheVariants as kind
use Rattle.promql_ast.specs.Arguments.{count}
use Rattle.promql_ast.specs.Builds.{scalar_value}
use Rattle.promql_ast.specs.Height.{height, maybe_height, greatest_height}
use Rattle.promql_ast.specs.Selectors.{Selector, selector}
use Rattle.promql_ast.specs.Tree.{Tree, aggregate, unary, binary, paren, subquery, number, string, vector, matrix, call, extension, MaybeTree, absent, present, Trees, no_trees, first_tree}
use Rattle.promql_ast.specs.Typed.{AllTyped, HasName, MaybeTyped, TakesCount, Typed, TypedAggregate, TypedArgs, TypedBinary, TypedSelector, TypedSignature}
use Rattle.promql_ast.specs.Types.{type_of}
use Rattle.promql_ast.specs.check.AggregateChecks.{maybe_type}
use Rattle.promql_ast.specs.check.CallChecks.{is_exempt, is_exempt_number}
use Rattle.promql_rewrite.specs.Enforcing.{all_enforced, enforced, enforced_matchers, enforced_selector, maybe_enforced}
use Rattle.promql_rewrite.proofs.enforcement.EnforcedChecks.{type_enforced}
use Rattle.promql_rewrite.proofs.enforcement.EnforcedLists.{none_found, one_fails}

module _ (c : PlainMatcher) where
  -- ---- types

  maybe_type_enforced : (p : MaybeTree) → maybe_type (maybe_enforced c p) ≡ maybe_type p
  maybe_type_enforced absent = refl
  maybe_type_enforced (present e) = ap Some (type_enforced c e)

  -- ---- heights

  mutual
    pub height_enforced : (t : Tree) → height (enforced c t) ≡ height t
    height_enforced (aggregate op e p m) = λ i. max (maybe_height_enforced p i) (height_enforced e i) + 1
    height_enforced (unary e) = λ i. height_enforced e i + 1
    height_enforced (binary op l r m) = λ i. max (height_enforced l i) (height_enforced r i) + 1
    height_enforced (paren e) = λ i. height_enforced e i + 1
    height_enforced (subquery e offset at range step) = λ i. height_enforced e i + 1
    height_enforced (number n) = refl
    height_enforced (string s) = refl
    height_enforced (vector s) = refl
    height_enforced (matrix s range mode) = refl
    height_enforced (call f ts) = λ i. all_height ts i + 1
    height_enforced (extension name gives ts) = λ i. all_height ts i + 1

    maybe_height_enforced : (p : MaybeTree) → maybe_height (maybe_enforced c p) ≡ maybe_height p
    maybe_height_enforced absent = refl
    maybe_height_enforced (present e) = height_enforced e

    all_height : (ts : Trees) → greatest_height (all_enforced c ts) ≡ greatest_height ts
    all_height no_trees = refl
    all_height (first_tree t ts) = λ i. max (height_enforced t i) (all_height ts i)

  -- ---- arguments

  scalar_enforced : (t : Tree) → scalar_value (enforced c t) ≡ scalar_value t
  scalar_enforced (number n) = refl
  scalar_enforced t = refl

  all_count : (ts : Trees) → count (all_enforced c ts) ≡ count ts
  all_count no_trees = refl
  all_count (first_tree t ts) = λ i. all_count ts i + 1

  all_args : (ks : List ValueType) (ts : Trees) → TypedArgs ks ts → TypedArgs ks (all_enforced c ts)
  all_args [] ts h = tt
  all_args (k ∷ []) no_trees h = h
  all_args (k ∷ j ∷ ks) no_trees h = h
  all_args (k ∷ []) (first_tree t ts) h = (type_enforced c t ∙ h.0, all_args (k ∷ []) ts h.1)
  all_args (k ∷ j ∷ ks) (first_tree t ts) h = (type_enforced c t ∙ h.0, all_args (j ∷ ks) ts h.1)

  all_exempt : (name : Text) (ts : Trees) → is_exempt name (all_enforced c ts) ≡ is_exempt name ts
  all_exempt name no_trees = refl
  all_exempt name (first_tree t ts) = ap (λ o. option_map_or (λ n. is_exempt_number name (Some n)) o false) (scalar_enforced t)

  call_typed : (f : Signature) (ts us : Trees) → count us ≡ count ts → ((name : Text) → is_exempt name us ≡ is_exempt name ts)
      → ((ks : List ValueType) → TypedArgs ks ts → TypedArgs ks us) → TypedSignature f ts → TypedSignature f us
  call_typed (signature name types variadic gives experimental) ts us many exempt each h = record {
    arguments = subst (λ n. TakesCount variadic (length types) n) (sym many) h.arguments;
    typed = λ e. each types (h.typed (sym (exempt name) ∙ e));
  }

  -- ---- selectors

  module _ (other : name_of c ≢ codes "__name__") where
    not_name : is_of (codes "__name__") c ≡ false
    not_name = go (bytes_eq (name_of c) (codes "__name__")) refl
      where
        go : (b : Bool) → bytes_eq (name_of c) (codes "__name__") ≡ b → b ≡ false
        go true is = absurd (other ((bytes_eq-Decides (name_of c) (codes "__name__")).0 is))
        go false is = refl

    none_of : (o : Option PlainMatcher) → option_map value_of o ≡ None → o ≡ None
    none_of None h = refl
    none_of (Some d) h = cc

    name_kept : (name : Option Text) (cs : PlainMatchers) → HasName name cs → HasName name (enforced_matchers c cs)
    name_kept (Some name) cs h = ap (option_map value_of) (none_found (is_of (codes "__name__")) c not_name cs (none_of (find (is_of (codes "__name__")) (every cs)) h))
    name_kept None cs h = one_fails (λ d. holds d []) c cs h

    selector_typed : (s : Selector) → TypedSelector s → TypedSelector (enforced_selector c s)
    selector_typed (selector name cs offset at) h = name_kept name cs h

    -- ---- trees

    args_typed : (f : Signature) (ts : Trees) → TypedSignature f ts → TypedSignature f (all_enforced c ts)
    args_typed f ts h = call_typed f ts (all_enforced c ts) (all_count ts) (λ name. all_exempt name ts) (λ ks. all_args ks ts) h

    mutual
      pub typed_enforced : (t : Tree) → Typed t → Typed (enforced c t)
      typed_enforced (aggregate op e p m) h = (
        subst (λ k. TypedAggregate op k (maybe_type (maybe_enforced c p))) (sym (type_enforced c e)) (subst (λ k. TypedAggregate op (type_of e) k) (sym (maybe_type_enforced p)) h.0),
        (maybe_typed_enforced p h.1.0, typed_enforced e h.1.1),
      )
      typed_enforced (unary e) h = (subst (λ k. (k ≡ kind.Scalar) ⊎ (k ≡ kind.Vector)) (sym (type_enforced c e)) h.0, typed_enforced e h.1)
      typed_enforced (binary op l r m) h = (
        subst (λ k. TypedBinary op k (type_of (enforced c r)) m) (sym (type_enforced c l)) (subst (λ k. TypedBinary op (type_of l) k m) (sym (type_enforced c r)) h.0),
        (typed_enforced l h.1.0, typed_enforced r h.1.1),
      )
      typed_enforced (paren e) h = typed_enforced e h
      typed_enforced (subquery e offset at range step) h = (type_enforced c e ∙ h.0, typed_enforced e h.1)
      typed_enforced (number n) h = h
      typed_enforced (string s) h = h
      typed_enforced (vector s) h = selector_typed s h
      typed_enforced (matrix s range mode) h = selector_typed s h
      typed_enforced (call f ts) h = (args_typed f ts h.0, all_typed_enforced ts h.1)
      typed_enforced (extension name gives ts) h = all_typed_enforced ts h

      maybe_typed_enforced : (p : MaybeTree) → MaybeTyped p → MaybeTyped (maybe_enforced c p)
      maybe_typed_enforced absent h = h
      maybe_typed_enforced (present e) h = typed_enforced e h

      all_typed_enforced : (ts : Trees) → AllTyped ts → AllTyped (all_enforced c ts)
      all_typed_enforced no_trees h = h
      all_typed_enforced (first_tree t ts) h = (typed_enforced t h.0, all_typed_enforced ts h.1)
