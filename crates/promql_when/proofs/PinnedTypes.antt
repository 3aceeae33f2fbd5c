-- A pinned query has the type of the query, and is well typed where the query is.
use Rattle.std.proofs.Common.{◌≡◌, refl, sym, ◌∙◌, ap, subst, ◌⊎◌, List, [], ◌∷◌, length, Some}
use Rattle.std.specs.Prelude.{ℤ}
use Rattle.promql_text.specs.Texts.{Text}
use Rattle.promql_kind.specs.Functions.{Signature, signature}
use Rattle.promql_kind.specs.declared.value.ValueType.{ValueType}
use Rattle.promql_kind.specs.declared.value.ValueType.TheVariants.{Scalar, Vector}
use Rattle.promql_ast.specs.Selectors.{Selector, selector}
use Rattle.promql_ast.specs.Tree.{Tree, aggregate, unary, binary, paren, subquery, number, string, vector, matrix, call, extension, MaybeTree, absent, present, Trees, no_trees, first_tree}
use Rattle.promql_ast.specs.Typed.{AllTyped, MaybeTyped, TakesCount, Typed, TypedAggregate, TypedArgs, TypedBinary, TypedSelector, TypedSignature}
use Rattle.promql_ast.specs.Types.{type_of}
use Rattle.promql_ast.specs.check.AggregateChecks.{maybe_type}
use Rattle.promql_ast.specs.check.CallChecks.{is_exempt}
use Rattle.promql_ast.specs.node.Binary.{binary_type}
use Rattle.promql_when.specs.Pinned.{all_pinned, maybe_pinned, pinned, pinned_selector}
use Rattle.promql_when.proofs.PinnedReads.{counts}

module _ (start end : ℤ) where
  pub same_type : (t : Tree) → type_of (pinned start end t) ≡ type_of t
  same_type (aggregate op e p m) = refl
  same_type (unary e) = same_type e
  same_type (binary op l r m) = ap (λ k. binary_type k (type_of (pinned start end r))) (same_type l) ∙ ap (binary_type (type_of l)) (same_type r)
  same_type (paren e) = same_type e
  same_type (subquery e offset at range step) = refl
  same_type (number n) = refl
  same_type (string s) = refl
  same_type (vector s) = refl
  same_type (matrix s range mode) = refl
  same_type (call f args) = refl
  same_type (extension name gives es) = refl

  same_maybe : (p : MaybeTree) → maybe_type (maybe_pinned start end p) ≡ maybe_type p
  same_maybe absent = refl
  same_maybe (present e) = ap Some (same_type e)

  same_selector : (s : Selector) → TypedSelector s → TypedSelector (pinned_selector start end s)
  same_selector (selector name cs offset at) is = is

  -- a call is exempt by a number, which stays as it is
  same_exempt : (name : Text) (es : Trees) → is_exempt name (all_pinned start end es) ≡ is_exempt name es
  same_exempt name no_trees = refl
  same_exempt name (first_tree (aggregate op e p m) es) = refl
  same_exempt name (first_tree (unary e) es) = refl
  same_exempt name (first_tree (binary op l r m) es) = refl
  same_exempt name (first_tree (paren e) es) = refl
  same_exempt name (first_tree (subquery e offset at range step) es) = refl
  same_exempt name (first_tree (number n) es) = refl
  same_exempt name (first_tree (string s) es) = refl
  same_exempt name (first_tree (vector s) es) = refl
  same_exempt name (first_tree (matrix s range mode) es) = refl
  same_exempt name (first_tree (call f args) es) = refl
  same_exempt name (first_tree (extension n gives es) fs) = refl

  same_args : (ks : List ValueType) (es : Trees) → TypedArgs ks es → TypedArgs ks (all_pinned start end es)
  same_args [] es is = tt
  same_args (k ∷ []) no_trees is = tt
  same_args (k ∷ j ∷ ks) no_trees is = tt
  same_args (k ∷ []) (first_tree e es) is = (same_type e ∙ is.0, same_args (k ∷ []) es is.1)
  same_args (k ∷ j ∷ ks) (first_tree e es) is = (same_type e ∙ is.0, same_args (j ∷ ks) es is.1)

  same_call : (f : Signature) (es : Trees) → TypedSignature f es → TypedSignature f (all_pinned start end es)
  same_call (signature name types variadic gives experimental) es is = record {
    arguments = subst (TakesCount variadic (length types)) (sym (counts start end es)) is.arguments;
    typed = λ exempt. same_args types es (is.typed (sym (same_exempt name es) ∙ exempt));
  }

  mutual
    pub same_typed : (t : Tree) → Typed t → Typed (pinned start end t)
    same_typed (aggregate op e p m) is = (
      subst (λ k. TypedAggregate op k (maybe_type (maybe_pinned start end p))) (sym (same_type e))
          (subst (TypedAggregate op (type_of e)) (sym (same_maybe p)) is.0),
      (same_maybe_typed p is.1.0, same_typed e is.1.1),
    )
    same_typed (unary e) is = (subst (λ k. (k ≡ Scalar) ⊎ (k ≡ Vector)) (sym (same_type e)) is.0, same_typed e is.1)
    same_typed (binary op l r m) is = (
      subst (λ k. TypedBinary op k (type_of (pinned start end r)) m) (sym (same_type l))
          (subst (λ k. TypedBinary op (type_of l) k m) (sym (same_type r)) is.0),
      (same_typed l is.1.0, same_typed r is.1.1),
    )
    same_typed (paren e) is = same_typed e is
    same_typed (subquery e offset at range step) is = (same_type e ∙ is.0, same_typed e is.1)
    same_typed (number n) is = is
    same_typed (string s) is = is
    same_typed (vector s) is = same_selector s is
    same_typed (matrix s range mode) is = same_selector s is
    same_typed (call f args) is = (same_call f args is.0, all_same_typed args is.1)
    same_typed (extension name gives es) is = all_same_typed es is

    same_maybe_typed : (p : MaybeTree) → MaybeTyped p → MaybeTyped (maybe_pinned start end p)
    same_maybe_typed absent is = is
    same_maybe_typed (present e) is = same_typed e is

    all_same_typed : (es : Trees) → AllTyped es → AllTyped (all_pinned start end es)
    all_same_typed no_trees is = is
    all_same_typed (first_tree e es) is = (same_typed e is.0, all_same_typed es is.1)
