-- A renamed tree is well typed if the tree is, where no two labels become one.
use Rattle.std.proofs.Common.{◌≡◌, ◌⊎◌, ℕ, ◌+◌, refl, sym, ◌∙◌, ap, subst, Bool, true, false, ◌||◌, Option, Some, None, List, [], ◌∷◌, ◌++◌, length}
use Rattle.std.specs.Prelude.{◌==◌, not, option_map}
use Rattle.std.specs.List.{list_any}
use Rattle.std.proofs.lemmas.List.{length-map}
use Rattle.std.proofs.lemmas.List.Folds.{list_any-append}
use Rattle.std.specs.Option.{option_map_or}
use Rattle.promql_text.specs.Texts.{Text}
use Rattle.promql_kind.specs.Functions.{Signature, signature}
use Rattle.promql_kind.specs.Modifiers.{including, excluding, Matching, matching}
use Rattle.promql_kind.specs.declared.value.ValueType.{ValueType}
use Rattle.promql_kind.specs.declared.value.ValueType.TheVariants as kind
use Rattle.promql_ast.specs.Arguments.{count}
use Rattle.promql_ast.specs.Builds.{scalar_value}
use Rattle.promql_ast.specs.OptionalModifiers.{has_matching_labels, is_on, joint_labels, returns_bool}
use Rattle.promql_ast.specs.Selectors.{Selector}
use Rattle.promql_ast.specs.Tree.{Tree, aggregate, unary, binary, paren, subquery, number, string, vector, matrix, call, extension, MaybeTree, absent, present, Trees, no_trees, first_tree}
use Rattle.promql_ast.specs.Typed.{AllTyped, IsApart, IsManyToMany, MaybeTyped, TakesCount, Typed, TypedAggregate, TypedArgs, TypedBinary, TypedSelector, TypedSignature}
use Rattle.promql_ast.specs.Types.{type_of}
use Rattle.promql_ast.specs.check.AggregateChecks.{maybe_type}
use Rattle.promql_ast.specs.check.CallChecks.{is_exempt, is_exempt_number}
use Rattle.promql_rewrite.specs.Collecting.{all_nodes, maybe_nodes, nodes_of}
use Rattle.promql_rewrite.specs.Renaming.{Renaming, of_label, of_metric, replaced, all_renamed, maybe_renamed, renamed, renamed_cardinality, renamed_labels, renamed_matching, renamed_selector}
use Rattle.promql_rewrite.proofs.renamed.RenamedTypes.{type_renamed}

pub neither : (a b : Bool) → a || b ≡ false → (a ≡ false) × (b ≡ false)
neither true b h = cc
neither false b h = (refl, h)

-- no node of two lists passes
parts : (p : Tree → Bool) (ts us : List Tree) → list_any p (ts ++ us) ≡ false → (list_any p ts ≡ false) × (list_any p us ≡ false)
parts p ts us none = neither (list_any p ts) (list_any p us) (sym (list_any-append p ts us) ∙ none)

module _ (r : Renaming) where
  -- ---- modifiers

  as_many : (ls : List Text) → not (length (renamed_labels r ls) == 0) ≡ not (length ls == 0)
  as_many ls = go r ls
    where
      go : (r : Renaming) (ls : List Text) → not (length (renamed_labels r ls) == 0) ≡ not (length ls == 0)
      go (of_metric from to) ls = refl
      go (of_label from to) ls = ap (λ n. not (n == 0)) (length-map ls (replaced from to))

  same_bool : (m : Option Matching) → returns_bool (option_map (renamed_matching r) m) ≡ returns_bool m
  same_bool None = refl
  same_bool (Some (matching card clause return_bool values)) = refl

  same_on : (m : Option Matching) → is_on (option_map (renamed_matching r) m) ≡ is_on m
  same_on None = refl
  same_on (Some (matching card None return_bool values)) = refl
  same_on (Some (matching card (Some (including ls)) return_bool values)) = refl
  same_on (Some (matching card (Some (excluding ls)) return_bool values)) = refl

  same_matched : (m : Option Matching) → has_matching_labels (option_map (renamed_matching r) m) ≡ has_matching_labels m
  same_matched None = refl
  same_matched (Some (matching card None return_bool values)) = refl
  same_matched (Some (matching card (Some (including ls)) return_bool values)) = as_many ls
  same_matched (Some (matching card (Some (excluding ls)) return_bool values)) = as_many ls

  still_many : (m : Option Matching) → IsManyToMany m → IsManyToMany (option_map (renamed_matching r) m)
  still_many None h = h
  still_many (Some (matching card clause return_bool values)) h = ap (renamed_cardinality r) h

  binary_typed : (op : ℕ) (k j : ValueType) (m : Option Matching) → (IsApart (joint_labels m) → IsApart (joint_labels (option_map (renamed_matching r) m)))
      → TypedBinary op k j m → TypedBinary op k j (option_map (renamed_matching r) m)
  binary_typed op k j m apart h = record {
    operator = h.operator;
    bool_on_comparison = λ b. h.bool_on_comparison (sym (same_bool m) ∙ b);
    scalars_with_bool = λ c a b. same_bool m ∙ h.scalars_with_bool c a b;
    labels_apart = λ on. apart (h.labels_apart (sym (same_on m) ∙ on));
    sets_of_vectors = h.sets_of_vectors;
    sets_many_to_many = λ s. still_many m (h.sets_many_to_many s);
    left_side = h.left_side;
    right_side = h.right_side;
    matched_vectors = λ l. h.matched_vectors (sym (same_matched m) ∙ l);
  }

  -- ---- arguments

  maybe_type_renamed : (p : MaybeTree) → maybe_type (maybe_renamed r p) ≡ maybe_type p
  maybe_type_renamed absent = refl
  maybe_type_renamed (present e) = ap Some (type_renamed r e)

  scalar_renamed : (t : Tree) → scalar_value (renamed r t) ≡ scalar_value t
  scalar_renamed (number n) = refl
  scalar_renamed t = refl

  all_count : (ts : Trees) → count (all_renamed r ts) ≡ count ts
  all_count no_trees = refl
  all_count (first_tree t ts) = λ i. all_count ts i + 1

  all_args : (ks : List ValueType) (ts : Trees) → TypedArgs ks ts → TypedArgs ks (all_renamed r ts)
  all_args [] ts h = tt
  all_args (k ∷ []) no_trees h = h
  all_args (k ∷ j ∷ ks) no_trees h = h
  all_args (k ∷ []) (first_tree t ts) h = (type_renamed r t ∙ h.0, all_args (k ∷ []) ts h.1)
  all_args (k ∷ j ∷ ks) (first_tree t ts) h = (type_renamed r t ∙ h.0, all_args (j ∷ ks) ts h.1)

  all_exempt : (name : Text) (ts : Trees) → is_exempt name (all_renamed r ts) ≡ is_exempt name ts
  all_exempt name no_trees = refl
  all_exempt name (first_tree t ts) = ap (λ o. option_map_or (λ n. is_exempt_number name (Some n)) o false) (scalar_renamed t)

  call_typed : (f : Signature) (ts : Trees) → TypedSignature f ts → TypedSignature f (all_renamed r ts)
  call_typed (signature name types variadic gives experimental) ts h = record {
    arguments = subst (λ n. TakesCount variadic (length types) n) (sym (all_count ts)) h.arguments;
    typed = λ e. all_args types ts (h.typed (sym (all_exempt name ts) ∙ e));
  }

  -- ---- trees of which no node passes the test

  module _ (p : Tree → Bool) (selectors : (s : Selector) → TypedSelector s → TypedSelector (renamed_selector r s))
      (apart : (op : ℕ) (x y : Tree) (m : Option Matching) → p (binary op x y m) ≡ false → IsApart (joint_labels m) → IsApart (joint_labels (option_map (renamed_matching r) m))) where
    mutual
      pub typed_renamed : (t : Tree) → list_any p (nodes_of t) ≡ false → Typed t → Typed (renamed r t)
      typed_renamed (aggregate op e q m) none h =
          let below = parts p (maybe_nodes q) (nodes_of e) (neither (p (aggregate op e q m)) (list_any p (maybe_nodes q ++ nodes_of e)) none).1 in (
            subst (λ k. TypedAggregate op k (maybe_type (maybe_renamed r q))) (sym (type_renamed r e)) (subst (λ k. TypedAggregate op (type_of e) k) (sym (maybe_type_renamed q)) h.0),
            (maybe_typed_renamed q below.0 h.1.0, typed_renamed e below.1 h.1.1),
          )
      typed_renamed (unary e) none h = (
        subst (λ k. (k ≡ kind.Scalar) ⊎ (k ≡ kind.Vector)) (sym (type_renamed r e)) h.0,
        typed_renamed e (neither (p (unary e)) (list_any p (nodes_of e)) none).1 h.1,
      )
      typed_renamed (binary op x y m) none h =
          let here = neither (p (binary op x y m)) (list_any p (nodes_of x ++ nodes_of y)) none in
          let below = parts p (nodes_of x) (nodes_of y) here.1 in (
            binary_typed op (type_of (renamed r x)) (type_of (renamed r y)) m (apart op x y m here.0)
                (subst (λ k. TypedBinary op k (type_of (renamed r y)) m) (sym (type_renamed r x)) (subst (λ k. TypedBinary op (type_of x) k m) (sym (type_renamed r y)) h.0)),
            (typed_renamed x below.0 h.1.0, typed_renamed y below.1 h.1.1),
          )
      typed_renamed (paren e) none h = typed_renamed e (neither (p (paren e)) (list_any p (nodes_of e)) none).1 h
      typed_renamed (subquery e offset at range step) none h =
          (type_renamed r e ∙ h.0, typed_renamed e (neither (p (subquery e offset at range step)) (list_any p (nodes_of e)) none).1 h.1)
      typed_renamed (number n) none h = h
      typed_renamed (string s) none h = h
      typed_renamed (vector s) none h = selectors s h
      typed_renamed (matrix s range mode) none h = selectors s h
      typed_renamed (call f ts) none h = (call_typed f ts h.0, all_typed_renamed ts (neither (p (call f ts)) (list_any p (all_nodes ts)) none).1 h.1)
      typed_renamed (extension name gives ts) none h = all_typed_renamed ts (neither (p (extension name gives ts)) (list_any p (all_nodes ts)) none).1 h

      maybe_typed_renamed : (q : MaybeTree) → list_any p (maybe_nodes q) ≡ false → MaybeTyped q → MaybeTyped (maybe_renamed r q)
      maybe_typed_renamed absent none h = h
      maybe_typed_renamed (present e) none h = typed_renamed e none h

      all_typed_renamed : (ts : Trees) → list_any p (all_nodes ts) ≡ false → AllTyped ts → AllTyped (all_renamed r ts)
      all_typed_renamed no_trees none h = h
      all_typed_renamed (first_tree t ts) none h =
          let below = parts p (nodes_of t) (all_nodes ts) none in
          (typed_renamed t below.0 h.0, all_typed_renamed ts below.1 h.1)
