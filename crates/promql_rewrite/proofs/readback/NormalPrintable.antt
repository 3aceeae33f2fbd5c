-- A tree whose normal form is printable is printable.
use Rattle.std.proofs.Common.{◌≡◌, ◌⊎◌, inl, inr, ◌+◌, ℕ, max, min, refl, sym, ◌∙◌, ap, subst, arith, false, Option, Some, None, List, [], ◌∷◌, length}
use Rattle.std.specs.Option.{option_map_or}
use Rattle.promql_text.specs.Texts.{Text}
use Rattle.promql_text.specs.declared.number.Number.{Number}
use Rattle.promql_grammar.specs.Grammar.{FitsLeft, precedence}
use Rattle.promql_label.specs.Answers.{Answer}
use Rattle.promql_kind.specs.Functions.{Signature, signature}
use Rattle.promql_kind.specs.Modifiers.{Cardinality, Clause, excluding, one_to_one, many_to_one, one_to_many, many_to_many, fills, Matching, matching, is_grouping}
use Rattle.promql_kind.specs.declared.value.ValueType.{ValueType}
use Rattle.promql_kind.specs.declared.value.ValueType.TheVariants as kind
use Rattle.promql_ast.specs.Arguments.{count}
use Rattle.promql_ast.specs.Builds.{scalar_value}
use Rattle.promql_ast.specs.Normal.{all_normal, maybe_normal, normal, normal_matched, normal_matching, unless_default}
use Rattle.promql_ast.specs.Tree.{Tree, aggregate, unary, binary, paren, subquery, number, string, vector, matrix, call, extension, MaybeTree, absent, present, Trees, no_trees, first_tree}
use Rattle.promql_ast.specs.Typed.{AllTyped, IsApart, IsManyToMany, MaybeTyped, TakesCount, Typed, TypedAggregate, TypedArgs, TypedBinary, TypedSignature}
use Rattle.promql_ast.specs.Types.{type_of}
use Rattle.promql_ast.specs.check.AggregateChecks.{maybe_type}
use Rattle.promql_ast.specs.check.CallChecks.{is_exempt, is_exempt_number}
use Rattle.promql_syntax.proofs.readback.CheckedAgain.{type_normal}
use Rattle.promql_syntax.proofs.printed.PrintedModifiers.{Alike}
use Rattle.promql_rewrite.specs.PrintableConditions.{IsNegated, IsRightSide, PrintableFill, openness}
use Rattle.promql_rewrite.specs.PrintableNodes.{AllPrintableNodes, FollowsLabels, IsSubqueried, MaybePrintableNodes, NodesArePrintable, PrintableModifier, PrintableNodes, has_param}
use Rattle.promql_rewrite.specs.PrintableTrees.{all_printed_height, maybe_printed_height, printed_height}
use Rattle.promql_rewrite.proofs.readback.NormalMatchers.{of_normal_selector, typed_of_normal_selector}

-- ---- modifiers

-- a modifier stays, or says nothing
unless_is : (m : Matching) → (unless_default m ≡ Some m) ⊎ (m ≡ matching one_to_one None false (fills None None))
unless_is (matching one_to_one None false (fills None None)) = inr refl
unless_is m = inl refl

default_alike : (m : Matching) → Alike (unless_default m) (Some m)
default_alike (matching one_to_one None false (fills None None)) = record { bool = refl; on = refl; joint = refl; grouped = refl; labels = refl }
default_alike m = record { bool = refl; on = refl; joint = refl; grouped = refl; labels = refl }

normal_alike : (m : Option Matching) → Alike (normal_matching m) m
normal_alike None = record { bool = refl; on = refl; joint = refl; grouped = refl; labels = refl }
normal_alike (Some (matching card c b values)) =
    let a = default_alike (matching card (normal_matched (is_grouping card) c) b values) in
    let k = go card c in
    record { bool = a.bool ∙ k.bool; on = a.on ∙ k.on; joint = a.joint ∙ k.joint; grouped = a.grouped ∙ k.grouped; labels = a.labels ∙ k.labels }
  where
    go : (card : Cardinality) (c : Option Clause) → Alike (Some (matching card (normal_matched (is_grouping card) c) b values)) (Some (matching card c b values))
    go one_to_one (Some (excluding [])) = record { bool = refl; on = refl; joint = refl; grouped = refl; labels = refl }
    go many_to_many (Some (excluding [])) = record { bool = refl; on = refl; joint = refl; grouped = refl; labels = refl }
    go card c = record { bool = refl; on = refl; joint = refl; grouped = refl; labels = refl }

many_of_normal : (m : Option Matching) → IsManyToMany (normal_matching m) → IsManyToMany m
many_of_normal None h = h
many_of_normal (Some (matching card c b values)) h = go (unless_is (matching card (normal_matched (is_grouping card) c) b values))
  where
    go : (unless_default (matching card (normal_matched (is_grouping card) c) b values) ≡ Some (matching card (normal_matched (is_grouping card) c) b values)) ⊎ (matching card (normal_matched (is_grouping card) c) b values ≡ matching one_to_one None false (fills None None)) → card ≡ many_to_many
    go (inl e) = subst IsManyToMany e h
    go (inr e) = absurd (subst (λ x. IsManyToMany (unless_default x)) e h)

binary_of_normal : (op : ℕ) (l r : ValueType) (m : Option Matching) → TypedBinary op l r (normal_matching m) → TypedBinary op l r m
binary_of_normal op l r m h =
    let a = normal_alike m in
    record {
      operator = h.operator;
      bool_on_comparison = λ e. h.bool_on_comparison (a.bool ∙ e);
      scalars_with_bool = λ e f g. sym a.bool ∙ h.scalars_with_bool e f g;
      labels_apart = λ e. subst IsApart a.joint (h.labels_apart (a.on ∙ e));
      sets_of_vectors = h.sets_of_vectors;
      sets_many_to_many = λ e. many_of_normal m (h.sets_many_to_many e);
      left_side = h.left_side;
      right_side = h.right_side;
      matched_vectors = λ e. h.matched_vectors (a.labels ∙ e);
    }

follows_of_normal : (card : Cardinality) (c : Option Clause) → FollowsLabels card (normal_matched (is_grouping card) c) → FollowsLabels card c
follows_of_normal card (Some c) h = tt
follows_of_normal one_to_one None h = h
follows_of_normal (many_to_one ls) None h = h
follows_of_normal (one_to_many ls) None h = h
follows_of_normal many_to_many None h = h

default_follows : (card : Cardinality) (c : Option Clause) → card ≡ one_to_one → FollowsLabels card c
default_follows card (Some c) e = tt
default_follows card None e = ap is_grouping e

default_fill : (n : Option Number) → n ≡ None → PrintableFill n
default_fill None e = tt
default_fill (Some n) e = cc

modifier_of_normal : (op : ℕ) (m : Option Matching) → PrintableModifier op (normal_matching m) → PrintableModifier op m
modifier_of_normal op None h = tt
modifier_of_normal op (Some (matching card c b (fills r l))) h = go (unless_is (matching card (normal_matched (is_grouping card) c) b (fills r l)))
  where
    go : (unless_default (matching card (normal_matched (is_grouping card) c) b (fills r l)) ≡ Some (matching card (normal_matched (is_grouping card) c) b (fills r l))) ⊎ (matching card (normal_matched (is_grouping card) c) b (fills r l) ≡ matching one_to_one None false (fills None None)) → PrintableModifier op (Some (matching card c b (fills r l)))
    go (inl e) = let k = subst (PrintableModifier op) e h in (follows_of_normal card c k.0, k.1, k.2, k.3)
    go (inr e) =
        let one : card ≡ one_to_one = cc in
        let right : r ≡ None = cc in
        let left : l ≡ None = cc in
        (default_follows card c one, (λ many. let no : one_to_one ≡ many_to_many = sym one ∙ many in cc), default_fill r right, default_fill l left)

-- ---- well typed trees

maybe_type_normal : (p : MaybeTree) → maybe_type (maybe_normal p) ≡ maybe_type p
maybe_type_normal absent = refl
maybe_type_normal (present e) = ap Some (type_normal e)

count_normal : (ts : Trees) → count (all_normal ts) ≡ count ts
count_normal no_trees = refl
count_normal (first_tree t ts) = ap (λ n. n + 1) (count_normal ts)

scalar_normal : (t : Tree) → scalar_value (normal t) ≡ scalar_value t
scalar_normal (number n) = refl
scalar_normal t = refl

exempt_normal : (name : Text) (ts : Trees) → is_exempt name (all_normal ts) ≡ is_exempt name ts
exempt_normal name no_trees = refl
exempt_normal name (first_tree t ts) = ap (λ o. option_map_or (λ n. is_exempt_number name (Some n)) o false) (scalar_normal t)

args_of_normal : (ks : List ValueType) (ts : Trees) → TypedArgs ks (all_normal ts) → TypedArgs ks ts
args_of_normal [] ts h = tt
args_of_normal (k ∷ []) no_trees h = h
args_of_normal (k ∷ j ∷ ks) no_trees h = h
args_of_normal (k ∷ []) (first_tree t ts) h = (sym (type_normal t) ∙ h.0, args_of_normal (k ∷ []) ts h.1)
args_of_normal (k ∷ j ∷ ks) (first_tree t ts) h = (sym (type_normal t) ∙ h.0, args_of_normal (j ∷ ks) ts h.1)

call_of_normal : (f : Signature) (ts : Trees) → TypedSignature f (all_normal ts) → TypedSignature f ts
call_of_normal (signature name types variadic gives experimental) ts h = record {
  arguments = subst (λ n. TakesCount variadic (length types) n) (count_normal ts) h.arguments;
  typed = λ e. args_of_normal types ts (h.typed (exempt_normal name ts ∙ e));
}

mutual
  typed_of_normal : (t : Tree) → Typed (normal t) → Typed t
  typed_of_normal (aggregate op e p m) h = (
    subst (λ k. TypedAggregate op k (maybe_type p)) (type_normal e) (subst (λ k. TypedAggregate op (type_of (normal e)) k) (maybe_type_normal p) h.0),
    (maybe_typed_of_normal p h.1.0, typed_of_normal e h.1.1),
  )
  typed_of_normal (unary e) h = (subst (λ k. (k ≡ kind.Scalar) ⊎ (k ≡ kind.Vector)) (type_normal e) h.0, typed_of_normal e h.1)
  typed_of_normal (binary op l r m) h = (
    binary_of_normal op (type_of l) (type_of r) m
        (subst (λ k. TypedBinary op k (type_of r) (normal_matching m)) (type_normal l) (subst (λ k. TypedBinary op (type_of (normal l)) k (normal_matching m)) (type_normal r) h.0)),
    (typed_of_normal l h.1.0, typed_of_normal r h.1.1),
  )
  typed_of_normal (paren e) h = typed_of_normal e h
  typed_of_normal (subquery e offset at range step) h = (sym (type_normal e) ∙ h.0, typed_of_normal e h.1)
  typed_of_normal (number n) h = h
  typed_of_normal (string s) h = h
  typed_of_normal (vector s) h = typed_of_normal_selector s h
  typed_of_normal (matrix s range mode) h = typed_of_normal_selector s h
  typed_of_normal (call f ts) h = (call_of_normal f ts h.0, all_typed_of_normal ts h.1)
  typed_of_normal (extension name gives ts) h = all_typed_of_normal ts h

  maybe_typed_of_normal : (p : MaybeTree) → MaybeTyped (maybe_normal p) → MaybeTyped p
  maybe_typed_of_normal absent h = h
  maybe_typed_of_normal (present e) h = typed_of_normal e h

  all_typed_of_normal : (ts : Trees) → AllTyped (all_normal ts) → AllTyped ts
  all_typed_of_normal no_trees h = h
  all_typed_of_normal (first_tree t ts) h = (typed_of_normal t h.0, all_typed_of_normal ts h.1)

-- ---- heights

mutual
  height_normal : (t : Tree) → printed_height (normal t) ≡ printed_height t
  height_normal (aggregate op e p m) = λ i. 1 + max (maybe_height_normal p i) (height_normal e i)
  height_normal (unary e) = λ i. 1 + height_normal e i
  height_normal (binary op l r m) = λ i. 1 + max (height_normal l i) (height_normal r i)
  height_normal (paren e) = λ i. 1 + height_normal e i
  height_normal (subquery e offset at range step) = λ i. 1 + height_normal e i
  height_normal (number n) = refl
  height_normal (string s) = refl
  height_normal (vector s) = refl
  height_normal (matrix s range mode) = refl
  height_normal (call f ts) = λ i. 1 + all_height_normal ts i
  height_normal (extension name gives ts) = λ i. 1 + all_height_normal ts i

  maybe_height_normal : (p : MaybeTree) → maybe_printed_height (maybe_normal p) ≡ maybe_printed_height p
  maybe_height_normal absent = refl
  maybe_height_normal (present e) = height_normal e

  all_height_normal : (ts : Trees) → all_printed_height (all_normal ts) ≡ all_printed_height ts
  all_height_normal no_trees = refl
  all_height_normal (first_tree t ts) = λ i. max (height_normal t i) (all_height_normal ts i)

-- ---- places

open_normal : (t : Tree) → openness (normal t) ≡ openness t
open_normal (unary e) = λ i. min 5 (open_normal e i)
open_normal (binary op l r m) = λ i. min (precedence op) (open_normal r i)
open_normal t = refl

right_of_normal : (op : ℕ) (t : Tree) → IsRightSide op (normal t) → IsRightSide op t
right_of_normal op (binary inner l r m) h = h
right_of_normal op t h = tt

sign_of_normal : (t : Tree) → IsNegated (normal t) → IsNegated t
sign_of_normal (binary op l r m) h = h
sign_of_normal (number n) h = h
sign_of_normal t h = tt

range_of_normal : (t : Tree) → IsSubqueried (normal t) → IsSubqueried t
range_of_normal (unary e) h = h
range_of_normal (binary op l r m) h = h
range_of_normal (number n) h = h
range_of_normal t h = tt

param_normal : (p : MaybeTree) → has_param (maybe_normal p) ≡ has_param p
param_normal absent = refl
param_normal (present e) = refl

-- ---- trees

module _ (g : Text → Answer) where
  mutual
    nodes_of_normal : (t : Tree) → PrintableNodes g (normal t) → PrintableNodes g t
    nodes_of_normal (aggregate op e p m) h = (sym (param_normal p) ∙ h.0, maybe_nodes_of_normal p h.1, nodes_of_normal e h.2)
    nodes_of_normal (unary e) h = (sign_of_normal e h.0, nodes_of_normal e h.1)
    nodes_of_normal (binary op l r m) h =
        (h.0, modifier_of_normal op m h.1, subst (FitsLeft op) (open_normal l) h.2, right_of_normal op r h.3, nodes_of_normal l h.4, nodes_of_normal r h.5)
    nodes_of_normal (paren e) h = nodes_of_normal e h
    nodes_of_normal (subquery e offset at range step) h = (range_of_normal e h.0, h.1, h.2, h.3, h.4, nodes_of_normal e h.5)
    nodes_of_normal (number n) h = h
    nodes_of_normal (string s) h = h
    nodes_of_normal (vector s) h = of_normal_selector g s h
    nodes_of_normal (matrix s range mode) h = (of_normal_selector g s h.0, h.1)
    nodes_of_normal (call f ts) h = (h.0, all_nodes_of_normal ts h.1)
    nodes_of_normal (extension name gives ts) h = h

    maybe_nodes_of_normal : (p : MaybeTree) → MaybePrintableNodes g (maybe_normal p) → MaybePrintableNodes g p
    maybe_nodes_of_normal absent h = h
    maybe_nodes_of_normal (present e) h = nodes_of_normal e h

    all_nodes_of_normal : (ts : Trees) → AllPrintableNodes g (all_normal ts) → AllPrintableNodes g ts
    all_nodes_of_normal no_trees h = h
    all_nodes_of_normal (first_tree t ts) h = (nodes_of_normal t h.0, all_nodes_of_normal ts h.1)

  pub printable_of_normal : (t : Tree) → NodesArePrintable g (normal t) → NodesArePrintable g t
  printable_of_normal t h = record {
    typed = typed_of_normal t h.typed;
    low = omega (arith, height_normal t, h.low);
    nodes = nodes_of_normal t h.nodes;
  }
