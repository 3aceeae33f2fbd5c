-- A tree is well typed exactly if each of its nodes passes its checks as it is.
use Rattle.std.proofs.Common.{◌≡◌, refl, sym, ◌∙◌, ap, ℕ, Bool, true, false, not, cond, Option, Some, None}
use Rattle.promql_token.specs.Ids.{is_set_operator}
use Rattle.promql_kind.specs.Modifiers.{Matching, matching, many_to_many}
use Rattle.promql_ast.specs.Checked.{check_tree}
use Rattle.promql_ast.specs.Checks.{when, is_vector}
use Rattle.promql_ast.specs.Faults.{passes, subquery_type}
use Rattle.promql_ast.specs.Selectors.{Selector, selector}
use Rattle.promql_ast.specs.Tree.{Tree, aggregate, unary, binary, paren, subquery, number, string, vector, matrix, call, extension, MaybeTree, absent, present, Trees, no_trees, first_tree}
use Rattle.promql_ast.specs.Typed.{AllTyped, IsManyToMany, MaybeTyped, Typed, TypedBelow, TypedBinary, TypedSelector}
use Rattle.promql_ast.specs.Types.{type_of}
use Rattle.promql_ast.specs.check.BinaryChecks.{label_fault, operator_fault, set_fault, settle_matching, settled_set, side_fault}
use Rattle.promql_ast.specs.check.VectorChecks.{name_fault}
use Rattle.promql_rewrite.specs.CheckedNodes.{PassesUnchanged}
use Rattle.promql_rewrite.specs.Everywhere.{Everywhere}
use Rattle.promql_rewrite.specs.Throughout.{Throughout, ThroughoutAll, ThroughoutMaybe}
use Rattle.promql_rewrite.proofs.rules_broken.EachNode.{listed, throughout}
use Rattle.promql_rewrite.proofs.well_typed.TypedChecks.{aggregate_passes, binary_passes, call_passes, name_passes, no_fault, not_when, unary_passes}

-- ---- what is well typed passes

-- a set operator that matches many elements with many stays so
settled_alone : (m : Option Matching) → IsManyToMany m → Some (settled_set m) ≡ m
settled_alone None h = absurd h
settled_alone (Some (matching card clause return_bool values)) h =
    let back : many_to_many ≡ card = sym h in
    ap (λ c. Some (settled_set (Some (matching c clause return_bool values)))) h ∙ ap (λ c. Some (matching c clause return_bool values)) back

settled_same : (op : ℕ) (m : Option Matching) → (is_set_operator op ≡ true → IsManyToMany m) → settle_matching op m ≡ m
settled_same op m many = go (is_set_operator op) refl
  where
    go : (b : Bool) → is_set_operator op ≡ b → cond b (Some (settled_set m)) m ≡ m
    go true is = settled_alone m (many is)
    go false is = refl

binary_unchanged : (op : ℕ) (l r : Tree) (m : Option Matching) → TypedBinary op (type_of l) (type_of r) m → check_tree (binary op l r m) ≡ passes (binary op l r m)
binary_unchanged op l r m typed =
    let p = binary_passes op l r m typed in
    no_fault (operator_fault op (type_of l) (type_of r) m) _ p.operator
    ∙ no_fault (label_fault m) _ p.label
    ∙ no_fault (set_fault op (type_of l) (type_of r) m) _ p.set
    ∙ no_fault (side_fault (type_of l) (type_of r) m) _ p.side
    ∙ ap (λ n. passes (binary op l r n)) (settled_same op m typed.sets_many_to_many)

selector_unchanged : (s : Selector) → TypedSelector s → check_tree (vector s) ≡ passes (vector s)
selector_unchanged (selector name cs offset at) typed = no_fault (name_fault name cs) (passes (vector (selector name cs offset at))) (name_passes name cs typed)

mutual
  passes_throughout : (t : Tree) → Typed t → Throughout PassesUnchanged t
  passes_throughout (aggregate op e p m) h = (aggregate_passes op e p m h.0, maybe_passes p h.1.0, passes_throughout e h.1.1)
  passes_throughout (unary e) h = (unary_passes e h.0, passes_throughout e h.1)
  passes_throughout (binary op l r m) h = (binary_unchanged op l r m h.0, passes_throughout l h.1.0, passes_throughout r h.1.1)
  passes_throughout (paren e) h = (refl, passes_throughout e h)
  passes_throughout (subquery e offset at range step) h =
      let fits = no_fault (when (not (is_vector (type_of e))) (subquery_type (type_of e))) (passes (subquery e offset at range step))
      (not_when (not (is_vector (type_of e))) (subquery_type (type_of e)) (ap (λ k. not (is_vector k)) h.0)) in
      (fits, passes_throughout e h.1)
  passes_throughout (number n) h = refl
  passes_throughout (string s) h = refl
  passes_throughout (vector s) h = selector_unchanged s h
  passes_throughout (matrix s range mode) h = selector_unchanged s h
  passes_throughout (call f args) h = (call_passes f args h.0, all_pass args h.1)
  passes_throughout (extension name gives es) h = (refl, all_pass es h)

  maybe_passes : (p : MaybeTree) → MaybeTyped p → ThroughoutMaybe PassesUnchanged p
  maybe_passes absent h = tt
  maybe_passes (present e) h = passes_throughout e h

  all_pass : (ts : Trees) → AllTyped ts → ThroughoutAll PassesUnchanged ts
  all_pass no_trees h = tt
  all_pass (first_tree e es) h = (passes_throughout e h.0, all_pass es h.1)

pub typed_passes : (t : Tree) → Typed t → Everywhere PassesUnchanged t
typed_passes t h = listed PassesUnchanged t (passes_throughout t h)

-- ---- what passes is well typed

module _ (checked : (t u : Tree) → TypedBelow t → check_tree t ≡ passes u → Typed u) where
  mutual
    typed_throughout : (t : Tree) → Throughout PassesUnchanged t → Typed t
    typed_throughout (aggregate op e p m) h = checked (aggregate op e p m) (aggregate op e p m) (maybe_typed p h.1, typed_throughout e h.2) h.0
    typed_throughout (unary e) h = checked (unary e) (unary e) (typed_throughout e h.1) h.0
    typed_throughout (binary op l r m) h = checked (binary op l r m) (binary op l r m) (typed_throughout l h.1, typed_throughout r h.2) h.0
    typed_throughout (paren e) h = typed_throughout e h.1
    typed_throughout (subquery e offset at range step) h = checked (subquery e offset at range step) (subquery e offset at range step) (typed_throughout e h.1) h.0
    typed_throughout (number n) h = tt
    typed_throughout (string s) h = tt
    typed_throughout (vector s) h = checked (vector s) (vector s) tt h
    typed_throughout (matrix s range mode) h = checked (vector s) (vector s) tt h
    typed_throughout (call f args) h = checked (call f args) (call f args) (all_typed args h.1) h.0
    typed_throughout (extension name gives es) h = all_typed es h.1

    maybe_typed : (p : MaybeTree) → ThroughoutMaybe PassesUnchanged p → MaybeTyped p
    maybe_typed absent h = tt
    maybe_typed (present e) h = typed_throughout e h

    all_typed : (ts : Trees) → ThroughoutAll PassesUnchanged ts → AllTyped ts
    all_typed no_trees h = tt
    all_typed (first_tree e es) h = (typed_throughout e h.0, all_typed es h.1)

  pub passes_typed : (t : Tree) → Everywhere PassesUnchanged t → Typed t
  passes_typed t h = typed_throughout t (throughout PassesUnchanged t h)
