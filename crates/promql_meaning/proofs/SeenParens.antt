-- Parentheses that are put where a tree's text needs them mean nothing.
use Rattle.std.proofs.Common.{◌≡◌, refl, ap, ◌∙◌, Bool, true, false, cond}
use Rattle.promql_kind.specs.Functions.{Signature}
use Rattle.promql_ast.specs.Tree.{Tree, aggregate, unary, binary, paren, subquery, number, string, vector, matrix, call, extension, MaybeTree, absent, present, Trees, no_trees, first_tree}
use Rattle.promql_rewrite.specs.Enforcing.{is_info}
use Rattle.promql_rewrite.specs.Parenthesizing.{all_parenthesized, fits_left, fits_range, fits_right, fits_sign, maybe_parenthesized, parenthesized}
use Rattle.promql_meaning.specs.Stores.{Store}
use Rattle.promql_meaning.specs.Seen.{joined, aggregated, negated, operated, stepped, called, extended, none_seen, first_seen, seen, maybe_seen, all_seen, beside, info_beside, is_absent, matchers_in, nothing}
use Rattle.promql_meaning.proofs.SeenClauses.{matchers_in_first, grouped}

in_parens : (t : Tree) → matchers_in (parenthesized t) ≡ matchers_in t
in_parens (aggregate op e p m) = refl
in_parens (unary e) = refl
in_parens (binary op l r m) = refl
in_parens (paren e) = in_parens e
in_parens (subquery e offset at range step) = refl
in_parens (number n) = refl
in_parens (string s) = refl
in_parens (vector s) = refl
in_parens (matrix s range mode) = refl
in_parens (call f args) = refl
in_parens (extension name gives es) = refl

first_in_parens : (args : Trees) → matchers_in_first (all_parenthesized args) ≡ matchers_in_first args
first_in_parens no_trees = refl
first_in_parens (first_tree e es) = in_parens e

module _ (store : Store) where
  info_in_parens : (args : Trees) → info_beside store (all_parenthesized args) ≡ info_beside store args
  info_in_parens no_trees = refl
  info_in_parens (first_tree e no_trees) = refl
  info_in_parens (first_tree e (first_tree labels es)) = in_parens labels

  beside_in_parens : (f : Signature) (args : Trees) → beside store f (all_parenthesized args) ≡ beside store f args
  beside_in_parens f args = λ i. cond (is_absent f) (first_in_parens args i) (cond (is_info f) (info_in_parens args i) nothing)

  placed : (b : Bool) (t : Tree) → seen store (cond b t (paren t)) ≡ seen store t
  placed true t = refl
  placed false t = refl

  mutual
    pub seen_in_parens : (t : Tree) → seen store (parenthesized t) ≡ seen store t
    seen_in_parens (aggregate op e p m) = λ i. aggregated op (seen_in_parens e i) (maybe_in_parens p i) (grouped m)
    seen_in_parens (unary e) = ap negated (placed (fits_sign (parenthesized e)) (parenthesized e) ∙ seen_in_parens e)
    seen_in_parens (binary op l r m) =
        let left = placed (fits_left op (parenthesized l)) (parenthesized l) ∙ seen_in_parens l in
        let right = placed (fits_right op (parenthesized r)) (parenthesized r) ∙ seen_in_parens r in
        λ i. operated op (left i) (right i) (joined m)
    seen_in_parens (paren e) = seen_in_parens e
    seen_in_parens (subquery e offset at range step) =
        ap (λ s. stepped s offset at range step) (placed (fits_range (parenthesized e)) (parenthesized e) ∙ seen_in_parens e)
    seen_in_parens (number n) = refl
    seen_in_parens (string s) = refl
    seen_in_parens (vector s) = refl
    seen_in_parens (matrix s range mode) = refl
    seen_in_parens (call f args) = λ i. called f (beside_in_parens f args i) (all_in_parens args i)
    seen_in_parens (extension name gives es) = λ i. extended name gives (all_in_parens es i)

    maybe_in_parens : (p : MaybeTree) → maybe_seen store (maybe_parenthesized p) ≡ maybe_seen store p
    maybe_in_parens absent = refl
    maybe_in_parens (present e) = λ i. first_seen (seen_in_parens e i) none_seen

    all_in_parens : (es : Trees) → all_seen store (all_parenthesized es) ≡ all_seen store es
    all_in_parens no_trees = refl
    all_in_parens (first_tree e es) = λ i. first_seen (seen_in_parens e i) (all_in_parens es i)
