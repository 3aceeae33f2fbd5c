-- The checks reject with the first fault of the root that applies.
use Rattle.std.proofs.Common.{◌≡◌, ◌∙◌, Bool, true, false, List, [], ◌∷◌, ◌++◌, length, Option, Some, None, refl, sym, ap, ◌&&◌, ◌||◌, not, arith}
use Rattle.std.specs.Option.{option_map_or}
use Rattle.std.specs.Prelude.{if◌then◌else◌, unwrap_or, ◌==◌, filter_map, slice_get}
use Rattle.std.proofs.lemmas.Bool.{ne_eqb}
use Rattle.promql_text.specs.Texts.{Text}
use Rattle.promql_token.specs.Ids.{is_comparison_operator, is_operator, is_set_operator}
use Rattle.promql_kind.specs.Functions.{signature}
use Rattle.promql_kind.specs.Modifiers.{one_to_one, many_to_one, one_to_many, many_to_many, Matching, matching, fills}
use Rattle.promql_kind.specs.ValueTypes.{type_eq}
use Rattle.promql_kind.specs.declared.value.ValueType.{ValueType}
use Rattle.promql_ast.specs.Arguments.{count}
use Rattle.promql_ast.specs.Checked.{check_tree}
use Rattle.promql_ast.specs.Checks.{when, first_fault, unless, is_scalar, is_vector, is_scalar_or_vector}
use Rattle.promql_ast.specs.Faults.{Fault, Verdict, passes, rejected, type_expected, in_call, unary_type, subquery_type, binary_operator, bool_modifier, scalar_comparison, set_on_scalar, no_grouping, binary_types, vector_matching}
use Rattle.promql_ast.specs.OptionalModifiers.{has_matching_labels, is_grouped, returns_bool}
use Rattle.promql_ast.specs.RootFaults.{argument_faults, root_faults, to_many, with_set_matching}
use Rattle.promql_ast.specs.Selectors.{selector}
use Rattle.promql_ast.specs.Tree.{Tree, aggregate, unary, binary, paren, subquery, number, string, vector, matrix, call, extension, Trees, no_trees, first_tree}
use Rattle.promql_ast.specs.Types.{type_of}
use Rattle.promql_ast.specs.check.BinaryChecks.{label_fault, settle_matching, settled_set}
use Rattle.promql_ast.specs.check.CallChecks.{arity_fault, is_exempt, types_fault}
use Rattle.promql_ast.specs.check.VectorChecks.{name_fault}

-- ---- lists of faults, one after the other

unless_first : (f : Option Fault) (fs : List (Option Fault)) (v : Verdict)
    → unless f (unless (first_fault fs) v) ≡ unless (first_fault (f ∷ fs)) v
unless_first None fs v = refl
unless_first (Some f) fs v = refl

unless_both : (fs gs : List (Option Fault)) (v : Verdict)
    → unless (first_fault fs) (unless (first_fault gs) v) ≡ unless (first_fault (fs ++ gs)) v
unless_both [] gs v = refl
unless_both (None ∷ fs) gs v = unless_both fs gs v
unless_both (Some f ∷ fs) gs v = refl

all_in_order : (a b c d e f g h : Option Fault) (v w : Verdict) → v ≡ w
    → unless (first_fault (a ∷ b ∷ c ∷ [])) (unless d (unless (first_fault (e ∷ f ∷ [])) (unless (first_fault (g ∷ h ∷ [])) v)))
    ≡ unless (first_fault (a ∷ b ∷ c ∷ d ∷ e ∷ f ∷ g ∷ h ∷ [])) w
all_in_order a b c d e f g h v w same =
    ap (λ x. unless (first_fault (a ∷ b ∷ c ∷ [])) (unless d x)) (unless_both (e ∷ f ∷ []) (g ∷ h ∷ []) v)
    ∙ ap (unless (first_fault (a ∷ b ∷ c ∷ []))) (unless_first d (e ∷ f ∷ g ∷ h ∷ []) v)
    ∙ unless_both (a ∷ b ∷ c ∷ []) (d ∷ e ∷ f ∷ g ∷ h ∷ []) v
    ∙ ap (unless (first_fault (a ∷ b ∷ c ∷ d ∷ e ∷ f ∷ g ∷ h ∷ []))) same

-- ---- arguments

one_more : (b : Bool) (f : Fault) (rest : Option Fault) (fs : List (Option Fault)) → rest ≡ first_fault fs
    → (if b then Some f else rest) ≡ first_fault (when b f ∷ fs)
one_more true f rest fs e = refl
one_more false f rest fs e = e

not_empty : (j : ValueType) (ks : List ValueType) → (length (j ∷ ks) == 0) ≡ false
not_empty j ks = ne_eqb (length (j ∷ ks)) 0 (omega arith)

types_in_order : (name : Text) (ks : List ValueType) (ts : Trees) → types_fault name ks ts ≡ first_fault (argument_faults name ks ts)
types_in_order name [] no_trees = refl
types_in_order name [] (first_tree t ts) = refl
types_in_order name (k ∷ []) no_trees = refl
types_in_order name (k ∷ j ∷ ks) no_trees = refl
types_in_order name (k ∷ []) (first_tree t ts) =
    one_more (not (type_eq k (type_of t))) (type_expected k (in_call name) (Some (type_of t))) _ _ (types_in_order name (k ∷ []) ts)
types_in_order name (k ∷ j ∷ ks) (first_tree t ts) =
    one_more (not (type_eq k (type_of t))) (type_expected k (in_call name) (Some (type_of t))) _ _
    (types_in_order name (j ∷ ks) ts ∙ ap (λ b. first_fault (argument_faults name (if b then k ∷ [] else j ∷ ks) ts)) (sym (not_empty j ks)))

typing_in_order : (b : Bool) (name : Text) (ks : List ValueType) (ts : Trees)
    → (if b then None else types_fault name ks ts) ≡ first_fault (if b then [] else argument_faults name ks ts)
typing_in_order true name ks ts = refl
typing_in_order false name ks ts = types_in_order name ks ts

-- ---- the matching of a set operator

settled_alike : (b : Bool) (m : Option Matching)
    → (if b then Some (settled_set m) else m) ≡ (if b then Some (to_many (unwrap_or m (matching one_to_one None false (fills None None)))) else m)
settled_alike false m = refl
settled_alike true None = refl
settled_alike true (Some (matching one_to_one clause return_bool values)) = refl
settled_alike true (Some (matching (many_to_one ls) clause return_bool values)) = refl
settled_alike true (Some (matching (one_to_many ls) clause return_bool values)) = refl
settled_alike true (Some (matching many_to_many clause return_bool values)) = refl

-- ---- the law

first_faults : (t : Tree) → check_tree t ≡ unless (first_fault (root_faults t)) (passes (with_set_matching t))
first_faults (aggregate op e p m) = refl
first_faults (unary e) = unless_first (when (not (is_scalar_or_vector (type_of e))) (unary_type (type_of e))) [] (passes (unary e))
first_faults (binary op l r m) =
    all_in_order
    (when (not (is_operator op)) (binary_operator op))
    (when (returns_bool m && not (is_comparison_operator op)) bool_modifier)
    (when (is_comparison_operator op && (is_scalar (type_of l) && (is_scalar (type_of r) && not (returns_bool m)))) scalar_comparison)
    (label_fault m)
    (when (is_set_operator op && (is_scalar (type_of l) || is_scalar (type_of r))) (set_on_scalar op))
    (when (is_set_operator op && ((is_vector (type_of l) && is_vector (type_of r)) && is_grouped m)) (no_grouping op))
    (when (not (is_scalar_or_vector (type_of l) && is_scalar_or_vector (type_of r))) binary_types)
    (when (not (is_vector (type_of l) && is_vector (type_of r)) && has_matching_labels m) vector_matching)
    (passes (binary op l r (settle_matching op m))) (passes (with_set_matching (binary op l r m)))
    (ap (λ n. passes (binary op l r n)) (settled_alike (is_set_operator op) m))
first_faults (paren e) = refl
first_faults (subquery e offset at range step) =
    unless_first (when (not (is_vector (type_of e))) (subquery_type (type_of e))) [] (passes (subquery e offset at range step))
first_faults (number n) = refl
first_faults (string s) = refl
first_faults (vector (selector (Some name) matchers offset at)) =
    unless_first (name_fault (Some name) matchers) [] (passes (vector (selector (Some name) matchers offset at)))
first_faults (vector (selector None matchers offset at)) =
    unless_first (name_fault None matchers) [] (passes (vector (selector None matchers offset at)))
first_faults (matrix s range mode) = refl
first_faults (call (signature name types variadic gives experimental) ts) =
    let whole = passes (call (signature name types variadic gives experimental) ts) in
    let arity = arity_fault name variadic (length types) (count ts) in
    ap (λ f. unless arity (unless f whole)) (typing_in_order (is_exempt name ts) name types ts)
    ∙ unless_first arity (if is_exempt name ts then [] else argument_faults name types ts) whole
first_faults (extension name gives es) = refl

first_is : (fs : List (Option Fault)) → first_fault fs ≡ slice_get (filter_map (λ f. f) fs) 0
first_is [] = refl
first_is (None ∷ fs) = first_is fs
first_is (Some f ∷ fs) = refl

pub first_rejects : (t : Tree)
    → check_tree t ≡ option_map_or rejected (slice_get (filter_map (λ f. f) (root_faults t)) 0) (passes (with_set_matching t))
first_rejects t = first_faults t ∙ ap (λ f. unless f (passes (with_set_matching t))) (first_is (root_faults t))
