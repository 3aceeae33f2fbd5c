-- A readable tree is one of at most 512 nodes above one another, by recursion.
use Rattle.std.proofs.Common.{ℕ, zero, suc, List, [], ◌∷◌, ◌++◌, ◌≤◌, ◌<◌, ◌≡◌, ◌≢◌, ◌&&◌, Bool, true, false, true≢false, if◌then◌else◌, nat_lt, refl, sym, arith, Some, None}
use Rattle.std.proofs.lemmas.Bool.Decides.{nat_tests}
use Rattle.std.specs.List.{AllByRecursion, flat_map}
use Rattle.serde_json.specs.Data.{Data}
use Rattle.promql_token.specs.Ids.{is_aggregator, is_one_of, is_operator}
use Rattle.promql_label.specs.PlainMatchers.{PlainMatchers, plain_matchers, every}
use Rattle.promql_kind.specs.Modifiers.{fills, matching}
use Rattle.promql_ast.specs.Fold.{within, maybe_within, all_within}
use Rattle.promql_ast.specs.Height.{height, maybe_height, greatest_height}
use Rattle.promql_ast.specs.Selectors.{selector}
use Rattle.promql_ast.specs.Tree.{Tree, aggregate, unary, binary, paren, subquery, number, string, vector, matrix, call, extension, MaybeTree, absent, present, Trees, no_trees, first_tree}
use Rattle.promql_json.specs.Json.{json_value}
use Rattle.promql_from_json.specs.Readable.{HasReadableParts, IsNoForm, ReadableMatcher, is_binary_operator}
use Rattle.promql_from_json.specs.ReadableBelow.{AllReadableBelow, MaybeReadableBelow, ReadableBelow, ReadableMatchers}
use Rattle.promql_from_json.specs.declared.read_values.TheConstants.{AGGREGATORS, OPERATORS}
use Rattle.promql_from_json.proofs.ReadForms.{no_form}
use Rattle.promql_token.specs.declared.ids.TheConstants.{T_AGGREGATORS_END, T_AGGREGATORS_START, T_OPERATORS_END, T_OPERATORS_START}

abbrev Within : Tree → Type 0
Within = within (Unit {0}) (λ A B. A × B) (λ t below. HasReadableParts t × below)

abbrev MaybeWithin : MaybeTree → Type 0
MaybeWithin = maybe_within (Unit {0}) (λ A B. A × B) (λ t below. HasReadableParts t × below)

abbrev AllWithinTrees : Trees → Type 0
AllWithinTrees = all_within (Unit {0}) (λ A B. A × B) (λ t below. HasReadableParts t × below)

-- ---- ids

abbrev holds_below : (ℕ → Bool) → ℕ → Bool
holds_below p zero = true
holds_below p (suc n) = p zero && holds_below (λ k. p (suc k)) n

both_true : (a b : Bool) → a && b ≡ true → (a ≡ true) × (b ≡ true)
both_true true b h = (refl, h)
both_true false b h = absurd (true≢false (sym h))

at_below : (p : ℕ → Bool) (n k : ℕ) → holds_below p n ≡ true → k < n → p k ≡ true
at_below p zero k all within = absurd (omega arith)
at_below p (suc n) zero all within = (both_true (p zero) _ all).0
at_below p (suc n) (suc k) all within = at_below (λ k. p (suc k)) n k (both_true (p zero) _ all).1 (omega arith)

then_true : (a b : Bool) → (if a then b else true) ≡ true → a ≡ true → b ≡ true
then_true true b h is = h
then_true false b h is = absurd (true≢false (sym is))

pub aggregator : (op : ℕ) → is_aggregator op ≡ true → is_one_of AGGREGATORS op ≡ true
aggregator op is =
    let low : op < T_AGGREGATORS_END = grind (arith, nat_tests, both_true (nat_lt T_AGGREGATORS_START op) (nat_lt op T_AGGREGATORS_END) is) in
    then_true (is_aggregator op) _ (at_below (λ k. if is_aggregator k then is_one_of AGGREGATORS k else true) T_AGGREGATORS_END op refl low) is

pub operator : (op : ℕ) → is_binary_operator op ≡ true → is_one_of OPERATORS op ≡ true
operator op is =
    let among = both_true (is_operator op) _ is in
    let low : op < T_AGGREGATORS_END = grind (arith, nat_tests, both_true (nat_lt T_OPERATORS_START op) (nat_lt op T_OPERATORS_END) among.0) in
    then_true (is_binary_operator op) _ (at_below (λ k. if is_binary_operator k then is_one_of OPERATORS k else true) T_AGGREGATORS_END op refl low) is

-- ---- matchers

all_of_both : {A : Type 0} (P : A → Type 0) (xs ys : List A) → AllByRecursion P (xs ++ ys) → AllByRecursion P xs × AllByRecursion P ys
all_of_both P [] ys all = (tt, all)
all_of_both P (x ∷ xs) ys all = let rest = all_of_both P xs ys all.1 in ((all.0, rest.0), rest.1)

all_in_groups : {A : Type 0} (P : A → Type 0) (gs : List (List A)) → AllByRecursion P (flat_map (λ g. g) gs) → AllByRecursion (AllByRecursion P) gs
all_in_groups P [] all = tt
all_in_groups P (g ∷ gs) all = let both = all_of_both P g (flat_map (λ g. g) gs) all in (both.0, all_in_groups P gs both.1)

each_matcher : (ms : PlainMatchers) → AllByRecursion ReadableMatcher (every ms) → ReadableMatchers ms
each_matcher (plain_matchers plain groups) all =
    let both = all_of_both ReadableMatcher plain (flat_map (λ g. g) groups) all in (both.0, all_in_groups ReadableMatcher groups both.1)

-- ---- trees

mutual
  below : (n : ℕ) (t : Tree) → height t ≤ n → HasReadableParts t → Within t → ReadableBelow n t
  below zero t low own fine = absurd (omega arith)
  below (suc n) (aggregate op e p m) low own fine = (aggregator op own, maybe_below n p (omega arith) fine.0, below n e (omega arith) fine.1.0 fine.1.1)
  below (suc n) (unary e) low own fine = below n e (omega arith) fine.0 fine.1
  below (suc n) (binary op l r None) low own fine = (operator op own, tt, below n l (omega arith) fine.0.0 fine.0.1, below n r (omega arith) fine.1.0 fine.1.1)
  below (suc n) (binary op l r (Some (matching card clause b (fills x y)))) low own fine =
      (operator op own.0, (own.1, own.2), below n l (omega arith) fine.0.0 fine.0.1, below n r (omega arith) fine.1.0 fine.1.1)
  below (suc n) (paren e) low own fine = below n e (omega arith) fine.0 fine.1
  below (suc n) (subquery e offset at range step) low own fine = (own, below n e (omega arith) fine.0 fine.1)
  below (suc n) (number v) low own fine = own
  below (suc n) (string s) low own fine = tt
  below (suc n) (vector (selector name ms offset at)) low own fine = (each_matcher ms own.0, own.1)
  below (suc n) (matrix (selector name ms offset at) range mode) low own fine = (each_matcher ms own.0, own.1)
  below (suc n) (call f args) low own fine = (own, all_below n args (omega arith) fine)
  below (suc n) (extension name gives es) low own fine = absurd own

  maybe_below : (n : ℕ) (p : MaybeTree) → maybe_height p ≤ n → MaybeWithin p → MaybeReadableBelow n p
  maybe_below n absent low fine = tt
  maybe_below n (present e) low fine = below n e low fine.0 fine.1

  all_below : (n : ℕ) (ts : Trees) → greatest_height ts ≤ n → AllWithinTrees ts → AllReadableBelow n ts
  all_below n no_trees low fine = tt
  all_below n (first_tree e es) low fine = (below n e (omega arith) fine.0.0 fine.0.1, all_below n es (omega arith) fine.1)

-- what no tree of at most 512 nodes above one another has is no form
pub no_form_below : (d : Data) → ((t : Tree) → ReadableBelow 512 t → d ≢ json_value t) → IsNoForm d
no_form_below d none = λ t fine. no_form t d (none t (below 512 t fine.0 fine.1.0 fine.1.1))
