-- Trees that are built are well typed, and no higher than their derivations.
use Rattle.std.proofs.Common.{◌≡◌, ℕ, ◌+◌, ◌≤◌, max, true, false, cond, refl, sym, ap, subst, arith, List, [], ◌∷◌, Option, Some, None}
use Rattle.std.specs.Prelude.{Result, Ok, ◌==◌}
use Rattle.promql_text.specs.Texts.{Text}
use Rattle.promql_token.specs.declared.ids.TheConstants.{T_SUB}
use Rattle.promql_label.specs.Answers.{Answer}
use Rattle.promql_label.specs.PlainMatchers.{PlainMatchers}
use Rattle.promql_kind.specs.Functions.{Signature, signature, function_named}
use Rattle.promql_kind.specs.Modifiers.{Clause}
use Rattle.promql_ast.specs.Builds.{negate_tree, minus, with_range, at_given, offset_given, mode_given, aggregate_args, aggregated_alone, aggregated_with}
use Rattle.promql_token.specs.Ids.{is_aggregator_with_param}
use Rattle.promql_ast.specs.Checked.{check_tree}
use Rattle.promql_ast.specs.Checks.{unless}
use Rattle.promql_ast.specs.check.BinaryChecks.{label_fault, operator_fault, set_fault, settle_matching, side_fault}
use Rattle.promql_ast.specs.Types.{type_of}
use Rattle.promql_ast.specs.Faults as build_errors
use Rattle.promql_ast.specs.Faults.{Verdict, passes, rejected}
use Rattle.promql_ast.specs.Height.{height, greatest_height}
use Rattle.promql_ast.specs.Selectors.{selector}
use Rattle.promql_ast.specs.Shifts.{Shift, Moment}
use Rattle.promql_ast.specs.Tree.{Tree, aggregate, unary, binary, paren, subquery, number, string, vector, matrix, call, extension, absent, present, Trees, no_trees, first_tree}
use Rattle.promql_ast.specs.Typed.{Typed, AllTyped, TypedBelow}
use Rattle.promql_ast.specs.declared.range_mode.RangeMode.{RangeMode}
use Rattle.promql_ast.specs.declared.range_mode.RangeMode.TheVariants.{Plain, Smoothed, Anchored}
use Rattle.promql_grammar.specs.Grammar as grammar
use Rattle.promql_grammar.specs.GrammarParts as part
use Rattle.promql_syntax.specs.Asking.{Asking, gives, fails, asks, ◌giving◌, known, Asked, Ends}
use Rattle.promql_syntax.specs.Building.{build, build_all, from_verdict, from_checked_verdict, selector_tree, build_postfix}
use Rattle.promql_syntax.specs.Postfixes.{bound_moment, range_mode}
use Rattle.promql_syntax.specs.BuildErrors.{BuildError}
use Rattle.promql_syntax.specs.PartBuilding.{string_value, number_value, duration_value, time_value, shift_value, moment_value, modifier_value, braces_value}
use Rattle.promql_syntax.specs.Atoms.{any_braces_value}
use Rattle.promql_syntax.specs.PartWords.{build_call, build_unary, step_value, clause_value}

-- whatever is answered, what is given has a property
abbrev pub AllGive : {A : Type 0} → (A → Type 0) → Asking A → Type 0
AllGive P (gives x) = P x
AllGive P (fails e) = Unit {0}
AllGive P (asks v next) = (a : Answer) → AllGive P (next a)

all_then : {A B : Type 0} (P : A → Type 0) (Q : B → Type 0) (m : Asking A) (f : A → Asking B) → AllGive P m → ((x : A) → P x → AllGive Q (f x)) → AllGive Q (m giving f)
all_then P Q (gives x) f all next = next x all
all_then P Q (fails e) f all next = tt
all_then P Q (asks v g) f all next = λ a. all_then P Q (g a) f (all a) next

all_any : {A : Type 0} (m : Asking A) → AllGive (λ _. Unit {0}) m
all_any (gives x) = tt
all_any (fails e) = tt
all_any (asks v next) = λ a. all_any (next a)

-- after what gives anything
any_then : {A B : Type 0} (Q : B → Type 0) (m : Asking A) (f : A → Asking B) → ((x : A) → AllGive Q (f x)) → AllGive Q (m giving f)
any_then Q m f next = all_then (λ _. Unit {0}) Q m f (all_any m) (λ x _. next x)

pub all_ends : {A : Type 0} (P : A → Type 0) (m : Asking A) (xs : List Asked) (x : A) → AllGive P m → Ends m xs (Ok x) → P x
all_ends P (gives y) [] x all ends = let same : y ≡ x = cc in subst P same all
all_ends P (gives y) (a ∷ xs) x all ends = absurd ends
all_ends P (fails e) [] x all ends = cc
all_ends P (fails e) (a ∷ xs) x all ends = absurd ends
all_ends P (asks v next) [] x all ends = absurd ends
all_ends P (asks v next) (a ∷ xs) x all ends = all_ends P (next a.answer) xs x (all a.answer) ends.1

-- ---- trees

pub record IsGood (n : ℕ) (t : Tree) : Type 0 where
  pub typed : Typed t
  pub low : height t ≤ n

record AreGood (n : ℕ) (ts : Trees) : Type 0 where
  typed : AllTyped ts
  low : greatest_height ts ≤ n

all_passing : (P : Tree → Type 0) (v : Verdict) → ((t : Tree) → v ≡ passes t → P t) → AllGive P (from_verdict v)
all_passing P (passes t) good = good t refl
all_passing P (rejected f) good = tt

passes_same : (t u : Tree) → passes t ≡ passes u → t ≡ u
passes_same t u same = cc

unless_passes : (f : Option build_errors.Fault) (v : Verdict) (u : Tree) → unless f v ≡ passes u → v ≡ passes u
unless_passes (Some f) v u is = cc
unless_passes None v u is = is

-- checks change no height
checked_height : (t u : Tree) → check_tree t ≡ passes u → height u ≡ height t
checked_height (aggregate op e p m) u is = ap height (sym (passes_same (aggregate op e p m) u (unless_passes _ _ u is)))
checked_height (unary e) u is = ap height (sym (passes_same (unary e) u (unless_passes _ _ u is)))
checked_height (binary op l r m) u is =
    let one = unless_passes (operator_fault op (type_of l) (type_of r) m) _ u is in
    let two = unless_passes (label_fault m) _ u one in
    let three = unless_passes (set_fault op (type_of l) (type_of r) m) _ u two in
    let four = unless_passes (side_fault (type_of l) (type_of r) m) _ u three in
    ap height (sym (passes_same (binary op l r (settle_matching op m)) u four))
checked_height (paren e) u is = ap height (sym (passes_same (paren e) u is))
checked_height (subquery e offset at range step) u is = ap height (sym (passes_same (subquery e offset at range step) u (unless_passes _ _ u is)))
checked_height (number n) u is = ap height (sym (passes_same (number n) u is))
checked_height (string s) u is = ap height (sym (passes_same (string s) u is))
checked_height (vector s) u is = ap height (sym (passes_same (vector s) u (unless_passes _ _ u is)))
checked_height (matrix s range mode) u is = ap height (sym (passes_same (matrix s range mode) u is))
checked_height (call (signature name types variadic result experimental) ts) u is =
    let one = unless_passes _ _ u is in
    let two = unless_passes _ _ u one in
    ap height (sym (passes_same (call (signature name types variadic result experimental) ts) u two))
checked_height (extension name result es) u is = ap height (sym (passes_same (extension name result es) u is))

-- what the checks accept, over well typed children, is well typed
abbrev pub CheckedTyped : Type 0
CheckedTyped = (t u : Tree) → TypedBelow t → check_tree t ≡ passes u → Typed u

all_checked : CheckedTyped → (n : ℕ) (t : Tree) → TypedBelow t → height t ≤ n → AllGive (IsGood n) (from_verdict (check_tree t))
all_checked law n t below low = all_passing (IsGood n) (check_tree t) (λ u is. record {
  typed = law t u below is;
  low = let same = checked_height t u is in omega arith;
})

-- what is well typed, is so below its root
below_root : (t : Tree) → Typed t → TypedBelow t
below_root (aggregate op e p m) typed = typed.1
below_root (unary e) typed = typed.1
below_root (binary op l r m) typed = typed.1
below_root (paren e) typed = typed
below_root (subquery e offset at range step) typed = typed.1
below_root (number n) typed = tt
below_root (string s) typed = tt
below_root (vector s) typed = tt
below_root (matrix s range mode) typed = typed
below_root (call f args) typed = typed.1
below_root (extension name result es) typed = typed

-- ---- each form

negated_below : (t : Tree) → Typed t → TypedBelow (negate_tree t)
negated_below (number n) typed = tt
negated_below t typed = typed

negated_low : (n : ℕ) (t : Tree) → height t ≤ n → height (negate_tree t) ≤ 1 + n
negated_low n (number m) low = omega arith
negated_low n t low = omega arith

minus_negated : (t u : Tree) → minus t ≡ passes u → u ≡ negate_tree t
minus_negated (string s) u is = cc
minus_negated (matrix s range mode) u is = cc
minus_negated t u is = cc

minus_good : CheckedTyped → (n : ℕ) (t : Tree) → IsGood n t → AllGive (IsGood (1 + n)) (from_checked_verdict (minus t))
minus_good law n t good =
    all_then (λ u. u ≡ negate_tree t) (IsGood (1 + n)) (from_verdict (minus t)) (λ u. from_verdict (check_tree u))
    (all_passing (λ u. u ≡ negate_tree t) (minus t) (minus_negated t))
    (λ u is. all_checked law (1 + n) u (subst TypedBelow (sym is) (negated_below t good.typed)) (subst (λ v. height v ≤ 1 + n) (sym is) (negated_low n t good.low)))

higher : (m n : ℕ) (t : Tree) → IsGood m t → m ≤ n → IsGood n t
higher m n t good le = record { typed = good.typed; low = let low = good.low in omega arith }

sign_good : CheckedTyped → (n op : ℕ) (t : Tree) → IsGood n t → AllGive (IsGood (1 + n)) (build_unary op t)
sign_good law n op t good = elim (op == T_SUB) as (λ b. AllGive (IsGood (1 + n)) (cond b (from_checked_verdict (minus t)) (gives t))) [
  | true ↦ minus_good law n t good
  | false ↦ higher n (1 + n) t good (omega arith)
]

selector_good : CheckedTyped → (name : Option Text) (cs : PlainMatchers) → AllGive (IsGood 1) (selector_tree name cs)
selector_good law name cs = all_checked law 1 (vector (selector name cs None None)) tt (omega arith)

called_good : CheckedTyped → (n : ℕ) (name : Text) (f : Option Signature) (ts : Trees) → AreGood n ts → AllGive (IsGood (1 + n)) (build_call name f ts)
called_good law n name None ts good = tt
called_good law n name (Some f) ts good = all_checked law (1 + n) (call f ts) good.typed (let low = good.low in omega arith)

-- what an aggregation is made of: its arguments
record IsMade (n : ℕ) (t : Tree) : Type 0 where
  below : TypedBelow t
  low : height t ≤ n

alone_made : (n op : ℕ) (m : Option Clause) (ts : Trees) (u : Tree) → AreGood n ts → aggregated_alone op m ts ≡ passes u → IsMade (1 + n) u
alone_made n op m no_trees u good is = cc
alone_made n op m (first_tree e no_trees) u good is =
    let same = passes_same (aggregate op e absent m) u is in
    subst (IsMade (1 + n)) same (record { below = (tt, good.typed.0); low = let low = good.low in omega arith })
alone_made n op m (first_tree e (first_tree f ts)) u good is = cc

with_made : (n op : ℕ) (m : Option Clause) (ts : Trees) (u : Tree) → AreGood n ts → aggregated_with op m ts ≡ passes u → IsMade (1 + n) u
with_made n op m no_trees u good is = cc
with_made n op m (first_tree p no_trees) u good is = cc
with_made n op m (first_tree p (first_tree e no_trees)) u good is =
    let same = passes_same (aggregate op e (present p) m) u is in
    subst (IsMade (1 + n)) same (record { below = (good.typed.0, good.typed.1.0); low = let low = good.low in omega arith })
with_made n op m (first_tree p (first_tree e (first_tree f ts))) u good is = cc

aggregated_made : (n op : ℕ) (m : Option Clause) (ts : Trees) (u : Tree) → AreGood n ts → aggregate_args op m ts ≡ passes u → IsMade (1 + n) u
aggregated_made n op m ts u good = elim (is_aggregator_with_param op) as (λ b. cond b (aggregated_with op m ts) (aggregated_alone op m ts) ≡ passes u → IsMade (1 + n) u) [
  | true ↦ with_made n op m ts u good
  | false ↦ alone_made n op m ts u good
]

aggregated_good : CheckedTyped → (n op : ℕ) (m : Option Clause) (ts : Trees) → AreGood n ts → AllGive (IsGood (1 + n)) (from_checked_verdict (aggregate_args op m ts))
aggregated_good law n op m ts good =
    all_then (IsMade (1 + n)) (IsGood (1 + n)) (from_verdict (aggregate_args op m ts)) (λ u. from_verdict (check_tree u))
    (all_passing (IsMade (1 + n)) (aggregate_args op m ts) (λ u is. aggregated_made n op m ts u good is))
    (λ u made. all_checked law (1 + n) u made.below made.low)

-- ---- postfixes

ranged_good : (n : ℕ) (t : Tree) (range : ℕ) → IsGood n t → AllGive (IsGood n) (from_verdict (with_range t range))
ranged_good n (vector (selector name cs None None)) range good = record { typed = good.typed; low = good.low }
ranged_good n (vector (selector name cs None (Some at))) range good = tt
ranged_good n (vector (selector name cs (Some offset) at)) range good = tt
ranged_good n t range good = tt

at_good : (n : ℕ) (t : Tree) (at : Moment) → IsGood n t → AllGive (IsGood n) (from_verdict (at_given t at))
at_good n (vector (selector name cs offset None)) at good = record { typed = good.typed; low = good.low }
at_good n (vector (selector name cs offset (Some before))) at good = tt
at_good n (matrix (selector name cs offset None) range mode) at good = record { typed = good.typed; low = good.low }
at_good n (matrix (selector name cs offset (Some before)) range mode) at good = tt
at_good n (subquery e offset None range step) at good = record { typed = good.typed; low = good.low }
at_good n (subquery e offset (Some before) range step) at good = tt
at_good n t at good = tt

offset_good : (n : ℕ) (t : Tree) (offset : Shift) → IsGood n t → AllGive (IsGood n) (from_verdict (offset_given t offset))
offset_good n (vector (selector name cs None at)) offset good = record { typed = good.typed; low = good.low }
offset_good n (vector (selector name cs (Some before) at)) offset good = tt
offset_good n (matrix (selector name cs None at) range mode) offset good = record { typed = good.typed; low = good.low }
offset_good n (matrix (selector name cs (Some before) at) range mode) offset good = tt
offset_good n (subquery e None at range step) offset good = record { typed = good.typed; low = good.low }
offset_good n (subquery e (Some before) at range step) offset good = tt
offset_good n t offset good = tt

mode_good : (n : ℕ) (t : Tree) (mode : RangeMode) → IsGood n t → AllGive (IsGood n) (from_verdict (mode_given t mode))
mode_good n (matrix s range Plain) mode good = record { typed = good.typed; low = good.low }
mode_good n (matrix s range Smoothed) mode good = tt
mode_good n (matrix s range Anchored) mode good = tt
mode_good n t mode good = tt

-- what adds nothing to the height
same_height : (n : ℕ) (t : Tree) (p : part.Postfix) → grammar.added_height p ≡ 0 → AllGive (IsGood n) (build_postfix t p) → AllGive (IsGood (grammar.added_height p + n)) (build_postfix t p)
same_height n t p none good = let same : n ≡ grammar.added_height p + n = omega arith in subst (λ i. AllGive (IsGood i) (build_postfix t p)) same good

postfix_good : CheckedTyped → (n : ℕ) (t : Tree) (p : part.Postfix) → IsGood n t → AllGive (IsGood (grammar.added_height p + n)) (build_postfix t p)
postfix_good law n t (part.range r) good = same_height n t (part.range r) refl (any_then (IsGood n) (known (time_value r)) (λ x. from_verdict (with_range t x)) (λ x. ranged_good n t x good))
postfix_good law n t (part.subquery r s) good =
    any_then (IsGood (1 + n)) (known (time_value r)) (λ x. known (step_value s) giving λ y. from_verdict (check_tree (subquery t None None x y)))
    (λ x. any_then (IsGood (1 + n)) (known (step_value s)) (λ y. from_verdict (check_tree (subquery t None None x y)))
    (λ y. all_checked law (1 + n) (subquery t None None x y) good.typed (let low = good.low in omega arith)))
postfix_good law n t (part.at_number s text) good = same_height n t (part.at_number s text) refl (any_then (IsGood n) (known (moment_value s text)) (λ x. from_verdict (at_given t x)) (λ x. at_good n t x good))
postfix_good law n t (part.at_bound k text) good = same_height n t (part.at_bound k text) refl (at_good n t (bound_moment k) good)
postfix_good law n t (part.offset text s r) good = same_height n t (part.offset text s r) refl (any_then (IsGood n) (known (shift_value s r)) (λ x. from_verdict (offset_given t x)) (λ x. offset_good n t x good))
postfix_good law n t (part.mode k text) good = same_height n t (part.mode k text) refl (mode_good n t (range_mode k) good)

-- ---- derivations

leaf_good : {A : Type 0} (r : Result A BuildError) (f : A → Tree) → ((x : A) → IsGood 1 (f x)) → AllGive (IsGood 1) (known r giving λ x. gives (f x))
leaf_good r f good = any_then (IsGood 1) (known r) (λ x. gives (f x)) good

mutual
  pub build_good : CheckedTyped → (d : grammar.Derivation) → AllGive (IsGood (grammar.height d)) (build d)
  build_good law (grammar.number text) = any_then (IsGood 1) (known (number_value text)) _ (λ n. record { typed = tt; low = omega arith })
  build_good law (grammar.duration text) = any_then (IsGood 1) (known (duration_value text)) _ (λ n. record { typed = tt; low = omega arith })
  build_good law (grammar.string text) = any_then (IsGood 1) (known (string_value text)) _ (λ s. record { typed = tt; low = omega arith })
  build_good law (grammar.selector k text b) = any_then (IsGood 1) (any_braces_value b) (λ cs. selector_tree (Some text) cs) (λ cs. selector_good law (Some text) cs)
  build_good law (grammar.nameless b) = any_then (IsGood 1) (braces_value b) (λ cs. selector_tree None cs) (λ cs. selector_good law None cs)
  build_good law (grammar.paren d) =
      all_then (IsGood (grammar.height d)) (IsGood (1 + grammar.height d)) (build d) (λ t. gives (paren t)) (build_good law d)
      (λ t good. record { typed = good.typed; low = let low = good.low in omega arith })
  build_good law (grammar.call k text ds) =
      all_then (AreGood (grammar.greatest_height ds)) (IsGood (1 + grammar.greatest_height ds)) (build_all ds) (λ ts. build_call text (function_named text) ts) (all_good law ds)
      (λ ts good. called_good law (grammar.greatest_height ds) text (function_named text) ts good)
  build_good law (grammar.aggregate op text c ds) =
      all_then (AreGood (grammar.greatest_height ds)) (IsGood (1 + grammar.greatest_height ds)) (build_all ds) (λ ts. known (clause_value c) giving λ m. from_checked_verdict (aggregate_args op m ts)) (all_good law ds)
      (λ ts good. any_then (IsGood (1 + grammar.greatest_height ds)) (known (clause_value c)) (λ m. from_checked_verdict (aggregate_args op m ts)) (λ m. aggregated_good law (grammar.greatest_height ds) op m ts good))
  build_good law (grammar.postfixed d p) =
      all_then (IsGood (grammar.height d)) (IsGood (grammar.added_height p + grammar.height d)) (build d) (λ t. build_postfix t p) (build_good law d)
      (λ t good. postfix_good law (grammar.height d) t p good)
  build_good law (grammar.unary op text d) =
      all_then (IsGood (grammar.height d)) (IsGood (1 + grammar.height d)) (build d) (λ t. build_unary op t) (build_good law d)
      (λ t good. sign_good law (grammar.height d) op t good)
  build_good law (grammar.binary op text m l r) =
      let n = 1 + max (grammar.height l) (grammar.height r) in
      all_then (IsGood (grammar.height l)) (IsGood n) (build l) (λ x. build r giving λ y. known (modifier_value m) giving λ z. from_verdict (check_tree (binary op x y z))) (build_good law l)
      (λ x left. all_then (IsGood (grammar.height r)) (IsGood n) (build r) (λ y. known (modifier_value m) giving λ z. from_verdict (check_tree (binary op x y z))) (build_good law r)
      (λ y right. any_then (IsGood n) (known (modifier_value m)) (λ z. from_verdict (check_tree (binary op x y z)))
      (λ z. all_checked law n (binary op x y z) (left.typed, right.typed) (let a = left.low in let b = right.low in omega arith))))

  all_good : CheckedTyped → (ds : grammar.Arguments) → AllGive (AreGood (grammar.greatest_height ds)) (build_all ds)
  all_good law grammar.none = record { typed = tt; low = omega arith }
  all_good law (grammar.more d ds) =
      let n = max (grammar.height d) (grammar.greatest_height ds) in
      all_then (IsGood (grammar.height d)) (AreGood n) (build d) (λ t. build_all ds giving λ ts. gives (first_tree t ts)) (build_good law d)
      (λ t good. all_then (AreGood (grammar.greatest_height ds)) (AreGood n) (build_all ds) (λ ts. gives (first_tree t ts)) (all_good law ds)
      (λ ts rest. record { typed = (good.typed, rest.typed); low = let a = good.low in let b = rest.low in omega arith }))
