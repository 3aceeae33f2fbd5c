-- What the parts of each form build.
use Rattle.std.proofs.Common.{◌≡◌, ℕ, ◌<◌, ◌^◌, Bool, ◌&&◌, true, false, refl, sym, ◌∙◌, ap, subst, [], Option, Some, None}
use Rattle.std.specs.Prelude.{Result, Ok, Err, IfOk, is_ok, ◌==◌, cond}
use Rattle.std.specs.declared.alloc.Global.{Global}
use Rattle.std.specs.declared.boxed.Box.{Box}
use Rattle.promql_text.specs.Texts.{Text}
use Rattle.promql_ast.specs.View.{tree_of, trees_of}
use Rattle.promql_ast.specs.declared.expr.Expr.{Expr}
use Rattle.promql_ast.specs.declared.call.FunctionArgs.{FunctionArgs}
use Rattle.promql_syntax.specs.declared.grammar.build_error.BuildError as code
use Rattle.promql_ast.specs.Checked.{check_tree}
use Rattle.promql_token.specs.declared.ids.TheConstants.{T_SUB}
use Rattle.promql_label.specs.PlainMatchers.{PlainMatchers}
use Rattle.promql_kind.specs.Functions.{Signature}
use Rattle.promql_kind.specs.Modifiers.{Clause, Matching}
use Rattle.promql_ast.specs.Builds.{minus, aggregate_args}
use Rattle.promql_ast.specs.Faults.{Verdict, passes, rejected, Gives}
use Rattle.promql_ast.specs.Selectors.{selector}
use Rattle.promql_ast.specs.declared.fault.CheckError.{CheckError}
use Rattle.promql_ast.specs.declared.fault.CheckError.TheVariants as errors
use Rattle.promql_ast.specs.Tree as tree
use Rattle.promql_ast.specs.Tree.{Tree, Trees}
use Rattle.promql_grammar.specs.Grammar as grammar
use Rattle.promql_grammar.specs.GrammarParts as part
use Rattle.promql_grammar.specs.Results.{◌then◌}
use Rattle.promql_syntax.specs.declared.grammar.parsed.ParsedExpr.{ParsedExpr}
use Rattle.promql_syntax.specs.declared.grammar.parsed.ParsedArgs.{ParsedArgs}
use Rattle.promql_syntax.specs.Asking.{Asking, gives, ◌giving◌, known, EndsIn}
use Rattle.promql_syntax.specs.Building.{build, from_verdict, from_checked_verdict, selector_tree, build_postfix}
use Rattle.promql_syntax.specs.BuildErrors.{BuildError, build_error_of, unknown_function}
use Rattle.promql_syntax.specs.FaultTokens.{subexpressions}
use Rattle.promql_syntax.specs.ParsesExpr.{IsExprOf, IsPlaced, tree_result, trees_result, outcome}
use Rattle.promql_syntax.specs.PartBuilding.{modifier_value, time_value, moment_value, shift_value}
use Rattle.promql_syntax.specs.Postfixes.{Change, apply_change, change_value, to_subquery}
use Rattle.promql_syntax.proofs.building.Ending.{ends_known}
use Rattle.promql_syntax.specs.PartWords.{build_call, build_unary, clause_value, step_value}

pub if_ok_both : {X E : Type 0} {P Q R : X → Type 0} (r : Result X E) → IfOk r P → IfOk r Q → ((x : X) → P x → Q x → R x) → IfOk r R
if_ok_both (Ok x) p q both = both x p q
if_ok_both (Err e) p q both = tt

pub is_expr_of : (builds : Bool) (n k : ℕ) (parsed : ParsedExpr) (d : grammar.Derivation) (h : ℕ) (o : Result Tree BuildError) → tree_result parsed ≡ o → parsed.height ≡ h → h ≡ grammar.height d → (builds ≡ true → EndsIn (build d) o)
    → (builds ≡ true → EndsIn (build d) (tree_result parsed) → n < 2 ^ 64 → IsPlaced n (subexpressions k d) parsed.value) → IsExprOf builds n k parsed d
is_expr_of builds n k parsed d h o value tall is ends placed =
    let built : builds ≡ true → EndsIn (build d) (tree_result parsed) = λ on. subst (EndsIn (build d)) (sym value) (ends on) in
    record { tall = tall ∙ is; built = built; placed = λ on fits. placed on (built on) fits }

-- what comes after a value is built where that is
pub goes_on : {X E : Type 0} (builds : Bool) (r : Result X E) (x : X) → r ≡ Ok x → builds ≡ true → (builds && is_ok r) ≡ true
goes_on builds r x is on = ap (λ b. b && is_ok r) on ∙ ap is_ok is

pub ends_given : {A : Type 0} (x y : A) → x ≡ y → EndsIn (gives y) (Ok x)
ends_given x y same = record { answers = []; allowed = tt; ends = ap Ok same }

-- what is known, is this
pub ends_same : {A : Type 0} (r s : Result A BuildError) → s ≡ r → EndsIn (known r) s
ends_same r s same = subst (EndsIn (known r)) (sym same) (ends_known r)

pub ends_passing : (v : Verdict) → EndsIn (from_verdict v) (outcome v)
ends_passing (passes t) = ends_known (Ok t)
ends_passing (rejected f) = ends_known (outcome (rejected f))

pub ends_checked : (v : Verdict) → EndsIn (from_checked_verdict v) (outcome v then λ t. outcome (check_tree t))
ends_checked (passes t) = ends_passing (check_tree t)
ends_checked (rejected f) = ends_known (outcome (rejected f))

-- a tree that was built, or an error
of_box : Result (Box Expr Global) (Box code.BuildError Global) → Result Tree BuildError
of_box v = elim v [ Ok e ↦ Ok (tree_of e.value) | Err f ↦ Err (build_error_of f.value) ]

pub with_tree : (parsed : ParsedExpr) (m : Asking Tree) (e : Box Expr Global) → parsed.value ≡ Ok e → EndsIn m (tree_result parsed) → EndsIn m (Ok (tree_of e.value))
unfolding of_box
with_tree parsed m e is ends = subst (EndsIn m) (ap of_box is) ends

pub with_fault : (parsed : ParsedExpr) (m : Asking Tree) (f : Box code.BuildError Global) → parsed.value ≡ Err f → EndsIn m (tree_result parsed) → EndsIn m (Err (build_error_of f.value))
unfolding of_box
with_fault parsed m f is ends = subst (EndsIn m) (ap of_box is) ends

of_list : Result FunctionArgs (Box code.BuildError Global) → Result Trees BuildError
of_list v = elim v [ Ok a ↦ Ok (trees_of a.args.items) | Err f ↦ Err (build_error_of f.value) ]

pub with_trees : (args : ParsedArgs) (m : Asking Trees) (a : FunctionArgs) → args.value ≡ Ok a → EndsIn m (trees_result args) → EndsIn m (Ok (trees_of a.args.items))
unfolding of_list
with_trees args m a is ends = subst (EndsIn m) (ap of_list is) ends

pub with_no_trees : (args : ParsedArgs) (m : Asking Trees) (f : Box code.BuildError Global) → args.value ≡ Err f → EndsIn m (trees_result args) → EndsIn m (Err (build_error_of f.value))
unfolding of_list
with_no_trees args m f is ends = subst (EndsIn m) (ap of_list is) ends

-- ---- postfixes

known_then : {A : Type 0} (r : Result A BuildError) (f : A → Change) (t : Tree) → (known (r then λ x. Ok (f x)) giving λ c. apply_change t c) ≡ (known r giving λ x. apply_change t (f x))
known_then (Ok x) f t = refl
known_then (Err e) f t = refl

subquery_then : (r : Result ℕ BuildError) (s : Result (Option ℕ) BuildError) (t : Tree)
    → (known (r then λ n. s then λ m. Ok (to_subquery n m)) giving λ c. apply_change t c) ≡ (known r giving λ n. known s giving λ m. from_verdict (check_tree (tree.subquery t None None n m)))
subquery_then (Ok n) (Ok m) t = refl
subquery_then (Ok n) (Err e) t = refl
subquery_then (Err e) s t = refl

pub postfix_changes : (t : Tree) (p : part.Postfix) → (known (change_value p) giving λ c. apply_change t c) ≡ build_postfix t p
postfix_changes t (part.range r) = known_then (time_value r) _ t
postfix_changes t (part.subquery r s) = subquery_then (time_value r) (step_value s) t
postfix_changes t (part.at_number s text) = known_then (moment_value s text) _ t
postfix_changes t (part.at_bound k text) = refl
postfix_changes t (part.offset text s r) = known_then (shift_value s r) _ t
postfix_changes t (part.mode k text) = refl

known_changes : (t : Tree) (p : part.Postfix) (r : Result Change BuildError) (o : Result Tree BuildError) → r ≡ change_value p → EndsIn (known r giving λ c. apply_change t c) o → EndsIn (known (change_value p) giving λ c. apply_change t c) o
known_changes t p r o same ends = subst (λ v. EndsIn (known v giving λ c. apply_change t c) o) same ends

pub postfix_ends : (t : Tree) (p : part.Postfix) (r : Result Change BuildError) (o : Result Tree BuildError) → r ≡ change_value p → EndsIn (known r giving λ c. apply_change t c) o → EndsIn (build_postfix t p) o
postfix_ends t p r o same ends = subst (λ m. EndsIn m o) (postfix_changes t p) (known_changes t p r o same ends)

-- ---- what follows the children

pub gives_or_memory : (r : Result Expr CheckError) (v : Verdict) → Gives ⊥ tree_of r v → Gives (Unit {0}) tree_of r v
gives_or_memory (Ok e) v given = given
gives_or_memory (Err errors.Memory) v given = tt
gives_or_memory (Err (errors.Check f)) v given = given

pub selector_ends : (t : Tree) (name : Option Text) (cs : PlainMatchers) → t ≡ tree.vector (selector name cs None None) → EndsIn (selector_tree name cs) (outcome (check_tree t))
selector_ends t name cs is = subst (λ u. EndsIn (selector_tree name cs) (outcome (check_tree u))) (sym is) (ends_passing (check_tree (tree.vector (selector name cs None None))))

pub call_ends : (name : Text) (f : Option Signature) (g : Signature) (ts : Trees) (t : Tree) → Some g ≡ f → t ≡ tree.call g ts → EndsIn (build_call name f ts) (outcome (check_tree t))
call_ends name f g ts t found is =
    subst (λ h. EndsIn (build_call name h ts) (outcome (check_tree t))) found (subst (λ u. EndsIn (from_verdict (check_tree (tree.call g ts))) (outcome (check_tree u))) (sym is) (ends_passing (check_tree (tree.call g ts))))

pub unknown_ends : (name written : Text) (f : Option Signature) (ts : Trees) → None ≡ f → written ≡ name → EndsIn (build_call name f ts) (Err (unknown_function written))
unknown_ends name written f ts none is = subst (λ h. EndsIn (build_call name h ts) (Err (unknown_function written))) none (ends_same (Err (unknown_function name)) (Err (unknown_function written)) (ap (λ w. Err (unknown_function w)) is))

pub plus_ends : (op : ℕ) (t : Tree) → (op == T_SUB) ≡ false → EndsIn (build_unary op t) (Ok t)
plus_ends op t is = subst (λ b. EndsIn (cond b (from_checked_verdict (minus t)) (gives t)) (Ok t)) (sym is) (ends_known (Ok t))

pub minus_ends : (op : ℕ) (t : Tree) → (op == T_SUB) ≡ true → EndsIn (build_unary op t) (outcome (minus t) then λ u. outcome (check_tree u))
minus_ends op t is = subst (λ b. EndsIn (cond b (from_checked_verdict (minus t)) (gives t)) (outcome (minus t) then λ u. outcome (check_tree u))) (sym is) (ends_checked (minus t))

pub aggregate_ends : (op : ℕ) (c : part.Clause) (m : Option Clause) (ts : Trees) → Ok m ≡ clause_value c
    → EndsIn (known (clause_value c) giving λ x. from_checked_verdict (aggregate_args op x ts)) (outcome (aggregate_args op m ts) then λ t. outcome (check_tree t))
aggregate_ends op c m ts is =
    subst (λ r. EndsIn (known r giving λ x. from_checked_verdict (aggregate_args op x ts)) (outcome (aggregate_args op m ts) then λ t. outcome (check_tree t))) is (ends_checked (aggregate_args op m ts))

pub clause_fails : (op : ℕ) (c : part.Clause) (f : BuildError) (ts : Trees) → Err f ≡ clause_value c → EndsIn (known (clause_value c) giving λ x. from_checked_verdict (aggregate_args op x ts)) (Err f)
clause_fails op c f ts is = subst (λ r. EndsIn (known r giving λ x. from_checked_verdict (aggregate_args op x ts)) (Err f)) is (ends_known (Err f))

pub binary_ends : (op : ℕ) (m : part.Modifier) (z : Option Matching) (x y t : Tree) → Ok z ≡ modifier_value m → t ≡ tree.binary op x y z
    → EndsIn (known (modifier_value m) giving λ w. from_verdict (check_tree (tree.binary op x y w))) (outcome (check_tree t))
binary_ends op m z x y t is made =
    subst (λ r. EndsIn (known r giving λ w. from_verdict (check_tree (tree.binary op x y w))) (outcome (check_tree t))) is
    (subst (λ u. EndsIn (from_verdict (check_tree (tree.binary op x y z))) (outcome (check_tree u))) (sym made) (ends_passing (check_tree (tree.binary op x y z))))

pub modifier_fails : (op : ℕ) (m : part.Modifier) (f : BuildError) (x y : Tree) → Err f ≡ modifier_value m → EndsIn (known (modifier_value m) giving λ w. from_verdict (check_tree (tree.binary op x y w))) (Err f)
modifier_fails op m f x y is = subst (λ r. EndsIn (known r giving λ w. from_verdict (check_tree (tree.binary op x y w))) (Err f)) is (ends_known (Err f))
