-- Building makes no extension, so a tree that was read has none.
use Rattle.std.proofs.Common.{◌≡◌, ℕ, List, [], ◌∷◌, subst, refl}
use Rattle.std.specs.Prelude.{◌==◌, Bool, true, false, if◌then◌else◌, not, Option, Some, None, Ok}
use Rattle.promql_text.specs.Texts.{Text}
use Rattle.promql_token.specs.Ids.{is_aggregator_with_param}
use Rattle.promql_token.specs.declared.ids.TheConstants.{T_SUB}
use Rattle.promql_kind.specs.Functions.{Signature, signature, function_named}
use Rattle.promql_kind.specs.Modifiers.{Clause}
use Rattle.promql_label.specs.Answers.{Answer}
use Rattle.promql_grammar.specs.Grammar as grammar
use Rattle.promql_grammar.specs.GrammarParts as part
use Rattle.promql_ast.specs.Arguments.{count}
use Rattle.promql_ast.specs.Builds.{minus, with_range, at_given, offset_given, mode_given, aggregate_args, aggregated_alone, aggregated_with}
use Rattle.promql_ast.specs.Checked.{check_tree}
use Rattle.promql_ast.specs.Checks.{when, unless, is_scalar_or_vector, is_vector}
use Rattle.promql_ast.specs.Faults.{Fault, Verdict, passes, rejected, unary_type, subquery_type}
use Rattle.promql_ast.specs.Selectors.{selector}
use Rattle.promql_ast.specs.Shifts.{Shift, Moment}
use Rattle.promql_ast.specs.Tree.{Tree, aggregate, unary, binary, paren, subquery, number, string, vector, matrix, call, extension, Trees, no_trees, first_tree}
use Rattle.promql_ast.specs.Types.{type_of}
use Rattle.promql_ast.specs.check.AggregateChecks.{aggregate_fault, maybe_type}
use Rattle.promql_ast.specs.check.BinaryChecks.{operator_fault, label_fault, set_fault, side_fault}
use Rattle.promql_ast.specs.check.CallChecks.{arity_fault, typing_fault}
use Rattle.promql_ast.specs.check.VectorChecks.{selector_fault}
use Rattle.promql_ast.specs.declared.range_mode.RangeMode.{RangeMode}
use Rattle.promql_ast.specs.declared.range_mode.RangeMode.TheVariants.{Plain, Smoothed, Anchored}
use Rattle.promql_syntax.specs.ParseAnswers.{IsAnswerTo}
use Rattle.promql_syntax.specs.Asking.{Asking, gives, fails, asks, ◌giving◌, known, Asked, Ends}
use Rattle.promql_syntax.specs.Building.{build, build_all, from_verdict, from_checked_verdict, build_postfix}
use Rattle.promql_syntax.specs.Postfixes.{bound_moment, range_mode}
use Rattle.promql_syntax.specs.PartBuilding.{string_value, number_value, duration_value, time_value, shift_value, moment_value, modifier_value, braces_value}
use Rattle.promql_syntax.specs.Atoms.{any_braces_value}
use Rattle.promql_run.specs.Extensions.{HasNoExtension, NoneInEach}
use Rattle.promql_syntax.specs.PartWords.{build_call, step_value, clause_value}

-- whatever `regex` answers, what is given in the end is one of these
abbrev EachGives : {A : Type 0} → (A → Type 0) → Asking A → Type 0
EachGives P (gives x) = P x
EachGives P (fails fault) = Unit {0}
EachGives P (asks v next) = (a : Answer) → EachGives P (next a)

abbrev Whatever : {A : Type 0} → A → Type 0
Whatever x = Unit {0}

gives_whatever : {A : Type 0} (q : Asking A) → EachGives Whatever q
gives_whatever (gives x) = tt
gives_whatever (fails fault) = tt
gives_whatever (asks v next) = λ a. gives_whatever (next a)

gives_then : {A B : Type 0} (P : A → Type 0) (Q : B → Type 0) (q : Asking A) (f : A → Asking B) → EachGives P q → ((x : A) → P x → EachGives Q (f x)) → EachGives Q (q giving f)
gives_then P Q (gives x) f first next = next x first
gives_then P Q (fails fault) f first next = tt
gives_then P Q (asks v more) f first next = λ a. gives_then P Q (more a) f (first a) next

gives_in_end : {A : Type 0} (P : A → Type 0) (q : Asking A) (answers : List Asked) (x : A) → EachGives P q → Ends q answers (Ok x) → P x
gives_in_end P (gives y) [] x each end = let same : y ≡ x = cc in subst P same each
gives_in_end P (gives y) (a ∷ more) x each end = absurd end
gives_in_end P (fails fault) [] x each end = absurd cc
gives_in_end P (fails fault) (a ∷ more) x each end = absurd end
gives_in_end P (asks v next) [] x each end = absurd end
gives_in_end P (asks v next) (a ∷ more) x each end = gives_in_end P (next a.answer) more x (each a.answer) end.1

-- ---- builders and checks

abbrev PassesPlain : Verdict → Type 0
PassesPlain (passes t) = HasNoExtension t
PassesPlain (rejected fault) = Unit {0}

passing_plain : (v : Verdict) → PassesPlain v → EachGives HasNoExtension (from_verdict v)
passing_plain (passes t) plain = plain
passing_plain (rejected fault) plain = tt

unless_plain : (f : Option Fault) (v : Verdict) → PassesPlain v → PassesPlain (unless f v)
unless_plain None v plain = plain
unless_plain (Some fault) v plain = tt

either_plain : (b : Bool) (v w : Verdict) → PassesPlain v → PassesPlain w → PassesPlain (if b then v else w)
either_plain true v w first second = first
either_plain false v w first second = second

checked_plain : (t : Tree) → HasNoExtension t → PassesPlain (check_tree t)
checked_plain (aggregate op e p m) plain = unless_plain (aggregate_fault op (type_of e) (maybe_type p)) _ plain
checked_plain (unary e) plain = unless_plain (when (not (is_scalar_or_vector (type_of e))) (unary_type (type_of e))) _ plain
checked_plain (binary op l r m) plain =
    unless_plain (operator_fault op (type_of l) (type_of r) m) _
    (unless_plain (label_fault m) _
    (unless_plain (set_fault op (type_of l) (type_of r) m) _
    (unless_plain (side_fault (type_of l) (type_of r) m) _ plain)))
checked_plain (paren e) plain = plain
checked_plain (subquery e offset at range step) plain = unless_plain (when (not (is_vector (type_of e))) (subquery_type (type_of e))) _ plain
checked_plain (number n) plain = tt
checked_plain (string s) plain = tt
checked_plain (vector s) plain = unless_plain (selector_fault s) _ tt
checked_plain (matrix s range mode) plain = tt
checked_plain (call (signature name types variadic returns experimental) args) plain =
    unless_plain (arity_fault name variadic _ (count args)) _ (unless_plain (typing_fault name types args) _ plain)
checked_plain (extension name value es) plain = absurd plain

minus_plain : (t : Tree) → HasNoExtension t → PassesPlain (minus t)
minus_plain (aggregate op e p m) plain = plain
minus_plain (unary e) plain = plain
minus_plain (binary op l r m) plain = plain
minus_plain (paren e) plain = plain
minus_plain (subquery e offset at range step) plain = plain
minus_plain (number n) plain = tt
minus_plain (string s) plain = tt
minus_plain (vector s) plain = tt
minus_plain (matrix s range mode) plain = tt
minus_plain (call f args) plain = plain
minus_plain (extension name value es) plain = absurd plain

ranged_plain : (t : Tree) (n : ℕ) → PassesPlain (with_range t n)
ranged_plain (vector (selector name matchers (Some offset) at)) n = tt
ranged_plain (vector (selector name matchers None (Some at))) n = tt
ranged_plain (vector (selector name matchers None None)) n = tt
ranged_plain _ n = tt

at_plain : (t : Tree) (m : Moment) → HasNoExtension t → PassesPlain (at_given t m)
at_plain (vector (selector name matchers offset None)) m plain = tt
at_plain (vector (selector name matchers offset (Some at))) m plain = tt
at_plain (matrix (selector name matchers offset None) range mode) m plain = tt
at_plain (matrix (selector name matchers offset (Some at)) range mode) m plain = tt
at_plain (subquery e offset None range step) m plain = plain
at_plain (subquery e offset (Some at) range step) m plain = tt
at_plain _ m plain = tt

offset_plain : (t : Tree) (s : Shift) → HasNoExtension t → PassesPlain (offset_given t s)
offset_plain (vector (selector name matchers None at)) s plain = tt
offset_plain (vector (selector name matchers (Some offset) at)) s plain = tt
offset_plain (matrix (selector name matchers None at) range mode) s plain = tt
offset_plain (matrix (selector name matchers (Some offset) at) range mode) s plain = tt
offset_plain (subquery e None at range step) s plain = plain
offset_plain (subquery e (Some offset) at range step) s plain = tt
offset_plain _ s plain = tt

mode_plain : (t : Tree) (mode : RangeMode) → PassesPlain (mode_given t mode)
mode_plain (matrix s range Plain) mode = tt
mode_plain (matrix s range Smoothed) mode = tt
mode_plain (matrix s range Anchored) mode = tt
mode_plain _ mode = tt

alone_plain : (op : ℕ) (m : Option Clause) (ts : Trees) → NoneInEach ts → PassesPlain (aggregated_alone op m ts)
alone_plain op m no_trees plain = tt
alone_plain op m (first_tree e no_trees) plain = (tt, plain.0)
alone_plain op m (first_tree e (first_tree x es)) plain = tt

with_plain : (op : ℕ) (m : Option Clause) (ts : Trees) → NoneInEach ts → PassesPlain (aggregated_with op m ts)
with_plain op m no_trees plain = tt
with_plain op m (first_tree p no_trees) plain = tt
with_plain op m (first_tree p (first_tree e no_trees)) plain = (plain.0, plain.1.0)
with_plain op m (first_tree p (first_tree e (first_tree x es))) plain = tt

aggregated_plain : (op : ℕ) (m : Option Clause) (ts : Trees) → NoneInEach ts → PassesPlain (aggregate_args op m ts)
aggregated_plain op m ts plain = either_plain (is_aggregator_with_param op) _ _ (with_plain op m ts plain) (alone_plain op m ts plain)

-- ---- building

passing_checks_plain : (v : Verdict) → PassesPlain v → EachGives HasNoExtension (from_checked_verdict v)
passing_checks_plain v plain =
    gives_then HasNoExtension HasNoExtension (from_verdict v) _ (passing_plain v plain) (λ t h. passing_plain (check_tree t) (checked_plain t h))

called_plain : (name : Text) (f : Option Signature) (ts : Trees) → NoneInEach ts → EachGives HasNoExtension (build_call name f ts)
called_plain name None ts plain = tt
called_plain name (Some f) ts plain = passing_plain (check_tree (call f ts)) (checked_plain (call f ts) plain)

postfix_plain : (t : Tree) (p : part.Postfix) → HasNoExtension t → EachGives HasNoExtension (build_postfix t p)
postfix_plain t (part.range r) plain =
    gives_then Whatever HasNoExtension (known (time_value r)) _ (gives_whatever _) (λ n _. passing_plain (with_range t n) (ranged_plain t n))
postfix_plain t (part.subquery r s) plain =
    gives_then Whatever HasNoExtension (known (time_value r)) _ (gives_whatever _) (λ n _.
    gives_then Whatever HasNoExtension (known (step_value s)) _ (gives_whatever _) (λ m _.
    passing_plain (check_tree (subquery t None None n m)) (checked_plain (subquery t None None n m) plain)))
postfix_plain t (part.at_number s text) plain =
    gives_then Whatever HasNoExtension (known (moment_value s text)) _ (gives_whatever _) (λ m _. passing_plain (at_given t m) (at_plain t m plain))
postfix_plain t (part.at_bound k text) plain = passing_plain (at_given t (bound_moment k)) (at_plain t (bound_moment k) plain)
postfix_plain t (part.offset text s r) plain =
    gives_then Whatever HasNoExtension (known (shift_value s r)) _ (gives_whatever _) (λ x _. passing_plain (offset_given t x) (offset_plain t x plain))
postfix_plain t (part.mode k text) plain = passing_plain (mode_given t (range_mode k)) (mode_plain t (range_mode k))

either_gives : (b : Bool) (q r : Asking Tree) → EachGives HasNoExtension q → EachGives HasNoExtension r → EachGives HasNoExtension (if b then q else r)
either_gives true q r first second = first
either_gives false q r first second = second

mutual
  built_plain : (d : grammar.Derivation) → EachGives HasNoExtension (build d)
  built_plain (grammar.number text) = gives_then Whatever HasNoExtension (known (number_value text)) _ (gives_whatever _) (λ n _. tt)
  built_plain (grammar.duration text) = gives_then Whatever HasNoExtension (known (duration_value text)) _ (gives_whatever _) (λ n _. tt)
  built_plain (grammar.string text) = gives_then Whatever HasNoExtension (known (string_value text)) _ (gives_whatever _) (λ s _. tt)
  built_plain (grammar.selector k text b) =
      gives_then Whatever HasNoExtension (any_braces_value b) _ (gives_whatever _) (λ cs _.
      passing_plain (check_tree (vector (selector (Some text) cs None None))) (checked_plain (vector (selector (Some text) cs None None)) tt))
  built_plain (grammar.nameless b) =
      gives_then Whatever HasNoExtension (braces_value b) _ (gives_whatever _) (λ cs _.
      passing_plain (check_tree (vector (selector None cs None None))) (checked_plain (vector (selector None cs None None)) tt))
  built_plain (grammar.paren d) = gives_then HasNoExtension HasNoExtension (build d) _ (built_plain d) (λ t plain. plain)
  built_plain (grammar.call k text ds) =
      gives_then NoneInEach HasNoExtension (build_all ds) _ (all_plain ds) (λ ts plain. called_plain text (function_named text) ts plain)
  built_plain (grammar.aggregate op text c ds) =
      gives_then NoneInEach HasNoExtension (build_all ds) _ (all_plain ds) (λ ts plain.
      gives_then Whatever HasNoExtension (known (clause_value c)) _ (gives_whatever _) (λ m _.
      passing_checks_plain (aggregate_args op m ts) (aggregated_plain op m ts plain)))
  built_plain (grammar.postfixed d p) = gives_then HasNoExtension HasNoExtension (build d) _ (built_plain d) (λ t plain. postfix_plain t p plain)
  built_plain (grammar.unary op text d) =
      gives_then HasNoExtension HasNoExtension (build d) _ (built_plain d) (λ t plain.
      either_gives (op == T_SUB) _ _ (passing_checks_plain (minus t) (minus_plain t plain)) plain)
  built_plain (grammar.binary op text m l r) =
      gives_then HasNoExtension HasNoExtension (build l) _ (built_plain l) (λ x first.
      gives_then HasNoExtension HasNoExtension (build r) _ (built_plain r) (λ y second.
      gives_then Whatever HasNoExtension (known (modifier_value m)) _ (gives_whatever _) (λ z _.
      passing_plain (check_tree (binary op x y z)) (checked_plain (binary op x y z) (first, second)))))

  all_plain : (ds : grammar.Arguments) → EachGives NoneInEach (build_all ds)
  all_plain grammar.none = tt
  all_plain (grammar.more d ds) =
      gives_then HasNoExtension NoneInEach (build d) _ (built_plain d) (λ t first.
      gives_then NoneInEach NoneInEach (build_all ds) _ (all_plain ds) (λ ts others. (first, others)))

pub answers_are_plain : (text : Text) (t : Tree) → IsAnswerTo text (Ok t) → HasNoExtension t
answers_are_plain text t is =
    let served = is.served (λ e. cc) in
    let whole = served.1.built (Ok t) refl in
    gives_in_end HasNoExtension (build whole.0) served.0 t (built_plain whole.0) whole.3
