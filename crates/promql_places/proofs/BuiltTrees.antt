-- Which trees a derivation can build.
use Rattle.std.proofs.Common.{◌≡◌, ◌⊎◌, inl, inr, ℕ, Bool, true, false, not, cond, List, [], ◌∷◌, Option, Some, None, Result, Ok, refl, sym, ap, subst}
use Rattle.std.specs.Prelude.{◌==◌}
use Rattle.promql_text.specs.Texts.{Text}
use Rattle.promql_text.specs.declared.number.Number.{Number}
use Rattle.promql_text.specs.Values.{from_nanos, neg}
use Rattle.promql_token.specs.declared.ids.TheConstants.{T_SUB}
use Rattle.promql_grammar.specs.Grammar as grammar
use Rattle.promql_grammar.specs.Grammar.{Derivation, Arguments}
use Rattle.promql_grammar.specs.GrammarParts as part
use Rattle.promql_kind.specs.Functions.{Signature, function_named}
use Rattle.promql_kind.specs.Modifiers.{Clause, Matching}
use Rattle.promql_ast.specs.Builds.{aggregate_args, at_given, minus, mode_given, offset_given, with_range}
use Rattle.promql_ast.specs.Checked.{check_tree}
use Rattle.promql_ast.specs.Checks.{is_vector, unless, when}
use Rattle.promql_ast.specs.Faults as faults
use Rattle.promql_ast.specs.Faults.{Verdict, passes, subquery_type}
use Rattle.promql_ast.specs.Selectors.{Selector, selector}
use Rattle.promql_ast.specs.Shifts.{Moment, Shift}
use Rattle.promql_ast.specs.Tree.{Tree, aggregate, unary, binary, paren, subquery, number, string, vector, matrix, call, MaybeTree, Trees, no_trees, first_tree}
use Rattle.promql_ast.specs.Types.{type_of}
use Rattle.promql_ast.specs.check.BinaryChecks.{settle_matching}
use Rattle.promql_ast.specs.check.VectorChecks.{selector_fault}
use Rattle.promql_ast.specs.declared.range_mode.RangeMode.{RangeMode}
use Rattle.promql_ast.specs.declared.range_mode.RangeMode.TheVariants.{Plain}
use Rattle.promql_syntax.specs.Asking.{AreAllowed, Asking, gives, fails, asks, ◌giving◌, known, Asked, Ends, EndsIn}
use Rattle.promql_syntax.specs.Building.{build, build_all, build_postfix, from_checked_verdict, from_verdict, selector_tree}
use Rattle.promql_syntax.specs.Postfixes.{bound_moment, range_mode}
use Rattle.promql_syntax.specs.BuildErrors.{BuildError, check, unknown_function}
use Rattle.promql_syntax.specs.PartBuilding.{braces_value, duration_value, modifier_value, moment_value, number_value, shift_value, string_value, time_value}
use Rattle.promql_syntax.specs.Atoms.{any_braces_value}
use Rattle.promql_syntax.proofs.readback.CheckedAgain.{aggregate_again, aggregates, arguments, call_again, same_tree, unary_again}
use Rattle.promql_syntax.proofs.printed.PrintedModifiers.{binary_checked}
use Rattle.promql_syntax.specs.PartWords.{build_call, build_unary, clause_value, step_value}

-- ---- building that gives a value

abbrev pub Gives : {A : Type 0} → Asking A → A → Type 0
Gives m x = EndsIn m (Ok x)

record Splits {A B : Type 0} (m : Asking A) (f : A → Asking B) (y : B) : Type 0 where
  value : A
  first : Gives m value
  then_ : Gives (f value) y

splits : {A B : Type 0} (m : Asking A) (f : A → Asking B) (answers : List Asked) (y : B) → AreAllowed answers → Ends (m giving f) answers (Ok y) → Splits m f y
splits (gives x) f answers y allowed h =
    record { value = x; first = record { answers = []; allowed = tt; ends = refl }; then_ = record { answers = answers; allowed = allowed; ends = h } }
splits (fails fault) f [] y allowed h = cc
splits (fails fault) f (a ∷ more) y allowed h = absurd h
splits (asks v next) f [] y allowed h = absurd h
splits (asks v next) f (a ∷ more) y allowed h =
    let rest = splits (next a.answer) f more y allowed.1 h.1 in
    record {
      value = rest.value;
      first = record { answers = a ∷ rest.first.answers; allowed = (allowed.0, rest.first.allowed); ends = (h.0, rest.first.ends) };
      then_ = rest.then_;
    }

split : {A B : Type 0} (m : Asking A) (f : A → Asking B) (y : B) → Gives (m giving f) y → Splits m f y
split m f y g = splits m f g.answers y g.allowed g.ends

same_value : {A : Type 0} {x y : A} → Ok x ≡ (let r : Result A BuildError = Ok y in r) → x ≡ y
same_value e = cc

given : {A : Type 0} (x y : A) → Gives (gives x) y → y ≡ x
given x y g = by g.answers g.ends
  where
    by : (answers : List Asked) → Ends (gives x) answers (Ok y) → y ≡ x
    by [] h = same_value h
    by (a ∷ more) h = absurd h

none_given : {A : Type 0} {B : Type 0} (fault : BuildError) (y : A) → Gives (fails fault) y → B
none_given {A} {B} fault y g = by g.answers g.ends
  where
    by : (answers : List Asked) → Ends {A = A} (fails fault) answers (Ok y) → B
    by [] h = cc
    by (a ∷ more) h = absurd h

verdict_given : (v : Verdict) (t : Tree) → Gives (from_verdict v) t → v ≡ passes t
verdict_given (passes u) t g = ap passes (sym (given u t g))
verdict_given (faults.rejected fault) t g = none_given (check fault) t g

-- ---- checks give the tree that they check

unless_passes : (f : Option faults.Fault) (v : Verdict) (u : Tree) → unless f v ≡ passes u → v ≡ passes u
unless_passes (Some f) v u e = cc
unless_passes None v u e = e

vector_checked : (s : Selector) (t : Tree) → check_tree (vector s) ≡ passes t → t ≡ vector s
vector_checked s t h = sym (same_tree _ _ (unless_passes (selector_fault s) (passes (vector s)) t h))

subquery_checked : (e : Tree) (offset : Option Shift) (at : Option Moment) (range : ℕ) (step : Option ℕ) (t : Tree) → check_tree (subquery e offset at range step) ≡ passes t → t ≡ subquery e offset at range step
subquery_checked e offset at range step t h = sym (same_tree _ _ (unless_passes (when (not (is_vector (type_of e))) (subquery_type (type_of e))) (passes (subquery e offset at range step)) t h))

checked_given : (u t : Tree) → Gives (from_verdict (check_tree u)) t → check_tree u ≡ passes t
checked_given u t g = verdict_given (check_tree u) t g

record PassesBoth (v : Verdict) (t : Tree) : Type 0 where
  tree : Tree
  made : v ≡ passes tree
  checked : check_tree tree ≡ passes t

both_given : (v : Verdict) (t : Tree) → Gives (from_checked_verdict v) t → PassesBoth v t
both_given v t g =
    let u = split (from_verdict v) (λ t. from_verdict (check_tree t)) t g in
    record { tree = u.value; made = verdict_given v u.value u.first; checked = checked_given u.value t u.then_ }

-- ---- postfixes

-- a postfix that leaves its base a node of the same sort
pub data Sort : Type 0 where
  selects : Sort
  ranges : Sort
  queries : Tree → Sort
  others : Sort

abbrev pub sort_of : Tree → Sort
sort_of (vector s) = selects
sort_of (matrix s range mode) = ranges
sort_of (subquery e offset at range step) = queries e
sort_of t = others

pub record Alike (s t : Tree) : Type 0 where
  pub same : sort_of s ≡ sort_of t
  pub takes : ¬ (sort_of s ≡ others)

at_alike : (s t : Tree) (m : Moment) → at_given s m ≡ passes t → Alike s t
at_alike (vector (selector name cs offset None)) t m e = record { same = ap sort_of (same_tree _ _ e); takes = λ h. cc }
at_alike (matrix (selector name cs offset None) range mode) t m e = record { same = ap sort_of (same_tree _ _ e); takes = λ h. cc }
at_alike (subquery e offset None range step) t m h = record { same = ap sort_of (same_tree _ _ h); takes = λ h. cc }
at_alike s t m e = cc

offset_alike : (s t : Tree) (x : Shift) → offset_given s x ≡ passes t → Alike s t
offset_alike (vector (selector name cs None at)) t x e = record { same = ap sort_of (same_tree _ _ e); takes = λ h. cc }
offset_alike (matrix (selector name cs None at) range mode) t x e = record { same = ap sort_of (same_tree _ _ e); takes = λ h. cc }
offset_alike (subquery e None at range step) t x h = record { same = ap sort_of (same_tree _ _ h); takes = λ h. cc }
offset_alike s t x e = cc

mode_alike : (s t : Tree) (mode : RangeMode) → mode_given s mode ≡ passes t → Alike s t
mode_alike (matrix s range Plain) t mode e = record { same = ap sort_of (same_tree _ _ e); takes = λ h. cc }
mode_alike s t mode e = cc

-- a range makes a matrix selector of a selector
pub record Ranged (s t : Tree) : Type 0 where
  pub base : Selector
  pub chosen : Selector
  pub range : ℕ
  pub mode : RangeMode
  pub before : s ≡ vector base
  pub after : t ≡ matrix chosen range mode

range_ranged : (s t : Tree) (n : ℕ) → with_range s n ≡ passes t → Ranged s t
range_ranged (vector (selector name cs None None)) t n e =
    record { base = selector name cs None None; chosen = selector name cs None None; range = n; mode = Plain; before = refl; after = sym (same_tree _ _ e) }
range_ranged s t n e = cc

pub record Queried (s t : Tree) : Type 0 where
  pub range : ℕ
  pub step : Option ℕ
  pub is : t ≡ subquery s None None range step

abbrev pub PostfixOf : part.Postfix → Tree → Tree → Type 0
PostfixOf (part.range r) s t = Ranged s t
PostfixOf (part.subquery r e) s t = Queried s t
PostfixOf p s t = Alike s t

postfix_given : (p : part.Postfix) (s t : Tree) → Gives (build_postfix s p) t → PostfixOf p s t
postfix_given (part.range r) s t g =
    let n = split (known (time_value r)) (λ n. from_verdict (with_range s n)) t g in
    range_ranged s t n.value (verdict_given (with_range s n.value) t n.then_)
postfix_given (part.subquery r e) s t g =
    let n = split (known (time_value r)) (λ n. known (step_value e) giving λ m. from_verdict (check_tree (subquery s None None n m))) t g in
    let m = split (known (step_value e)) (λ m. from_verdict (check_tree (subquery s None None n.value m))) t n.then_ in
    record { range = n.value; step = m.value; is = subquery_checked s None None n.value m.value t (checked_given (subquery s None None n.value m.value) t m.then_) }
postfix_given (part.at_number e text) s t g =
    let m = split (known (moment_value e text)) (λ m. from_verdict (at_given s m)) t g in at_alike s t m.value (verdict_given (at_given s m.value) t m.then_)
postfix_given (part.at_bound k text) s t g = at_alike s t (bound_moment k) (verdict_given (at_given s (bound_moment k)) t g)
postfix_given (part.offset text e r) s t g =
    let x = split (known (shift_value e r)) (λ x. from_verdict (offset_given s x)) t g in offset_alike s t x.value (verdict_given (offset_given s x.value) t x.then_)
postfix_given (part.mode k text) s t g = mode_alike s t (range_mode k) (verdict_given (mode_given s (range_mode k)) t g)

-- ---- unary operators

-- a minus makes a number of a number, and a node of everything else
abbrev pub MinusOf : Tree → Tree → Type 0
MinusOf (number n) t = (m : Number) × (t ≡ number m)
MinusOf s t = t ≡ unary s

unary_checked : (s t : Tree) → check_tree (unary s) ≡ passes t → t ≡ unary s
unary_checked s t h = sym (unary_again s t h).is

minus_made : (s u t : Tree) → minus s ≡ passes u → check_tree u ≡ passes t → MinusOf s t
minus_made (number n) u t e h = (neg n, sym (same_tree _ _ (subst (λ v. check_tree v ≡ passes t) (sym (same_tree _ _ e)) h)))
minus_made (string v) u t e h = cc
minus_made (matrix v range mode) u t e h = cc
minus_made s u t e h = unary_checked s t (subst (λ v. check_tree v ≡ passes t) (sym (same_tree _ _ e)) h)

abbrev pub UnaryOf : ℕ → Tree → Tree → Type 0
UnaryOf op s t = ((op == T_SUB ≡ true) × MinusOf s t) ⊎ ((op == T_SUB ≡ false) × (t ≡ s))

unary_given : (op : ℕ) (s t : Tree) → Gives (build_unary op s) t → UnaryOf op s t
unary_given op s t g = by (op == T_SUB) refl g
  where
    by : (b : Bool) → op == T_SUB ≡ b → Gives (cond b (from_checked_verdict (minus s)) (gives s)) t → UnaryOf op s t
    by true is h = let both = both_given (minus s) t h in inl (is, minus_made s both.tree t both.made both.checked)
    by false is h = inr (is, given s t h)

-- ---- calls, aggregations, operators

pub record Called (ds : Arguments) (t : Tree) : Type 0 where
  pub called : Signature
  pub trees : Trees
  pub arguments : Gives (build_all ds) trees
  pub is : t ≡ call called trees

call_given : (text : Text) (o : Option Signature) (ds : Arguments) (ts : Trees) (t : Tree) → Gives (build_all ds) ts → Gives (build_call text o ts) t → Called ds t
call_given text None ds ts t all g = none_given (unknown_function text) t g
call_given text (Some f) ds ts t all g = record { called = f; trees = ts; arguments = all; is = sym (call_again f ts t (checked_given (call f ts) t g)).is }

pub record Aggregated (op : ℕ) (ds : Arguments) (t : Tree) : Type 0 where
  pub tree : Tree
  pub param : MaybeTree
  pub clause : Option Clause
  pub arguments : Gives (build_all ds) (arguments param tree)
  pub is : t ≡ aggregate op tree param clause

aggregate_given : (op : ℕ) (c : part.Clause) (ds : Arguments) (ts : Trees) (t : Tree) → Gives (build_all ds) ts → Gives (known (clause_value c) giving λ m. from_checked_verdict (aggregate_args op m ts)) t → Aggregated op ds t
aggregate_given op c ds ts t all g =
    let m = split (known (clause_value c)) (λ m. from_checked_verdict (aggregate_args op m ts)) t g in
    let both = both_given (aggregate_args op m.value ts) t m.then_ in
    let a = aggregates op m.value ts both.tree both.made in
    record {
      tree = a.tree;
      param = a.param;
      clause = m.value;
      arguments = subst (λ us. Gives (build_all ds) us) a.all all;
      is = sym (aggregate_again op a.tree a.param m.value m.value t (subst (λ u. check_tree u ≡ passes t) a.is both.checked)).is;
    }

pub record Sided (op : ℕ) (l r : Derivation) (t : Tree) : Type 0 where
  pub left : Tree
  pub right : Tree
  pub matching : Option Matching
  pub first : Gives (build l) left
  pub second : Gives (build r) right
  pub is : t ≡ binary op left right matching

-- ---- any derivation

pub record Based (d : Derivation) (p : part.Postfix) (t : Tree) : Type 0 where
  pub base : Tree
  pub first : Gives (build d) base
  pub is : PostfixOf p base t

pub record Signed (op : ℕ) (d : Derivation) (t : Tree) : Type 0 where
  pub operand : Tree
  pub first : Gives (build d) operand
  pub is : UnaryOf op operand t

pub record Enclosed (d : Derivation) (t : Tree) : Type 0 where
  pub inner : Tree
  pub first : Gives (build d) inner
  pub is : t ≡ paren inner

abbrev pub Shape : Derivation → Tree → Type 0
Shape (grammar.number text) t = (n : Number) × (t ≡ number n)
Shape (grammar.duration text) t = (n : Number) × (t ≡ number n)
Shape (grammar.string text) t = (s : Text) × (t ≡ string s)
Shape (grammar.selector k text b) t = (s : Selector) × (t ≡ vector s)
Shape (grammar.nameless b) t = (s : Selector) × (t ≡ vector s)
Shape (grammar.paren d) t = Enclosed d t
Shape (grammar.call k text ds) t = Called ds t
Shape (grammar.aggregate op text c ds) t = Aggregated op ds t
Shape (grammar.postfixed d p) t = Based d p t
Shape (grammar.unary op text d) t = Signed op d t
Shape (grammar.binary op text m l r) t = Sided op l r t

pub shape : (d : Derivation) (t : Tree) → Gives (build d) t → Shape d t
shape (grammar.number text) t g = let n = split (known (number_value text)) (λ n. gives (number n)) t g in (n.value, given (number n.value) t n.then_)
shape (grammar.duration text) t g =
    let n = split (known (duration_value text)) (λ n. gives (number (from_nanos n))) t g in (from_nanos n.value, given (number (from_nanos n.value)) t n.then_)
shape (grammar.string text) t g = let s = split (known (string_value text)) (λ s. gives (string s)) t g in (s.value, given (string s.value) t s.then_)
shape (grammar.selector k text b) t g =
    let cs = split (any_braces_value b) (λ cs. selector_tree (Some text) cs) t g in
    let s = selector (Some text) cs.value None None in
    (s, vector_checked s t (checked_given (vector s) t cs.then_))
shape (grammar.nameless b) t g =
    let cs = split (braces_value b) (λ cs. selector_tree None cs) t g in
    let s = selector None cs.value None None in
    (s, vector_checked s t (checked_given (vector s) t cs.then_))
shape (grammar.paren d) t g = let x = split (build d) (λ t. gives (paren t)) t g in record { inner = x.value; first = x.first; is = given (paren x.value) t x.then_ }
shape (grammar.call k text ds) t g =
    let ts = split (build_all ds) (λ ts. build_call text (function_named text) ts) t g in call_given text (function_named text) ds ts.value t ts.first ts.then_
shape (grammar.aggregate op text c ds) t g =
    let ts = split (build_all ds) (λ ts. known (clause_value c) giving λ m. from_checked_verdict (aggregate_args op m ts)) t g in aggregate_given op c ds ts.value t ts.first ts.then_
shape (grammar.postfixed d p) t g =
    let s = split (build d) (λ t. build_postfix t p) t g in record { base = s.value; first = s.first; is = postfix_given p s.value t s.then_ }
shape (grammar.unary op text d) t g =
    let s = split (build d) (λ t. build_unary op t) t g in record { operand = s.value; first = s.first; is = unary_given op s.value t s.then_ }
shape (grammar.binary op text m l r) t g =
    let x = split (build l) (λ x. build r giving λ y. known (modifier_value m) giving λ z. from_verdict (check_tree (binary op x y z))) t g in
    let y = split (build r) (λ y. known (modifier_value m) giving λ z. from_verdict (check_tree (binary op x.value y z))) t x.then_ in
    let z = split (known (modifier_value m)) (λ z. from_verdict (check_tree (binary op x.value y.value z))) t y.then_ in
    record {
      left = x.value;
      right = y.value;
      matching = settle_matching op z.value;
      first = x.first;
      second = y.first;
      is = sym (binary_checked op x.value y.value z.value t (checked_given (binary op x.value y.value z.value) t z.then_)).is;
    }

-- ---- arguments

pub record Firsts (d : Derivation) (ds : Arguments) (ts : Trees) : Type 0 where
  pub tree : Tree
  pub trees : Trees
  pub first : Gives (build d) tree
  pub others : Gives (build_all ds) trees
  pub is : ts ≡ first_tree tree trees

pub no_arguments : (ts : Trees) → Gives (build_all grammar.none) ts → ts ≡ no_trees
no_arguments ts g = given no_trees ts g

pub more_arguments : (d : Derivation) (ds : Arguments) (ts : Trees) → Gives (build_all (grammar.more d ds)) ts → Firsts d ds ts
more_arguments d ds ts g =
    let t = split (build d) (λ t. build_all ds giving λ ts. gives (first_tree t ts)) ts g in
    let us = split (build_all ds) (λ us. gives (first_tree t.value us)) ts t.then_ in
    record { tree = t.value; trees = us.value; first = t.first; others = us.first; is = given (first_tree t.value us.value) ts us.then_ }
