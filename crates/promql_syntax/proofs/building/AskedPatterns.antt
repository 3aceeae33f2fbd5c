-- What building asks about are patterns of the tree that it builds.
use Rattle.std.proofs.Common.{◌≡◌, ℕ, Bool, true, false, not, cond, List, [], ◌∷◌, ◌++◌, Option, Some, None, Result, Ok, Err, refl, sym, ap, subst, codes}
use Rattle.std.specs.Prelude.{◌==◌}
use Rattle.std.specs.List.{AllByRecursion}
use Rattle.promql_text.specs.Texts.{Text}
use Rattle.promql_text.specs.Values.{from_nanos}
use Rattle.promql_token.specs.declared.ids.TheConstants.{T_SUB}
use Rattle.promql_grammar.specs.Grammar as grammar
use Rattle.promql_grammar.specs.GrammarParts as part
use Rattle.promql_label.specs.Answers.{Answer, built, rejected}
use Rattle.promql_label.specs.PlainMatchers.{matcher_text, Operator, equal, not_equal, matches, matches_not, PlainMatcher, plain_matcher, PlainMatchers, plain_matchers, grown}
use Rattle.std.specs.Ordering.{is_gt}
use Rattle.promql_label.specs.SortedTexts.{text_order}
use Rattle.promql_label.specs.ReadMatchers.{insert_matcher, sorted_matchers}
use Rattle.promql_kind.specs.Functions.{Signature, function_named}
use Rattle.promql_kind.specs.Modifiers.{Clause}
use Rattle.promql_ast.specs.Builds.{aggregate_args, at_given, minus, mode_given, offset_given, with_range}
use Rattle.promql_ast.specs.Checked.{check_tree}
use Rattle.promql_ast.specs.Checks.{is_vector, unless, when}
use Rattle.promql_ast.specs.Types.{type_of}
use Rattle.promql_ast.specs.check.BinaryChecks.{settle_matching}
use Rattle.promql_ast.specs.check.VectorChecks.{selector_fault}
use Rattle.promql_ast.specs.Shifts.{Moment, Shift}
use Rattle.promql_ast.specs.declared.range_mode.RangeMode.{RangeMode}
use Rattle.promql_ast.specs.declared.range_mode.RangeMode.TheVariants.{Plain}
use Rattle.promql_ast.specs.Fold.{maybe_within, all_within}
use Rattle.promql_ast.specs.Faults.{Fault, subquery_type, Verdict, passes, rejected as rejects}
use Rattle.promql_ast.specs.Normal.{normal, maybe_normal, all_normal, normal_selector}
use Rattle.promql_ast.specs.Selectors.{Selector, selector}
use Rattle.promql_ast.specs.Tree.{Tree, aggregate, unary, binary, paren, subquery, number, string, vector, matrix, call, extension, MaybeTree, absent, present, Trees, no_trees, first_tree}
use Rattle.promql_syntax.specs.Asking.{Asking, gives, fails, asks, ◌giving◌, known, Asked, Ends}
use Rattle.promql_syntax.specs.Building.{build, build_all, from_verdict, from_checked_verdict, build_postfix}
use Rattle.promql_syntax.specs.Postfixes.{bound_moment, range_mode}
use Rattle.promql_syntax.specs.BuildErrors.{BuildError, check, pattern, unknown_function}
use Rattle.promql_syntax.specs.PartBuilding.{append_matcher, braces_value, duration_value, item_value, items_value, label_value, modifier_value, moment_value, number_value, operator_value, pattern_operator, shift_value, string_value, time_value}
use Rattle.promql_syntax.specs.Atoms.{any_braces_value}
use Rattle.promql_syntax.proofs.readback.CheckedAgain.{aggregate_again, aggregates, arguments, call_again, same_tree, unary_again}
use Rattle.promql_syntax.proofs.printed.PrintedModifiers.{binary_checked}
use Rattle.promql_syntax.proofs.building.SuchPatterns.{MatcherPattern, NodePatterns, SelectorPatterns, TreePatterns}
use Rattle.promql_syntax.specs.PartWords.{build_call, clause_value, step_value}

-- an end of two steps is an end of each, in turn
record Splits {A B : Type 0} (m : Asking A) (f : A → Asking B) (answers : List Asked) (y : B) : Type 0 where
  value : A
  first : List Asked
  others : List Asked
  is : answers ≡ first ++ others
  begins : Ends m first (Ok value)
  goes_on : Ends (f value) others (Ok y)

splits : {A B : Type 0} (m : Asking A) (f : A → Asking B) (answers : List Asked) (y : B) → Ends (m giving f) answers (Ok y) → Splits m f answers y
splits (gives x) f answers y h = record { value = x; first = []; others = answers; is = refl; begins = refl; goes_on = h }
splits (fails fault) f [] y h = cc
splits (fails fault) f (a ∷ more) y h = absurd h
splits (asks v next) f [] y h = absurd h
splits (asks v next) f (a ∷ more) y h =
    let rest = splits (next a.answer) f more y h.1 in
    record { value = rest.value; first = a ∷ rest.first; others = rest.others; is = ap (λ l. a ∷ l) rest.is; begins = (h.0, rest.begins); goes_on = rest.goes_on }

same_ok_value : {A : Type 0} {x y : A} → Ok x ≡ (let r : Result A BuildError = Ok y in r) → x ≡ y
same_ok_value e = cc

given_value : {A : Type 0} (x : A) (answers : List Asked) (y : A) → Ends (gives x) answers (Ok y) → y ≡ x
given_value x [] y h = same_ok_value h
given_value x (a ∷ more) y h = absurd h

unless_passes : (f : Option Fault) (v : Verdict) (u : Tree) → unless f v ≡ passes u → v ≡ passes u
unless_passes (Some f) v u e = cc
unless_passes None v u e = e

vector_checked : (s : Selector) (t : Tree) → check_tree (vector s) ≡ passes t → vector s ≡ t
vector_checked s t h = same_tree _ _ (unless_passes (selector_fault s) (passes (vector s)) t h)

subquery_checked : (e : Tree) (offset : Option Shift) (at : Option Moment) (range : ℕ) (step : Option ℕ) (t : Tree) → check_tree (subquery e offset at range step) ≡ passes t → subquery e offset at range step ≡ t
subquery_checked e offset at range step t h = same_tree _ _ (unless_passes (when (not (is_vector (type_of e))) (subquery_type (type_of e))) (passes (subquery e offset at range step)) t h)

-- the patterns of a list of matchers, and of lists between which `or` stands
abbrev ListPatterns : (Text → Bool) → List PlainMatcher → Type 0
ListPatterns is_such = AllByRecursion (MatcherPattern is_such)

abbrev GroupsPatterns : (Text → Bool) → List (List PlainMatcher) → Type 0
GroupsPatterns is_such = AllByRecursion (ListPatterns is_such)

abbrev MatchersPatterns : (Text → Bool) → PlainMatchers → Type 0
MatchersPatterns is_such (plain_matchers plain groups) = ListPatterns is_such plain × GroupsPatterns is_such groups

-- the pattern of an operator with this value
abbrev HasSuchPattern : (Text → Bool) → Operator → Text → Type 0
HasSuchPattern is_such (matches w) value = is_such value ≡ true
HasSuchPattern is_such (matches_not w) value = is_such value ≡ true
HasSuchPattern is_such _ value = Unit {0}

-- of lists of trees
abbrev MaybePatterns : (Text → Bool) → MaybeTree → Type 0
MaybePatterns is_such = maybe_within (Unit {0}) (λ A B. A × B) (NodePatterns is_such)

abbrev AllPatterns : (Text → Bool) → Trees → Type 0
AllPatterns is_such = all_within (Unit {0}) (λ A B. A × B) (NodePatterns is_such)

module _ (is_such : Text → Bool) where
  -- each answer is about such a text
  abbrev pub AreAboutSuch : List Asked → Type 0
  AreAboutSuch [] = Unit {0}
  AreAboutSuch (a ∷ more) = (is_such a.about ≡ true) × AreAboutSuch more

  both_about : (first others : List Asked) → AreAboutSuch first → AreAboutSuch others → AreAboutSuch (first ++ others)
  both_about [] others h k = k
  both_about (a ∷ first) others h k = (h.0, both_about first others h.1 k)

  -- where the value is such, what was asked on the way is, too
  AsksSuch : {A : Type 0} → (A → Type 0) → Asking A → Type 0
  AsksSuch {A} Q m = (answers : List Asked) (x : A) → Ends m answers (Ok x) → Q x → AreAboutSuch answers

  gives_such : {A : Type 0} (Q : A → Type 0) (x : A) → AsksSuch Q (gives x)
  unfolding AsksSuch
  gives_such Q x [] y h q = tt
  gives_such Q x (a ∷ more) y h q = absurd h

  fails_such : {A : Type 0} (Q : A → Type 0) (fault : BuildError) → AsksSuch Q (fails fault)
  unfolding AsksSuch
  fails_such Q fault [] y h q = tt
  fails_such Q fault (a ∷ more) y h q = absurd h

  known_such : {A : Type 0} (Q : A → Type 0) (r : Result A BuildError) → AsksSuch Q (known r)
  known_such Q (Ok x) = gives_such Q x
  known_such Q (Err fault) = fails_such Q fault

  -- one step after another: the first value is such where the last one is
  giving_such : {A B : Type 0} (P : A → Type 0) (Q : B → Type 0) (m : Asking A) (f : A → Asking B)
      → AsksSuch P m → ((x : A) → AsksSuch Q (f x)) → ((x : A) (answers : List Asked) (y : B) → Ends (f x) answers (Ok y) → Q y → P x) → AsksSuch Q (m giving f)
  unfolding AsksSuch
  giving_such P Q m f one more back answers y h q =
      let s = splits m f answers y h in
      subst AreAboutSuch (sym s.is) (both_about s.first s.others (one s.first s.value s.begins (back s.value s.others y s.goes_on q)) (more s.value s.others y s.goes_on q))

  -- ---- matchers

  -- where an answer builds an operator with the pattern of a value, the value is such
  asked_such : (op : Text → Operator) (value : Text) → ((w : Text) → HasSuchPattern is_such (op w) value ≡ (is_such value ≡ true)) → AsksSuch (λ o. HasSuchPattern is_such o value) (asks value (pattern_operator op value))
  unfolding AsksSuch
  asked_such op value is [] x h q = absurd h
  asked_such op value is (a ∷ more) x h q = by_answer a.answer h.1
    where
      by_answer : (answer : Answer) → Ends (pattern_operator op value answer) more (Ok x) → AreAboutSuch (a ∷ more)
      by_answer (built w) e = by_end w more e
        where
          by_end : (w : Text) (more : List Asked) → Ends (gives (op w)) more (Ok x) → AreAboutSuch (a ∷ more)
          by_end w [] e =
              let built_so : x ≡ op w = same_ok_value e in
              let such : is_such value ≡ true = subst (λ T. T) (is w) (subst (λ o. HasSuchPattern is_such o value) built_so q) in
              (subst (λ v. is_such v ≡ true) (sym h.0) such, tt)
          by_end w (b ∷ more) e = absurd e
      by_answer rejected e = by_fault more e
        where
          by_fault : (more : List Asked) → Ends {A = Operator} (fails (pattern value)) more (Ok x) → AreAboutSuch (a ∷ more)
          by_fault [] e = cc
          by_fault (b ∷ more) e = absurd e

  operator_such : (s : part.MatchOperator) (value : Text) → AsksSuch (λ op. HasSuchPattern is_such op value) (operator_value s value)
  operator_such part.equal value = gives_such (λ op. HasSuchPattern is_such op value) equal
  operator_such (part.not_equal text) value = gives_such (λ op. HasSuchPattern is_such op value) not_equal
  operator_such part.equal_regex value = asked_such matches value (λ w. refl)
  operator_such part.not_equal_regex value = asked_such matches_not value (λ w. refl)

  operator_pattern : (op : Operator) (name value : Text) → MatcherPattern is_such (plain_matcher op name value) → HasSuchPattern is_such op value
  operator_pattern (matches w) name value h = h
  operator_pattern (matches_not w) name value h = h
  operator_pattern op name value h = tt

  -- one matcher
  item_such : (i : part.Item) → AsksSuch (MatcherPattern is_such) (item_value i)
  item_such (part.matcher is_quoted text s quoted) =
      giving_such (λ name. Unit {0}) (MatcherPattern is_such) (known (label_value (part.name_kind is_quoted) text)) _ (known_such (λ name. Unit {0}) (label_value (part.name_kind is_quoted) text))
      (λ name. giving_such (λ value. Unit {0}) (MatcherPattern is_such) (known (string_value quoted)) _ (known_such (λ value. Unit {0}) (string_value quoted))
      (λ value. giving_such (λ op. HasSuchPattern is_such op value) (MatcherPattern is_such) (operator_value s value) _ (operator_such s value)
      (λ op. gives_such (MatcherPattern is_such) (plain_matcher op name value))
      (λ op answers c h q. operator_pattern op name value (subst (MatcherPattern is_such) (given_value (plain_matcher op name value) answers c h) q)))
      (λ value answers c h q. tt))
      (λ name answers c h q. tt)
  item_such (part.lone text) =
      giving_such (λ name. Unit {0}) (MatcherPattern is_such) (known (string_value text)) _ (known_such (λ name. Unit {0}) (string_value text))
      (λ name. gives_such (MatcherPattern is_such) (plain_matcher equal (codes "__name__") name))
      (λ name answers c h q. tt)

  -- a longer list of matchers has such patterns only where the shorter one has
  list_pushed : (cs : List PlainMatcher) (c : PlainMatcher) → ListPatterns is_such (cs ++ c ∷ []) → ListPatterns is_such cs × MatcherPattern is_such c
  list_pushed [] c h = (tt, h.0)
  list_pushed (d ∷ cs) c h = let rest = list_pushed cs c h.1 in ((h.0, rest.0), rest.1)

  groups_grown : (g : List PlainMatcher) (groups : List (List PlainMatcher)) (c : PlainMatcher) → GroupsPatterns is_such (grown (g ∷ groups) c) → GroupsPatterns is_such (g ∷ groups) × MatcherPattern is_such c
  groups_grown g [] c h = let last = list_pushed g c h.0 in ((last.0, tt), last.1)
  groups_grown g (k ∷ groups) c h = let rest = groups_grown k groups c h.1 in ((h.0, rest.0), rest.1)

  groups_pushed : (groups more : List (List PlainMatcher)) → GroupsPatterns is_such (groups ++ more) → GroupsPatterns is_such groups × GroupsPatterns is_such more
  groups_pushed [] more h = (tt, h)
  groups_pushed (g ∷ groups) more h = let rest = groups_pushed groups more h.1 in ((h.0, rest.0), rest.1)

  appended : (s : part.Separator) (cs : PlainMatchers) (c : PlainMatcher) → MatchersPatterns is_such (append_matcher s cs c) → MatchersPatterns is_such cs × MatcherPattern is_such c
  appended None (plain_matchers plain []) c h = let pushed = list_pushed plain c h.0 in ((pushed.0, tt), pushed.1)
  appended None (plain_matchers plain (g ∷ groups)) c h = let more = groups_grown g groups c h.1 in ((h.0, more.0), more.1)
  appended (Some text) (plain_matchers [] groups) c h = let more = groups_pushed groups ((c ∷ []) ∷ []) h.1 in ((tt, more.0), more.1.0.0)
  appended (Some text) (plain_matchers (p ∷ plain) groups) c h = let more = groups_pushed groups ((p ∷ plain) ∷ (c ∷ []) ∷ []) h.1 in ((more.1.0, more.0), more.1.1.0.0)

  appended_end : (s : part.Separator) (cs : PlainMatchers) (c : PlainMatcher) (answers : List Asked) (y : PlainMatchers) → Ends (gives (append_matcher s cs c)) answers (Ok y) → MatchersPatterns is_such y → MatchersPatterns is_such cs × MatcherPattern is_such c
  appended_end s cs c answers y h q = appended s cs c (subst (MatchersPatterns is_such) (given_value (append_matcher s cs c) answers y h) q)

  -- what items end in has what came before them
  items_before : (cs : PlainMatchers) (s : part.Separator) (is : part.Items) (answers : List Asked) (y : PlainMatchers) → Ends (items_value cs s is) answers (Ok y) → MatchersPatterns is_such y → MatchersPatterns is_such cs
  items_before cs s (part.last_item i false) answers y h q =
      let steps = splits (item_value i) (λ c. gives (append_matcher s cs c)) answers y h in
      (appended_end s cs steps.value steps.others y steps.goes_on q).0
  items_before cs s (part.last_item i true) answers y h q =
      let steps = splits (item_value i) (λ c. gives (append_matcher s cs c)) answers y h in
      (appended_end s cs steps.value steps.others y steps.goes_on q).0
  items_before cs s (part.next_item i t is) answers y h q =
      let steps = splits (item_value i) (λ c. items_value (append_matcher s cs c) t is) answers y h in
      (appended s cs steps.value (items_before (append_matcher s cs steps.value) t is steps.others y steps.goes_on q)).0

  items_such : (cs : PlainMatchers) (s : part.Separator) (is : part.Items) → AsksSuch (MatchersPatterns is_such) (items_value cs s is)
  items_such cs s (part.last_item i false) =
      giving_such (MatcherPattern is_such) (MatchersPatterns is_such) (item_value i) _ (item_such i)
      (λ c. gives_such (MatchersPatterns is_such) (append_matcher s cs c)) (λ c answers y h q. (appended_end s cs c answers y h q).1)
  items_such cs s (part.last_item i true) =
      giving_such (MatcherPattern is_such) (MatchersPatterns is_such) (item_value i) _ (item_such i)
      (λ c. gives_such (MatchersPatterns is_such) (append_matcher s cs c)) (λ c answers y h q. (appended_end s cs c answers y h q).1)
  items_such cs s (part.next_item i t is) =
      giving_such (MatcherPattern is_such) (MatchersPatterns is_such) (item_value i) _ (item_such i)
      (λ c. items_such (append_matcher s cs c) t is)
      (λ c answers y h q. (appended s cs c (items_before (append_matcher s cs c) t is answers y h q)).1)

  braces_such : (b : part.Braces) → AsksSuch (MatchersPatterns is_such) (braces_value b)
  braces_such None = gives_such (MatchersPatterns is_such) (plain_matchers [] [])
  braces_such (Some is) = items_such (plain_matchers [] []) None is

  any_braces_such : (b : Option part.Braces) → AsksSuch (MatchersPatterns is_such) (any_braces_value b)
  any_braces_such None = gives_such (MatchersPatterns is_such) (plain_matchers [] [])
  any_braces_such (Some b) = braces_such b

  -- ---- checks

  verdict_such : (Q : Tree → Type 0) (v : Verdict) → AsksSuch Q (from_verdict v)
  verdict_such Q (passes t) = gives_such Q t
  verdict_such Q (rejects fault) = fails_such Q (check fault)

  verdict_passes : (v : Verdict) (answers : List Asked) (t : Tree) → Ends (from_verdict v) answers (Ok t) → v ≡ passes t
  verdict_passes (passes u) answers t h = ap passes (sym (given_value u answers t h))
  verdict_passes (rejects fault) [] t h = cc
  verdict_passes (rejects fault) (a ∷ more) t h = absurd h

  -- a tree that passes its checks has the patterns of what was checked
  same_patterns : (u t : Tree) → u ≡ t → TreePatterns is_such t → TreePatterns is_such u
  same_patterns u t e q = subst (TreePatterns is_such) (sym e) q

  checked_patterns : (u t : Tree) → check_tree u ≡ passes t → TreePatterns is_such t → TreePatterns is_such u
  checked_patterns (aggregate op e p m) t h q = same_patterns (aggregate op e p m) t (aggregate_again op e p m m t h).is q
  checked_patterns (unary e) t h q = same_patterns (unary e) t (unary_again e t h).is q
  checked_patterns (binary op l r m) t h q = same_patterns (binary op l r (settle_matching op m)) t (binary_checked op l r m t h).is q
  checked_patterns (paren e) t h q = same_patterns (paren e) t (same_tree _ _ h) q
  checked_patterns (subquery e offset at range step) t h q = same_patterns (subquery e offset at range step) t (subquery_checked e offset at range step t h) q
  checked_patterns (number n) t h q = tt
  checked_patterns (string s) t h q = tt
  checked_patterns (vector s) t h q = same_patterns (vector s) t (vector_checked s t h) q
  checked_patterns (matrix s range mode) t h q = same_patterns (matrix s range mode) t (same_tree _ _ h) q
  checked_patterns (call f ts) t h q = same_patterns (call f ts) t (call_again f ts t h).is q
  checked_patterns (extension name kind es) t h q = same_patterns (extension name kind es) t (same_tree _ _ h) q

  checked_such : (u : Tree) → AsksSuch (TreePatterns is_such) (from_verdict (check_tree u))
  checked_such u = verdict_such (TreePatterns is_such) (check_tree u)

  checked_back : (u : Tree) (answers : List Asked) (t : Tree) → Ends (from_verdict (check_tree u)) answers (Ok t) → TreePatterns is_such t → TreePatterns is_such u
  checked_back u answers t h q = checked_patterns u t (verdict_passes (check_tree u) answers t h) q

  -- what asks nothing, before a step
  known_then : {A : Type 0} (r : Result A BuildError) (f : A → Asking Tree) → ((x : A) → AsksSuch (TreePatterns is_such) (f x)) → AsksSuch (TreePatterns is_such) (known r giving f)
  known_then r f more = giving_such (λ x. Unit {0}) (TreePatterns is_such) (known r) f (known_such (λ x. Unit {0}) r) more (λ x answers y h q. tt)

  matchers_back : (name : Option Text) (cs : PlainMatchers) → TreePatterns is_such (vector (selector name cs None None)) → MatchersPatterns is_such cs
  matchers_back name (plain_matchers plain groups) h = h

  -- ---- postfixes

  range_back : (s t : Tree) (n : ℕ) → with_range s n ≡ passes t → TreePatterns is_such t → TreePatterns is_such s
  range_back (vector (selector name cs None None)) t n e q = same_patterns (matrix (selector name cs None None) n Plain) t (same_tree _ _ e) q
  range_back s t n e q = cc

  at_back : (s t : Tree) (m : Moment) → at_given s m ≡ passes t → TreePatterns is_such t → TreePatterns is_such s
  at_back (vector (selector name (plain_matchers plain groups) offset None)) t m e q = same_patterns (vector (selector name (plain_matchers plain groups) offset (Some m))) t (same_tree _ _ e) q
  at_back (matrix (selector name (plain_matchers plain groups) offset None) range mode) t m e q = same_patterns (matrix (selector name (plain_matchers plain groups) offset (Some m)) range mode) t (same_tree _ _ e) q
  at_back (subquery e offset None range step) t m h q = same_patterns (subquery e offset (Some m) range step) t (same_tree _ _ h) q
  at_back s t m e q = cc

  offset_back : (s t : Tree) (x : Shift) → offset_given s x ≡ passes t → TreePatterns is_such t → TreePatterns is_such s
  offset_back (vector (selector name (plain_matchers plain groups) None at)) t x e q = same_patterns (vector (selector name (plain_matchers plain groups) (Some x) at)) t (same_tree _ _ e) q
  offset_back (matrix (selector name (plain_matchers plain groups) None at) range mode) t x e q = same_patterns (matrix (selector name (plain_matchers plain groups) (Some x) at) range mode) t (same_tree _ _ e) q
  offset_back (subquery e None at range step) t x h q = same_patterns (subquery e (Some x) at range step) t (same_tree _ _ h) q
  offset_back s t x e q = cc

  mode_back : (s t : Tree) (mode : RangeMode) → mode_given s mode ≡ passes t → TreePatterns is_such t → TreePatterns is_such s
  mode_back (matrix s range Plain) t mode e q = same_patterns (matrix s range mode) t (same_tree _ _ e) q
  mode_back s t mode e q = cc

  postfix_such : (t : Tree) (p : part.Postfix) → AsksSuch (TreePatterns is_such) (build_postfix t p)
  postfix_such t (part.range r) = known_then (time_value r) (λ n. from_verdict (with_range t n)) (λ n. verdict_such (TreePatterns is_such) (with_range t n))
  postfix_such t (part.subquery r s) =
      known_then (time_value r) (λ n. known (step_value s) giving λ m. from_verdict (check_tree (subquery t None None n m)))
      (λ n. known_then (step_value s) (λ m. from_verdict (check_tree (subquery t None None n m))) (λ m. checked_such (subquery t None None n m)))
  postfix_such t (part.at_number s text) = known_then (moment_value s text) (λ m. from_verdict (at_given t m)) (λ m. verdict_such (TreePatterns is_such) (at_given t m))
  postfix_such t (part.at_bound k text) = verdict_such (TreePatterns is_such) (at_given t (bound_moment k))
  postfix_such t (part.offset text s r) = known_then (shift_value s r) (λ x. from_verdict (offset_given t x)) (λ x. verdict_such (TreePatterns is_such) (offset_given t x))
  postfix_such t (part.mode k text) = verdict_such (TreePatterns is_such) (mode_given t (range_mode k))

  postfix_back : (s : Tree) (p : part.Postfix) (answers : List Asked) (t : Tree) → Ends (build_postfix s p) answers (Ok t) → TreePatterns is_such t → TreePatterns is_such s
  postfix_back s (part.range r) answers t h q =
      let n = splits (known (time_value r)) (λ n. from_verdict (with_range s n)) answers t h in
      range_back s t n.value (verdict_passes (with_range s n.value) n.others t n.goes_on) q
  postfix_back s (part.subquery r e) answers t h q =
      let n = splits (known (time_value r)) (λ n. known (step_value e) giving λ m. from_verdict (check_tree (subquery s None None n m))) answers t h in
      let m = splits (known (step_value e)) (λ m. from_verdict (check_tree (subquery s None None n.value m))) n.others t n.goes_on in
      checked_back (subquery s None None n.value m.value) m.others t m.goes_on q
  postfix_back s (part.at_number e text) answers t h q =
      let m = splits (known (moment_value e text)) (λ m. from_verdict (at_given s m)) answers t h in
      at_back s t m.value (verdict_passes (at_given s m.value) m.others t m.goes_on) q
  postfix_back s (part.at_bound k text) answers t h q = at_back s t (bound_moment k) (verdict_passes (at_given s (bound_moment k)) answers t h) q
  postfix_back s (part.offset text e r) answers t h q =
      let x = splits (known (shift_value e r)) (λ x. from_verdict (offset_given s x)) answers t h in
      offset_back s t x.value (verdict_passes (offset_given s x.value) x.others t x.goes_on) q
  postfix_back s (part.mode k text) answers t h q = mode_back s t (range_mode k) (verdict_passes (mode_given s (range_mode k)) answers t h) q

  -- ---- unary operators

  checked_verdict_such : (v : Verdict) → AsksSuch (TreePatterns is_such) (from_checked_verdict v)
  checked_verdict_such v = giving_such (TreePatterns is_such) (TreePatterns is_such) (from_verdict v) _ (verdict_such (TreePatterns is_such) v) checked_such checked_back

  -- what passes a builder, and then its checks
  record PassesBoth (v : Verdict) (t : Tree) : Type 0 where
    tree : Tree
    made : v ≡ passes tree
    patterns : TreePatterns is_such tree

  checked_verdict_back : (v : Verdict) (answers : List Asked) (t : Tree) → Ends (from_checked_verdict v) answers (Ok t) → TreePatterns is_such t → PassesBoth v t
  checked_verdict_back v answers t h q =
      let u = splits (from_verdict v) (λ t. from_verdict (check_tree t)) answers t h in
      record { tree = u.value; made = verdict_passes v u.first u.value u.begins; patterns = checked_back u.value u.others t u.goes_on q }

  minus_back : (s u : Tree) → minus s ≡ passes u → TreePatterns is_such u → TreePatterns is_such s
  minus_back (number n) u e q = tt
  minus_back (string s) u e q = tt
  minus_back (matrix s range mode) u e q = cc
  minus_back s u e q = same_patterns (unary s) u (same_tree _ _ e) q

  sign_such : (minused : Bool) (s : Tree) → AsksSuch (TreePatterns is_such) (cond minused (from_checked_verdict (minus s)) (gives s))
  sign_such true s = checked_verdict_such (minus s)
  sign_such false s = gives_such (TreePatterns is_such) s

  sign_back : (minused : Bool) (s : Tree) (answers : List Asked) (t : Tree) → Ends (cond minused (from_checked_verdict (minus s)) (gives s)) answers (Ok t) → TreePatterns is_such t → TreePatterns is_such s
  sign_back true s answers t h q = let both = checked_verdict_back (minus s) answers t h q in minus_back s both.tree both.made both.patterns
  sign_back false s answers t h q = subst (TreePatterns is_such) (given_value s answers t h) q

  -- ---- calls and aggregations

  call_such : (text : Text) (o : Option Signature) (ts : Trees) → AsksSuch (TreePatterns is_such) (build_call text o ts)
  call_such text None ts = fails_such (TreePatterns is_such) (unknown_function text)
  call_such text (Some f) ts = checked_such (call f ts)

  call_back : (text : Text) (o : Option Signature) (ts : Trees) (answers : List Asked) (t : Tree) → Ends (build_call text o ts) answers (Ok t) → TreePatterns is_such t → AllPatterns is_such ts
  call_back text None ts [] t h q = cc
  call_back text None ts (a ∷ more) t h q = absurd h
  call_back text (Some f) ts answers t h q = checked_back (call f ts) answers t h q

  arguments_patterns : (p : MaybeTree) (e : Tree) → MaybePatterns is_such p → TreePatterns is_such e → AllPatterns is_such (arguments p e)
  arguments_patterns absent e h k = (k, tt)
  arguments_patterns (present p) e h k = (h, (k, tt))

  aggregate_back : (op : ℕ) (m : Option Clause) (ts : Trees) (u : Tree) → aggregate_args op m ts ≡ passes u → TreePatterns is_such u → AllPatterns is_such ts
  aggregate_back op m ts u e q =
      let a = aggregates op m ts u e in
      let parts = subst (TreePatterns is_such) a.is q in
      subst (AllPatterns is_such) (sym a.all) (arguments_patterns a.param a.tree parts.0 parts.1)

  -- ---- any derivation

  paren_back : (s : Tree) (answers : List Asked) (t : Tree) → Ends (gives (paren s)) answers (Ok t) → TreePatterns is_such t → TreePatterns is_such s
  paren_back s answers t h q = subst (TreePatterns is_such) (given_value (paren s) answers t h) q

  aggregated : ℕ → part.Clause → Trees → Asking Tree
  aggregated op c ts = known (clause_value c) giving λ m. from_checked_verdict (aggregate_args op m ts)

  aggregated_such : (op : ℕ) (c : part.Clause) (ts : Trees) → AsksSuch (TreePatterns is_such) (aggregated op c ts)
  unfolding aggregated
  aggregated_such op c ts = known_then (clause_value c) _ (λ m. checked_verdict_such (aggregate_args op m ts))

  aggregated_back : (op : ℕ) (c : part.Clause) (ts : Trees) (answers : List Asked) (t : Tree) → Ends (aggregated op c ts) answers (Ok t) → TreePatterns is_such t → AllPatterns is_such ts
  unfolding aggregated
  aggregated_back op c ts answers t h q =
      let m = splits (known (clause_value c)) (λ m. from_checked_verdict (aggregate_args op m ts)) answers t h in
      let both = checked_verdict_back (aggregate_args op m.value ts) m.others t m.goes_on q in
      aggregate_back op m.value ts both.tree both.made both.patterns

  sides : ℕ → part.Modifier → Tree → Tree → Asking Tree
  sides op m x y = known (modifier_value m) giving λ z. from_verdict (check_tree (binary op x y z))

  sides_such : (op : ℕ) (m : part.Modifier) (x y : Tree) → AsksSuch (TreePatterns is_such) (sides op m x y)
  unfolding sides
  sides_such op m x y = known_then (modifier_value m) _ (λ z. checked_such (binary op x y z))

  sides_back : (op : ℕ) (m : part.Modifier) (x y : Tree) (answers : List Asked) (t : Tree) → Ends (sides op m x y) answers (Ok t) → TreePatterns is_such t → TreePatterns is_such x × TreePatterns is_such y
  unfolding sides
  sides_back op m x y answers t h q =
      let z = splits (known (modifier_value m)) (λ z. from_verdict (check_tree (binary op x y z))) answers t h in
      checked_back (binary op x y z.value) z.others t z.goes_on q

  left_back : (op : ℕ) (m : part.Modifier) (x : Tree) (r : grammar.Derivation) (answers : List Asked) (t : Tree) → Ends (build r giving λ y. sides op m x y) answers (Ok t) → TreePatterns is_such t → TreePatterns is_such x
  left_back op m x r answers t h q =
      let y = splits (build r) (λ y. sides op m x y) answers t h in
      (sides_back op m x y.value y.others t y.goes_on q).0

  first_back : (t : Tree) (ts : Trees) (answers : List Asked) (all : Trees) → Ends (gives (first_tree t ts)) answers (Ok all) → AllPatterns is_such all → TreePatterns is_such t × AllPatterns is_such ts
  first_back t ts answers all h q = subst (AllPatterns is_such) (given_value (first_tree t ts) answers all h) q

  mutual
    unfolding aggregated sides

    built_such : (d : grammar.Derivation) → AsksSuch (TreePatterns is_such) (build d)
    built_such (grammar.number text) = known_then (number_value text) _ (λ n. gives_such (TreePatterns is_such) (number n))
    built_such (grammar.duration text) = known_then (duration_value text) _ (λ n. gives_such (TreePatterns is_such) (number (from_nanos n)))
    built_such (grammar.string text) = known_then (string_value text) _ (λ s. gives_such (TreePatterns is_such) (string s))
    built_such (grammar.selector k text b) =
        giving_such (MatchersPatterns is_such) (TreePatterns is_such) (any_braces_value b) _ (any_braces_such b)
        (λ cs. checked_such (vector (selector (Some text) cs None None))) (λ cs answers t h q. matchers_back (Some text) cs (checked_back (vector (selector (Some text) cs None None)) answers t h q))
    built_such (grammar.nameless b) =
        giving_such (MatchersPatterns is_such) (TreePatterns is_such) (braces_value b) _ (braces_such b)
        (λ cs. checked_such (vector (selector None cs None None))) (λ cs answers t h q. matchers_back None cs (checked_back (vector (selector None cs None None)) answers t h q))
    built_such (grammar.paren d) = giving_such (TreePatterns is_such) (TreePatterns is_such) (build d) _ (built_such d) (λ t. gives_such (TreePatterns is_such) (paren t)) paren_back
    built_such (grammar.call k text ds) =
        giving_such (AllPatterns is_such) (TreePatterns is_such) (build_all ds) _ (all_such ds) (call_such text (function_named text)) (call_back text (function_named text))
    built_such (grammar.aggregate op text c ds) =
        giving_such (AllPatterns is_such) (TreePatterns is_such) (build_all ds) (aggregated op c) (all_such ds) (aggregated_such op c) (aggregated_back op c)
    built_such (grammar.postfixed d p) =
        giving_such (TreePatterns is_such) (TreePatterns is_such) (build d) _ (built_such d) (λ t. postfix_such t p) (λ s. postfix_back s p)
    built_such (grammar.unary op text d) =
        giving_such (TreePatterns is_such) (TreePatterns is_such) (build d) _ (built_such d) (sign_such (op == T_SUB)) (sign_back (op == T_SUB))
    built_such (grammar.binary op text m l r) =
        giving_such (TreePatterns is_such) (TreePatterns is_such) (build l) (λ x. build r giving λ y. sides op m x y) (built_such l)
        (λ x. giving_such (TreePatterns is_such) (TreePatterns is_such) (build r) (sides op m x) (built_such r) (sides_such op m x)
        (λ y answers t h q. (sides_back op m x y answers t h q).1))
        (λ x. left_back op m x r)

    all_such : (ds : grammar.Arguments) → AsksSuch (AllPatterns is_such) (build_all ds)
    all_such grammar.none = gives_such (AllPatterns is_such) no_trees
    all_such (grammar.more d ds) =
        giving_such (TreePatterns is_such) (AllPatterns is_such) (build d) _ (built_such d)
        (λ t. giving_such (AllPatterns is_such) (AllPatterns is_such) (build_all ds) _ (all_such ds) (λ ts. gives_such (AllPatterns is_such) (first_tree t ts))
        (λ ts answers all h q. (first_back t ts answers all h q).1))
        (λ t answers all h q. let ts = splits (build_all ds) (λ ts. gives (first_tree t ts)) answers all h in (first_back t ts.value ts.others all ts.goes_on q).0)

  -- what the building of a tree asks about is such where the tree's patterns are
  pub asked_about : (d : grammar.Derivation) (answers : List Asked) (t : Tree) → Ends (build d) answers (Ok t) → TreePatterns is_such t → AreAboutSuch answers
  unfolding AsksSuch
  asked_about = built_such

  -- ---- normal forms

  inserted : (c : PlainMatcher) (cs : List PlainMatcher) → MatcherPattern is_such c → ListPatterns is_such cs → ListPatterns is_such (insert_matcher c cs)
  inserted c [] h k = (h, tt)
  inserted c (d ∷ cs) h k = by_order (is_gt (text_order (matcher_text c) (matcher_text d))) (inserted c cs h k.1)
    where
      by_order : (b : Bool) → ListPatterns is_such (insert_matcher c cs) → ListPatterns is_such (cond b (d ∷ insert_matcher c cs) (c ∷ d ∷ cs))
      by_order true later = (k.0, later)
      by_order false later = (h, k)

  sorted : (cs : List PlainMatcher) → ListPatterns is_such cs → ListPatterns is_such (sorted_matchers cs)
  sorted [] h = tt
  sorted (c ∷ cs) h = inserted c (sorted_matchers cs) h.0 (sorted cs h.1)

  normal_selector_patterns : (s : Selector) → SelectorPatterns is_such s → SelectorPatterns is_such (normal_selector s)
  normal_selector_patterns (selector name (plain_matchers plain groups) offset at) h = (sorted plain h.0, h.1)

  mutual
    pub normal_patterns : (t : Tree) → TreePatterns is_such t → TreePatterns is_such (normal t)
    normal_patterns (aggregate op e p m) h = (maybe_normal_patterns p h.0, normal_patterns e h.1)
    normal_patterns (unary e) h = normal_patterns e h
    normal_patterns (binary op l r m) h = (normal_patterns l h.0, normal_patterns r h.1)
    normal_patterns (paren e) h = normal_patterns e h
    normal_patterns (subquery e offset at range step) h = normal_patterns e h
    normal_patterns (number n) h = tt
    normal_patterns (string s) h = tt
    normal_patterns (vector s) h = normal_selector_patterns s h
    normal_patterns (matrix s range mode) h = normal_selector_patterns s h
    normal_patterns (call f ts) h = all_normal_patterns ts h
    normal_patterns (extension name kind ts) h = all_normal_patterns ts h

    maybe_normal_patterns : (p : MaybeTree) → MaybePatterns is_such p → MaybePatterns is_such (maybe_normal p)
    maybe_normal_patterns absent h = tt
    maybe_normal_patterns (present e) h = normal_patterns e h

    all_normal_patterns : (ts : Trees) → AllPatterns is_such ts → AllPatterns is_such (all_normal ts)
    all_normal_patterns no_trees h = tt
    all_normal_patterns (first_tree t ts) h = (normal_patterns t h.0, all_normal_patterns ts h.1)
