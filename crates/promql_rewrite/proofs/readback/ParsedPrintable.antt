-- Trees that texts have are printable.
use Rattle.std.proofs.Common.{◌≡◌, ℕ, ℤ, ◌≤◌, max, refl, arith, subst, Bool, true, false, cond, Option, Some, None, List, [], ◌∷◌, codes}
use Rattle.std.specs.Prelude.{Ok, FitsSigned, option_map}
use Rattle.std.specs.Int.{is_negative, w64}
use Rattle.promql_text.specs.NumberText.{number_text}
use Rattle.promql_text.specs.Texts.{Text}
use Rattle.promql_text.specs.Values.{is_below_zero, neg}
use Rattle.promql_text.specs.Millis.{to_millis}
use Rattle.promql_text.specs.declared.number.Number.{Number}
use Rattle.promql_token.specs.Vocabulary.{word_id}
use Rattle.promql_token.specs.declared.ids.TheConstants.{T_SUB}
use Rattle.promql_grammar.specs.Grammar as grammar
use Rattle.promql_grammar.specs.Grammar.{Derivation, Arguments, FitsRight, FitsUnary, IsBase, IsWellFormed, AreWellFormed}
use Rattle.promql_grammar.specs.GrammarParts as part
use Rattle.promql_grammar.specs.Symbols.{may_be_name, token_kind}
use Rattle.promql_label.specs.Answers as regex
use Rattle.promql_label.specs.Answers.{Answer}
use Rattle.promql_label.specs.PlainMatchers.{equal, not_equal, matches, matches_not, PlainMatcher, plain_matcher, PlainMatchers, plain_matchers}
use Rattle.promql_kind.specs.Modifiers.{Cardinality, Clause, one_to_one, many_to_one, one_to_many, many_to_many, fills, Matching, matching}
use Rattle.promql_ast.specs.AtTimes.{at_of_millis, at_of_number}
use Rattle.promql_ast.specs.Selectors.{Selector, selector}
use Rattle.promql_ast.specs.Shifts.{Shift, back, ahead, Moment, at_start, at_end, at_time}
use Rattle.promql_ast.specs.Tree.{Tree, aggregate, unary, binary, paren, subquery, number, string, vector, matrix, call, extension, MaybeTree, absent, present, Trees, no_trees, first_tree}
use Rattle.promql_ast.specs.declared.range_mode.RangeMode.{RangeMode}
use Rattle.promql_ast.specs.declared.range_mode.RangeMode.TheVariants.{Plain, Smoothed, Anchored}
use Rattle.promql_ast.proofs.normal_form.PrintedMoments.{millis_fits}
use Rattle.promql_syntax.specs.Asking.{Asking, gives, fails, asks, under}
use Rattle.promql_syntax.specs.Building.{build}
use Rattle.promql_syntax.specs.PartBuilding.{pattern_operator, signed_number}
use Rattle.promql_syntax.specs.Postfixes.{at_fault}
use Rattle.promql_syntax.specs.ParseAnswers.{HasTree}
use Rattle.promql_syntax.proofs.readback.Canonical.{open_most, some_height}
use Rattle.promql_syntax.proofs.readback.CanonicalTrees.{keeps}
use Rattle.promql_syntax.proofs.readback.Derive.{derive, derive_after, derive_all, derive_base, derive_matrix, derive_selector, with_at, with_mode, with_suffix}
use Rattle.promql_syntax.proofs.building.BuiltTyped.{AllGive, CheckedTyped, IsGood, build_good}
use Rattle.promql_syntax.proofs.readback.Printable.{AllPrintable, IsAnyMoment, IsMoment, IsSelecting, IsShift, MaybePrintable, Printable}
use Rattle.promql_syntax.proofs.printed.PrintedMatcherLists.{AllStand, AreAnyMatchers, GroupsStand, Stands, any_matchers}
use Rattle.promql_syntax.proofs.printed.PrintedModifiers.{IsGroupedAfter, IsMatched}
use Rattle.promql_syntax.proofs.printed.PrintedParts.{braces, seconds_text, sign, time, word_kind}
use Rattle.promql_syntax.proofs.printed.PrintedTimesAndLabels.{IsStep, IsTime}
use Rattle.promql_syntax.proofs.building.SingleAnswers.{same_ok, then_steps}
use Rattle.promql_syntax.proofs.readback.SpelledWords.{has_words}
use Rattle.promql_rewrite.specs.Answered.{IsAnswered}
use Rattle.promql_rewrite.specs.PrintableConditions.{IsNegated, IsRightSide, PrintableAt, PrintableName, PrintableOffset, PrintableTime, openness}
use Rattle.promql_rewrite.specs.PrintableNodes.{AllAnswered, AllPrintableNodes, FollowsLabels, GroupsAnswered, IsSubqueried, MaybePrintableNodes, NodesArePrintable, PrintableMatchers, PrintableModifier, PrintableNodes, PrintableSelector, PrintableStep}
use Rattle.promql_rewrite.specs.PrintableTrees.{all_printed_height, maybe_printed_height, printed_height}
use Rattle.promql_rewrite.proofs.readback.BuiltTrees.{AllBuilt, Built, IsNoNumber, MaybeBuilt, SetsMatchMany, built}

-- ---- values

time_printable : (n : ℕ) → IsTime n → PrintableTime n
time_printable n h = (h.some, h.less)

step_printable : (m : Option ℕ) → IsStep m → PrintableStep m
step_printable None h = tt
step_printable (Some n) h = time_printable n h

offset_printable : (o : Option Shift) → IsShift o → PrintableOffset o
offset_printable None h = tt
offset_printable (Some (back n)) h = time_printable n h
offset_printable (Some (ahead n)) h = time_printable n h

moment_fits : (t : ℤ) → IsMoment (at_time t) → FitsSigned w64 t
moment_fits t h =
    let step = then_steps (signed_number (sign (is_negative t)) (seconds_text t)) (λ n. at_fault (at_of_number n)) (at_time t) h in
    go step.value (to_millis step.value) refl step.leads
  where
    go : (n : Number) (o : Option ℤ) → to_millis n ≡ o → at_fault (at_of_millis n o) ≡ Ok (at_time t) → FitsSigned w64 t
    go n (Some u) is e = let same : at_time u ≡ at_time t = same_ok _ _ _ _ refl refl e in let one : u ≡ t = cc in subst (FitsSigned w64) one (millis_fits n u is)
    go n None is e = cc

at_printable : (a : Option Moment) → IsAnyMoment a → PrintableAt a
at_printable None h = tt
at_printable (Some at_start) h = tt
at_printable (Some at_end) h = tt
at_printable (Some (at_time t)) h = moment_fits t h

-- ---- modifiers

follows_labels : (card : Cardinality) (c : Option Clause) → IsGroupedAfter c card → FollowsLabels card c
follows_labels card (Some c) h = tt
follows_labels one_to_one None h = refl
follows_labels (many_to_one ls) None h = absurd h
follows_labels (one_to_many ls) None h = absurd h
follows_labels many_to_many None h = refl

modifier_printable : (op : ℕ) (m : Option Matching) → IsMatched m → SetsMatchMany op m → PrintableModifier op m
modifier_printable op None h many = tt
modifier_printable op (Some (matching card c b (fills None None))) h many = (follows_labels card c h.0, many, tt, tt)
modifier_printable op (Some (matching card c b (fills (Some r) None))) h many = (follows_labels card c h.0, many, h.1.0, tt)
modifier_printable op (Some (matching card c b (fills None (Some l)))) h many = (follows_labels card c h.0, many, tt, h.1.1)
modifier_printable op (Some (matching card c b (fills (Some r) (Some l)))) h many = (follows_labels card c h.0, many, h.1.0, h.1.1)

-- ---- places

kind_name : (name : Text) → may_be_name (word_kind name) ≡ true → may_be_name (token_kind (word_id name [])) ≡ true
unfolding word_kind
kind_name name h = h

without_at : (a : Option Moment) (d : Derivation) → IsWellFormed (with_at a d) → IsWellFormed d
without_at None d h = h
without_at (Some m) d h = h.0

without_suffix : (o : Option Shift) (a : Option Moment) (d : Derivation) → IsWellFormed (with_suffix o a d) → IsWellFormed d
without_suffix None a d h = without_at a d h
without_suffix (Some x) a d h = without_at a d h.0

without_mode : (m : RangeMode) (d : Derivation) → IsWellFormed (with_mode m d) → IsWellFormed d
without_mode Plain d h = h
without_mode Smoothed d h = h.0
without_mode Anchored d h = h.0

abbrev MaybeFormed : MaybeTree → Type 0
MaybeFormed absent = Unit {0}
MaybeFormed (present e) = IsWellFormed (derive e)

after_formed : (p : MaybeTree) (ds : Arguments) → AreWellFormed (derive_after p ds) → MaybeFormed p × AreWellFormed ds
after_formed absent ds h = (tt, h)
after_formed (present e) ds h = h

open_of : (t : Tree) → grammar.openness (derive t) ≤ openness t
open_of (unary e) = omega (arith, open_of e)
open_of (binary op l r m) = omega (arith, open_of r)
open_of (number n) = go (is_below_zero n)
  where
    go : (b : Bool) → grammar.openness (cond b (grammar.unary T_SUB (codes "-") (grammar.number (number_text (neg n)))) (grammar.number (number_text n))) ≤ cond b 5 7
    go true = omega arith
    go false = omega arith
open_of (aggregate op e p m) = omega arith
open_of (paren e) = omega arith
open_of (subquery e o a range step) = open_most (derive (subquery e o a range step))
open_of (string s) = omega arith
open_of (vector s) = open_most (derive (vector s))
open_of (matrix s range mode) = open_most (derive (matrix s range mode))
open_of (call f ts) = omega arith
open_of (extension name value ts) = omega arith

right_of : (op : ℕ) (t : Tree) → FitsRight op (derive t) → IsRightSide op t
right_of op (binary inner l r m) h = h
right_of op t h = tt

negated_of : (t : Tree) → IsNoNumber t → FitsUnary (derive t) → IsNegated t
negated_of (binary op l r m) other h = h
negated_of (number n) other h = absurd other
negated_of t other h = tt

subqueried_of : (t : Tree) → IsBase (derive t) → IsSubqueried t
subqueried_of (unary e) h = h
subqueried_of (binary op l r m) h = h
subqueried_of (number n) h = go (is_below_zero n) h
  where
    go : (b : Bool) → IsBase (cond b (grammar.unary T_SUB (codes "-") (grammar.number (number_text (neg n)))) (grammar.number (number_text n))) → b ≡ false
    go true h = absurd h
    go false h = refl
subqueried_of t h = tt

-- ---- heights

at_high : (a : Option Moment) (d : Derivation) → grammar.height d ≤ grammar.height (with_at a d)
at_high None d = omega arith
at_high (Some m) d = omega arith

suffix_high : (o : Option Shift) (a : Option Moment) (d : Derivation) → grammar.height d ≤ grammar.height (with_suffix o a d)
suffix_high None a d = at_high a d
suffix_high (Some x) a d = omega (arith, at_high a d)

number_low : (n : Number) → printed_height (number n) ≤ grammar.height (derive (number n))
number_low n = go (is_below_zero n)
  where
    go : (b : Bool) → cond b 2 1 ≤ grammar.height (cond b (grammar.unary T_SUB (codes "-") (grammar.number (number_text (neg n)))) (grammar.number (number_text n)))
    go true = omega arith
    go false = omega arith

mutual
  printed_low : (t : Tree) → printed_height t ≤ grammar.height (derive t)
  printed_low (aggregate op e p m) = omega (arith, printed_low e, after_low p (grammar.more (derive e) grammar.none))
  printed_low (unary e) = omega (arith, printed_low e)
  printed_low (binary op l r m) = omega (arith, printed_low l, printed_low r)
  printed_low (paren e) = omega (arith, printed_low e)
  printed_low (subquery e o a range step) = omega (arith, printed_low e, suffix_high o a (grammar.postfixed (derive e) (part.subquery (time range) (option_map time step))))
  printed_low (number n) = number_low n
  printed_low (string s) = omega arith
  printed_low (vector s) = omega (arith, some_height (derive (vector s)))
  printed_low (matrix s range mode) = omega (arith, some_height (derive (matrix s range mode)))
  printed_low (call f ts) = omega (arith, all_low ts)
  printed_low (extension name value ts) = omega (arith, all_low ts)

  after_low : (p : MaybeTree) (ds : Arguments) → max (maybe_printed_height p) (grammar.greatest_height ds) ≤ grammar.greatest_height (derive_after p ds)
  after_low absent ds = omega arith
  after_low (present e) ds = omega (arith, printed_low e)

  all_low : (ts : Trees) → all_printed_height ts ≤ grammar.greatest_height (derive_all ts)
  all_low no_trees = omega arith
  all_low (first_tree t ts) = omega (arith, printed_low t, all_low ts)

module _ (g : Text → Answer) where
  -- ---- matchers

  answered : (c : PlainMatcher) → Stands g c → IsAnswered g c
  answered (plain_matcher equal name v) h = tt
  answered (plain_matcher not_equal name v) h = tt
  answered (plain_matcher (matches w) name v) h = go (g v) h
    where
      go : (a : Answer) → under g (pattern_operator matches v a) ≡ Ok (matches w) → a ≡ regex.built w
      go (regex.built u) e = let same : matches u ≡ matches w = same_ok _ _ _ _ refl refl e in cc
      go regex.rejected e = cc
  answered (plain_matcher (matches_not w) name v) h = go (g v) h
    where
      go : (a : Answer) → under g (pattern_operator matches_not v a) ≡ Ok (matches_not w) → a ≡ regex.built w
      go (regex.built u) e = let same : matches_not u ≡ matches_not w = same_ok _ _ _ _ refl refl e in cc
      go regex.rejected e = cc

  all_answered : (cs : List PlainMatcher) → AllStand g cs → AllAnswered g cs
  all_answered [] h = tt
  all_answered (c ∷ cs) h = (answered c h.0, all_answered cs h.1)

  groups_answered : (gs : List (List PlainMatcher)) → GroupsStand g gs → GroupsAnswered g gs
  groups_answered [] h = tt
  groups_answered ([] ∷ gs) h = absurd h
  groups_answered ((c ∷ cs) ∷ gs) h = (all_answered (c ∷ cs) h.0, groups_answered gs h.1)

  matchers_printable : (cs : PlainMatchers) → AreAnyMatchers g cs → PrintableMatchers g cs
  matchers_printable (plain_matchers [] []) h = tt
  matchers_printable (plain_matchers (c ∷ cs) []) h = all_answered (c ∷ cs) h
  matchers_printable (plain_matchers [] (i ∷ [])) h = absurd h
  matchers_printable (plain_matchers [] (i ∷ j ∷ gs)) h = groups_answered (i ∷ j ∷ gs) h
  matchers_printable (plain_matchers (c ∷ cs) (i ∷ gs)) h = absurd h

  -- ---- selectors

  name_printable : (name : Option Text) (cs : PlainMatchers) → IsSelecting g name cs → IsWellFormed (derive_base name (braces cs)) → PrintableName name × PrintableMatchers g cs
  name_printable (Some name) cs h formed = ((h.0, kind_name name formed), matchers_printable cs h.1)
  name_printable None cs h formed = (tt, matchers_printable cs (any_matchers g cs h))

  vector_printable : (s : Selector) → Printable g (vector s) → IsWellFormed (derive_selector s) → PrintableSelector g s
  vector_printable (selector name cs o a) h formed =
      let named = name_printable name cs h.0 (without_suffix o a (derive_base name (braces cs)) formed) in
      (named.0, named.1, offset_printable o h.1, at_printable a h.2)

  matrix_printable : (s : Selector) (range : ℕ) (mode : RangeMode) → Printable g (vector s) → IsWellFormed (derive_matrix s range mode) → PrintableSelector g s
  matrix_printable (selector name cs o a) range mode h formed =
      let below = grammar.postfixed (derive_base name (braces cs)) (part.range (time range)) in
      let inner = without_mode mode below (without_suffix o a (with_mode mode below) formed) in
      let named = name_printable name cs h.0 inner.0 in
      (named.0, named.1, offset_printable o h.1, at_printable a h.2)

  -- ---- trees

  mutual
    nodes : (t : Tree) → Printable g t → IsWellFormed (derive t) → Built t → PrintableNodes g t
    nodes (aggregate op e p m) h formed b =
        let both = after_formed p (grammar.more (derive e) grammar.none) formed.1 in
        (b.0, maybe_nodes p h.2 both.0 b.1, nodes e h.1 both.1.0 b.2)
    nodes (unary e) h formed b = (negated_of e b.0 formed.2, nodes e h formed.1 b.1)
    nodes (binary op l r m) h formed b =
        (h.3, modifier_printable op m h.0 b.0, omega (arith, formed.3, open_of l), right_of op r formed.4, nodes l h.1 formed.0 b.1, nodes r h.2 formed.1 b.2)
    nodes (paren e) h formed b = nodes e h formed b
    nodes (subquery e o a range step) h formed b =
        let inner = without_suffix o a (grammar.postfixed (derive e) (part.subquery (time range) (option_map time step))) formed in
        (subqueried_of e inner.1, time_printable range h.1, step_printable step h.2, offset_printable o h.3, at_printable a h.4, nodes e h.0 inner.0 b)
    nodes (number n) h formed b = h
    nodes (string s) h formed b = tt
    nodes (vector s) h formed b = vector_printable s h formed
    nodes (matrix s range mode) h formed b = (matrix_printable s range mode h.0 formed, time_printable range h.1)
    nodes (call f ts) h formed b = (b.0, all_nodes ts h.1 formed.1 b.1)
    nodes (extension name value ts) h formed b = absurd h

    maybe_nodes : (p : MaybeTree) → MaybePrintable g p → MaybeFormed p → MaybeBuilt p → MaybePrintableNodes g p
    maybe_nodes absent h formed b = tt
    maybe_nodes (present e) h formed b = nodes e h formed b

    all_nodes : (ts : Trees) → AllPrintable g ts → AreWellFormed (derive_all ts) → AllBuilt ts → AllPrintableNodes g ts
    all_nodes no_trees h formed b = tt
    all_nodes (first_tree t ts) h formed b = (nodes t h.0 formed.0 b.0, all_nodes ts h.1 formed.1 b.1)

  -- ---- texts

  all_under : {A : Type 0} (P : A → Type 0) (m : Asking A) (x : A) → AllGive P m → under g m ≡ Ok x → P x
  all_under P (gives y) x all e = let same : y ≡ x = same_ok _ _ _ _ refl refl e in subst P same all
  all_under P (fails u) x all e = cc
  all_under P (asks v next) x all e = all_under P (next (g v)) x (all (g v)) e

  pub parsed_printable : CheckedTyped → (source : Text) (t : Tree) → HasTree g source t → NodesArePrintable g t
  parsed_printable law source t h =
      let s = h.1 in
      let k = keeps g h.0 t s.formed (has_words source h.0 s) h.3 in
      record {
        typed = (all_under (IsGood (grammar.height h.0)) (build h.0) t (build_good law h.0) h.3).typed;
        low = omega (arith, printed_low t, k.low, h.2);
        nodes = nodes t k.printable k.formed (built g h.0 t h.3);
      }
