-- What building sees to and a tree's text does not tell: arguments of aggregations, functions, signs of numbers, and cardinalities.
use Rattle.std.proofs.Common.{◌≡◌, ℕ, refl, sym, ◌∙◌, ap, subst, Bool, true, false, cond, Option, Some, None}
use Rattle.std.specs.Prelude.{Ok, ◌==◌}
use Rattle.promql_text.specs.Texts.{Text}
use Rattle.promql_text.specs.Values.{from_nanos, neg}
use Rattle.promql_token.specs.Ids.{is_aggregator_with_param, is_set_operator}
use Rattle.promql_token.specs.declared.ids.TheConstants.{T_SUB}
use Rattle.promql_grammar.specs.Grammar as grammar
use Rattle.promql_grammar.specs.Grammar.{Derivation, Arguments}
use Rattle.promql_grammar.specs.GrammarParts as part
use Rattle.promql_label.specs.Answers.{Answer}
use Rattle.promql_kind.specs.Functions.{Signature, function_named, name_of}
use Rattle.promql_kind.proofs.NamedFunctions.{named_so}
use Rattle.promql_kind.specs.Modifiers.{Clause, one_to_one, many_to_one, one_to_many, many_to_many, Matching, matching}
use Rattle.promql_ast.specs.Builds.{aggregate_args, aggregated_alone, aggregated_with, at_given, minus, mode_given, offset_given, with_range}
use Rattle.promql_ast.specs.Checked.{check_tree}
use Rattle.promql_ast.specs.Faults.{passes}
use Rattle.promql_ast.specs.Selectors.{selector}
use Rattle.promql_ast.specs.Shifts.{Shift, Moment}
use Rattle.promql_ast.specs.Tree.{Tree, aggregate, unary, binary, paren, subquery, number, string, vector, matrix, call, extension, MaybeTree, absent, present, Trees, no_trees, first_tree}
use Rattle.promql_ast.specs.check.BinaryChecks.{checked_binary, settle_matching, settled_set}
use Rattle.promql_ast.specs.declared.range_mode.RangeMode.{RangeMode}
use Rattle.promql_ast.specs.declared.range_mode.RangeMode.TheVariants.{Plain}
use Rattle.promql_syntax.specs.Asking.{gives, ◌giving◌, known, under}
use Rattle.promql_syntax.specs.Building.{build, build_all, from_verdict, from_checked_verdict, selector_tree, build_postfix}
use Rattle.promql_syntax.specs.Postfixes.{bound_moment, range_mode}
use Rattle.promql_syntax.specs.PartBuilding.{braces_value, duration_value, modifier_value, moment_value, number_value, shift_value, string_value, time_value}
use Rattle.promql_syntax.specs.Atoms.{any_braces_value}
use Rattle.promql_syntax.proofs.readback.CanonicalNodes.{selector_passes}
use Rattle.promql_syntax.proofs.readback.CheckedAgain.{aggregate_again, aggregates, arguments, call_again, same_tree, subquery_again, unary_again}
use Rattle.promql_syntax.proofs.printed.PrintedModifiers.{IsWritten, binary_checked, modifier_is}
use Rattle.promql_syntax.proofs.building.SingleAnswers.{checks_pass, giving_steps, known_steps, passing_passes, same_ok}
use Rattle.promql_rewrite.specs.PrintableNodes.{has_param}
use Rattle.promql_syntax.specs.PartWords.{build_call, build_unary, clause_value, step_value}

abbrev pub IsNoNumber : Tree → Type 0
IsNoNumber (number n) = ⊥
IsNoNumber t = Unit {0}

-- many elements match many only at set operators
abbrev pub SetsMatchMany : ℕ → Option Matching → Type 0
SetsMatchMany op None = Unit {0}
SetsMatchMany op (Some (matching card clause return_bool values)) = card ≡ many_to_many → is_set_operator op ≡ true

abbrev mutual
  pub Built : Tree → Type 0
  Built (aggregate op e p m) = (has_param p ≡ is_aggregator_with_param op) × MaybeBuilt p × Built e
  Built (unary e) = IsNoNumber e × Built e
  Built (binary op l r m) = SetsMatchMany op m × Built l × Built r
  Built (paren e) = Built e
  Built (subquery e offset at range step) = Built e
  Built (number n) = Unit {0}
  Built (string s) = Unit {0}
  Built (vector s) = Unit {0}
  Built (matrix s range mode) = Unit {0}
  Built (call f ts) = (function_named (name_of f) ≡ Some f) × AllBuilt ts
  Built (extension name value ts) = Unit {0}

  pub MaybeBuilt : MaybeTree → Type 0
  MaybeBuilt absent = Unit {0}
  MaybeBuilt (present e) = Built e

  pub AllBuilt : Trees → Type 0
  AllBuilt no_trees = Unit {0}
  AllBuilt (first_tree t ts) = Built t × AllBuilt ts

-- ---- modifiers

settled_matches : (op : ℕ) (m : Option Matching) → IsWritten m → SetsMatchMany op (settle_matching op m)
settled_matches op m h = go (is_set_operator op) refl m h
  where
    go : (b : Bool) → is_set_operator op ≡ b → (m : Option Matching) → IsWritten m → SetsMatchMany op (cond b (Some (settled_set m)) m)
    go true is None h = λ _. is
    go true is (Some (matching card c b values)) h = λ _. is
    go false is None h = tt
    go false is (Some (matching one_to_one c b values)) h = λ same. cc
    go false is (Some (matching (many_to_one ls) c b values)) h = λ same. cc
    go false is (Some (matching (one_to_many ls) c b values)) h = λ same. cc
    go false is (Some (matching many_to_many c b values)) h = absurd h

-- ---- aggregations

param_taken : (op : ℕ) (m : Option Clause) (p : MaybeTree) (e u : Tree) → aggregate_args op m (arguments p e) ≡ passes u → has_param p ≡ is_aggregator_with_param op
param_taken op m p e u made = go (is_aggregator_with_param op) p made
  where
    go : (b : Bool) (p : MaybeTree) → cond b (aggregated_with op m (arguments p e)) (aggregated_alone op m (arguments p e)) ≡ passes u → has_param p ≡ b
    go true absent made = cc
    go true (present q) made = refl
    go false absent made = refl
    go false (present q) made = cc

arguments_built : (p : MaybeTree) (e : Tree) → AllBuilt (arguments p e) → MaybeBuilt p × Built e
arguments_built absent e h = (tt, h.0)
arguments_built (present p) e h = (h.0, h.1.0)

-- ---- postfixes

range_built : (s t : Tree) (n : ℕ) → with_range s n ≡ passes t → Built t
range_built (vector (selector name cs None None)) t n e = subst Built (same_tree _ _ e) tt
range_built s t n e = cc

at_built : (s t : Tree) (m : Moment) → Built s → at_given s m ≡ passes t → Built t
at_built (vector (selector name cs o None)) t m h e = subst Built (same_tree _ _ e) tt
at_built (matrix (selector name cs o None) range mode) t m h e = subst Built (same_tree _ _ e) tt
at_built (subquery u o None range step) t m h e = subst Built (same_tree _ _ e) h
at_built s t m h e = cc

offset_built : (s t : Tree) (x : Shift) → Built s → offset_given s x ≡ passes t → Built t
offset_built (vector (selector name cs None a)) t x h e = subst Built (same_tree _ _ e) tt
offset_built (matrix (selector name cs None a) range mode) t x h e = subst Built (same_tree _ _ e) tt
offset_built (subquery u None a range step) t x h e = subst Built (same_tree _ _ e) h
offset_built s t x h e = cc

mode_built : (s t : Tree) (mode : RangeMode) → mode_given s mode ≡ passes t → Built t
mode_built (matrix s range Plain) t mode e = subst Built (same_tree _ _ e) tt
mode_built s t mode e = cc

module _ (g : Text → Answer) where
  postfix_built : (p : part.Postfix) (s t : Tree) → Built s → under g (build_postfix s p) ≡ Ok t → Built t
  postfix_built (part.range r) s t h e =
      let n = known_steps g (time_value r) (λ n. from_verdict (with_range s n)) t e in
      range_built s t n.value (passing_passes g (with_range s n.value) t n.leads)
  postfix_built (part.subquery r x) s t h e =
      let n = known_steps g (time_value r) (λ n. known (step_value x) giving λ m. from_verdict (check_tree (subquery s None None n m))) t e in
      let m = known_steps g (step_value x) (λ m. from_verdict (check_tree (subquery s None None n.value m))) t n.leads in
      let again = subquery_again s n.value m.value t (passing_passes g (check_tree (subquery s None None n.value m.value)) t m.leads) in
      subst Built again.is h
  postfix_built (part.at_number x text) s t h e =
      let m = known_steps g (moment_value x text) (λ m. from_verdict (at_given s m)) t e in
      at_built s t m.value h (passing_passes g (at_given s m.value) t m.leads)
  postfix_built (part.at_bound k text) s t h e = at_built s t (bound_moment k) h (passing_passes g (at_given s (bound_moment k)) t e)
  postfix_built (part.offset text x r) s t h e =
      let y = known_steps g (shift_value x r) (λ y. from_verdict (offset_given s y)) t e in
      offset_built s t y.value h (passing_passes g (offset_given s y.value) t y.leads)
  postfix_built (part.mode k text) s t h e = mode_built s t (range_mode k) (passing_passes g (mode_given s (range_mode k)) t e)

  -- ---- unary operators

  node_built : (s t : Tree) → IsNoNumber s → Built s → check_tree (unary s) ≡ passes t → Built t
  node_built s t other h e = let again = unary_again s t e in subst Built again.is (other, h)

  minus_built : (s u t : Tree) → Built s → minus s ≡ passes u → check_tree u ≡ passes t → Built t
  minus_built (number n) u t h made e =
      let same : number (neg n) ≡ u = same_tree _ _ made in
      let last : number (neg n) ≡ t = same_tree _ _ (ap check_tree same ∙ e) in
      subst Built last tt
  minus_built (string s) u t h made e = cc
  minus_built (matrix s range mode) u t h made e = cc
  minus_built s u t h made e = node_built s t tt h (ap check_tree (same_tree (unary s) u made) ∙ e)

  sign_built : (b : Bool) (s t : Tree) → Built s → under g (cond b (from_checked_verdict (minus s)) (gives s)) ≡ Ok t → Built t
  sign_built true s t h e =
      let made = checks_pass g (minus s) t e in
      minus_built s made.tree t h made.made made.passes
  sign_built false s t h e = subst Built (same_ok _ _ _ _ refl refl e) h

  -- ---- calls and aggregations

  called_built : (text : Text) (o : Option Signature) (ts : Trees) (t : Tree) → AllBuilt ts → function_named text ≡ o → under g (build_call text o ts) ≡ Ok t → Built t
  called_built text None ts t h found e = cc
  called_built text (Some f) ts t h found e =
      let again = call_again f ts t (passing_passes g (check_tree (call f ts)) t e) in
      subst Built again.is (ap function_named (named_so text f found) ∙ found, h)

  aggregated_built : (op : ℕ) (m : Option Clause) (ts : Trees) (u t : Tree) → AllBuilt ts → aggregate_args op m ts ≡ passes u → check_tree u ≡ passes t → Built t
  aggregated_built op m ts u t h made e =
      let a = aggregates op m ts u made in
      let again = aggregate_again op a.tree a.param m m t (ap check_tree (sym a.is) ∙ e) in
      let parts = arguments_built a.param a.tree (subst AllBuilt a.all h) in
      subst Built again.is (param_taken op m a.param a.tree u (subst (λ us. aggregate_args op m us ≡ passes u) a.all made), parts.0, parts.1)

  -- ---- any derivation

  mutual
    pub built : (d : Derivation) (t : Tree) → under g (build d) ≡ Ok t → Built t
    built (grammar.number text) t e =
        let n = known_steps g (number_value text) (λ n. gives (number n)) t e in
        subst Built (same_ok _ _ _ _ refl refl n.leads) tt
    built (grammar.duration text) t e =
        let n = known_steps g (duration_value text) (λ n. gives (number (from_nanos n))) t e in
        subst Built (same_ok _ _ _ _ refl refl n.leads) tt
    built (grammar.string text) t e =
        let s = known_steps g (string_value text) (λ s. gives (string s)) t e in
        subst Built (same_ok _ _ _ _ refl refl s.leads) tt
    built (grammar.selector k text b) t e =
        let cs = giving_steps g (any_braces_value b) (λ cs. selector_tree (Some text) cs) t e in
        subst Built (selector_passes g (Some text) cs.value t (passing_passes g _ t cs.leads)).1 tt
    built (grammar.nameless b) t e =
        let cs = giving_steps g (braces_value b) (λ cs. selector_tree None cs) t e in
        subst Built (selector_passes g None cs.value t (passing_passes g _ t cs.leads)).1 tt
    built (grammar.paren d) t e =
        let s = giving_steps g (build d) (λ s. gives (paren s)) t e in
        subst Built (same_ok _ _ _ _ refl refl s.leads) (built d s.value s.is)
    built (grammar.call k text ds) t e =
        let ts = giving_steps g (build_all ds) (λ ts. build_call text (function_named text) ts) t e in
        called_built text (function_named text) ts.value t (all_built ds ts.value ts.is) refl ts.leads
    built (grammar.aggregate op text c ds) t e =
        let ts = giving_steps g (build_all ds) (λ ts. known (clause_value c) giving λ m. from_checked_verdict (aggregate_args op m ts)) t e in
        let m = known_steps g (clause_value c) (λ m. from_checked_verdict (aggregate_args op m ts.value)) t ts.leads in
        let made = checks_pass g (aggregate_args op m.value ts.value) t m.leads in
        aggregated_built op m.value ts.value made.tree t (all_built ds ts.value ts.is) made.made made.passes
    built (grammar.postfixed d p) t e =
        let s = giving_steps g (build d) (λ s. build_postfix s p) t e in
        postfix_built p s.value t (built d s.value s.is) s.leads
    built (grammar.unary op text d) t e =
        let s = giving_steps g (build d) (λ s. build_unary op s) t e in
        sign_built (op == T_SUB) s.value t (built d s.value s.is) s.leads
    built (grammar.binary op text m l r) t e =
        let x = giving_steps g (build l) (λ x. build r giving λ y. known (modifier_value m) giving λ z. from_verdict (check_tree (binary op x y z))) t e in
        let y = giving_steps g (build r) (λ y. known (modifier_value m) giving λ z. from_verdict (check_tree (binary op x.value y z))) t x.leads in
        let z = known_steps g (modifier_value m) (λ z. from_verdict (check_tree (binary op x.value y.value z))) t y.leads in
        let c = binary_checked op x.value y.value z.value t (passing_passes g (checked_binary op x.value y.value z.value) t z.leads) in
        let is = modifier_is m z.value z.is in
        subst Built c.is (settled_matches op z.value is.1, built l x.value x.is, built r y.value y.is)

    all_built : (ds : Arguments) (ts : Trees) → under g (build_all ds) ≡ Ok ts → AllBuilt ts
    all_built grammar.none ts e = subst AllBuilt (same_ok _ _ _ _ refl refl e) tt
    all_built (grammar.more d ds) ts e =
        let s = giving_steps g (build d) (λ s. build_all ds giving λ ss. gives (first_tree s ss)) ts e in
        let ss = giving_steps g (build_all ds) (λ ss. gives (first_tree s.value ss)) ts s.leads in
        subst AllBuilt (same_ok _ _ _ _ refl refl ss.leads) (built d s.value s.is, all_built ds ss.value ss.is)
