-- What builds a tree is kept by the derivation of the enforced tree's text.
use Rattle.std.proofs.Common.{◌≡◌, ◌≢◌, ℕ, refl, sym, ◌∙◌, ap, subst, arith, Bool, true, false, cond, Option, Some, None, codes}
use Rattle.std.specs.Prelude.{Ok, ◌==◌}
use Rattle.promql_text.specs.Texts.{Text}
use Rattle.promql_text.specs.Values.{from_nanos, neg}
use Rattle.promql_text.proofs.numbers.OneForm.{negated_in_form}
use Rattle.promql_token.specs.declared.ids.TheConstants.{T_SUB}
use Rattle.promql_grammar.specs.declared.token_kinds.TokenKind.{TokenKind}
use Rattle.promql_grammar.specs.Grammar as grammar
use Rattle.promql_grammar.specs.Grammar.{Derivation, Arguments, IsWellFormed, AreWellFormed, IsBase, FitsUnary}
use Rattle.promql_grammar.specs.GrammarParts as part
use Rattle.promql_grammar.specs.Symbols.{may_be_called, may_be_name}
use Rattle.promql_label.specs.Answers.{Answer}
use Rattle.promql_label.specs.PlainMatchers.{PlainMatcher, PlainMatchers, name_of}
use Rattle.promql_kind.specs.Functions.{Signature, function_named}
use Rattle.promql_kind.specs.Modifiers.{Clause}
use Rattle.promql_ast.specs.Builds.{aggregate_args, at_given, minus, mode_given, offset_given, with_range}
use Rattle.promql_ast.specs.Checked.{check_tree}
use Rattle.promql_ast.specs.Faults.{passes}
use Rattle.promql_ast.specs.Normal.{normal, all_normal, maybe_normal, normal_clause}
use Rattle.promql_ast.specs.Selectors.{selector}
use Rattle.promql_ast.specs.Tree.{Tree, aggregate, unary, binary, paren, subquery, number, string, vector, matrix, call, Trees, first_tree}
use Rattle.promql_ast.specs.check.BinaryChecks.{checked_binary}
use Rattle.promql_syntax.specs.Asking.{gives, ◌giving◌, known, under}
use Rattle.promql_syntax.specs.Building.{build, build_all, from_verdict, from_checked_verdict, selector_tree, build_postfix}
use Rattle.promql_syntax.specs.Postfixes.{bound_moment, range_mode}
use Rattle.promql_syntax.specs.PartBuilding.{braces_value, duration_value, modifier_value, moment_value, number_value, shift_value, string_value, time_value}
use Rattle.promql_syntax.specs.Atoms.{any_braces_value}
use Rattle.promql_syntax.proofs.readback.Derive.{AllHaveWords, HasWords, IsName}
use Rattle.promql_syntax.proofs.readback.Canonical.{AllKept, Canon, Keeps, canon_at, canon_mode, canon_offset, core, some_height, whole}
use Rattle.promql_syntax.proofs.readback.CanonicalNodes.{all_more, all_none, keeps_aggregate, keeps_binary, keeps_call, keeps_minus, keeps_named, keeps_nameless, keeps_number, keeps_paren, keeps_plus, keeps_range, keeps_subquery, selector_passes, selects}
use Rattle.promql_syntax.proofs.readback.CanonicalTrees.{canon}
use Rattle.promql_syntax.proofs.readback.CheckedAgain.{aggregate_again, aggregates, call_again, is_aggregated, same_tree, subquery_again, unary_again}
use Rattle.promql_syntax.proofs.printed.PrintedMatcherLists.{any_braces_are, braces_are}
use Rattle.promql_syntax.proofs.printed.PrintedModifiers.{binary_checked, modifier_is}
use Rattle.promql_syntax.proofs.printed.PrintedTimes.{bound_is, moment_is, shift_is}
use Rattle.promql_syntax.proofs.printed.PrintedTimesAndLabels.{step_is, time_is}
use Rattle.promql_syntax.proofs.building.SingleAnswers.{checks_pass, giving_steps, known_steps, passing_passes, same_ok}
use Rattle.promql_rewrite.specs.Answered.{IsAnswered}
use Rattle.promql_rewrite.specs.Enforcing.{all_enforced, enforced, enforced_matchers}
use Rattle.promql_rewrite.proofs.enforcement.EnforcedChecks.{args_enforced, at_enforced, check_enforced, enforced_verdict, mode_enforced, offset_enforced}
use Rattle.promql_rewrite.proofs.enforcement.EnforcedMatchers.{enforced_stand, name_passes}
use Rattle.promql_syntax.specs.PartWords.{build_call, build_unary, clause_value, step_value}

module _ (g : Text → Answer) (c : PlainMatcher) (answered : IsAnswered g c) (other : name_of c ≢ codes "__name__") where
  -- ---- selectors, and trees without one

  kept_same : (d : Derivation) (s t : Tree) → enforced c s ≡ s → s ≡ t → Canon g d t → Canon g d (enforced c t)
  kept_same d s t same is kept = subst (Canon g d) (sym is ∙ sym same ∙ ap (enforced c) is) kept

  kept_selector : (d : Derivation) (name : Option Text) (cs : PlainMatchers) (t : Tree) → Keeps g d (vector (selector name (enforced_matchers c cs) None None)) → vector (selector name cs None None) ≡ t → Canon g d (enforced c t)
  kept_selector d name cs t kept is = subst (λ t. Canon g d (enforced c t)) is (record { kept = kept; suffixes = (tt, tt) })

  -- ---- postfixes

  kept_range : (d : Derivation) (r : part.Time) (s t : Tree) (n : ℕ) → Canon g d (enforced c s) → time_value r ≡ Ok n → with_range s n ≡ passes t → Canon g (grammar.postfixed d (part.range r)) (enforced c t)
  kept_range d r (vector (selector name cs None None)) t n k is e =
      subst (λ t. Canon g (grammar.postfixed d (part.range r)) (enforced c t)) (same_tree _ _ e) (record { kept = keeps_range g d r name (enforced_matchers c cs) n k.kept (time_is r n is); suffixes = (tt, tt) })
  kept_range d r s t n k is e = cc

  kept_postfix : (d : Derivation) (p : part.Postfix) (s t : Tree) → Canon g d (enforced c s) → IsBase d → under g (build_postfix s p) ≡ Ok t → Canon g (grammar.postfixed d p) (enforced c t)
  kept_postfix d (part.range r) s t k b e =
      let n = known_steps g (time_value r) (λ n. from_verdict (with_range s n)) t e in
      kept_range d r s t n.value k n.is (passing_passes g (with_range s n.value) t n.leads)
  kept_postfix d (part.subquery r s) u t k b e =
      let n = known_steps g (time_value r) (λ n. known (step_value s) giving λ m. from_verdict (check_tree (subquery u None None n m))) t e in
      let m = known_steps g (step_value s) (λ m. from_verdict (check_tree (subquery u None None n.value m))) t n.leads in
      let passed = check_enforced c other (subquery u None None n.value m.value) t (passing_passes g (check_tree (subquery u None None n.value m.value)) t m.leads) in
      let again = subquery_again (enforced c u) n.value m.value (enforced c t) passed in
      subst (Canon g (grammar.postfixed d (part.subquery r s))) again.is (record {
        kept = keeps_subquery g d r s (enforced c u) n.value m.value (whole g d (enforced c u) k) b (time_is r n.value n.is) (step_is s m.value m.is) again.again;
        suffixes = (tt, tt);
      })
  kept_postfix d (part.at_number s text) u t k b e =
      let m = known_steps g (moment_value s text) (λ m. from_verdict (at_given u m)) t e in
      let passed = at_enforced c u m.value ∙ ap (enforced_verdict c) (passing_passes g (at_given u m.value) t m.leads) in
      canon_at g d (grammar.postfixed d (part.at_number s text)) m.value (enforced c u) (enforced c t) k (moment_is s text m.value m.is) (omega arith) passed
  kept_postfix d (part.at_bound w text) u t k b e =
      let passed = at_enforced c u (bound_moment w) ∙ ap (enforced_verdict c) (passing_passes g (at_given u (bound_moment w)) t e) in
      canon_at g d (grammar.postfixed d (part.at_bound w text)) (bound_moment w) (enforced c u) (enforced c t) k (bound_is w) (omega arith) passed
  kept_postfix d (part.offset text s r) u t k b e =
      let x = known_steps g (shift_value s r) (λ x. from_verdict (offset_given u x)) t e in
      let passed = offset_enforced c u x.value ∙ ap (enforced_verdict c) (passing_passes g (offset_given u x.value) t x.leads) in
      canon_offset g d (grammar.postfixed d (part.offset text s r)) x.value (enforced c u) (enforced c t) k (shift_is s r x.value x.is) (omega arith) passed
  kept_postfix d (part.mode w text) u t k b e =
      let passed = mode_enforced c u (range_mode w) ∙ ap (enforced_verdict c) (passing_passes g (mode_given u (range_mode w)) t e) in
      canon_mode g d (grammar.postfixed d (part.mode w text)) (range_mode w) (enforced c u) (enforced c t) k (omega arith) passed

  -- ---- unary operators

  kept_unary : (op : ℕ) (text : Text) (d : Derivation) (s t : Tree) → Canon g d (enforced c s) → FitsUnary d → minus (enforced c s) ≡ passes (unary (enforced c s)) → check_tree (unary s) ≡ passes t → Canon g (grammar.unary op text d) (enforced c t)
  kept_unary op text d s t k fits e h =
      let again = unary_again (enforced c s) (enforced c t) (check_enforced c other (unary s) t h) in
      subst (Canon g (grammar.unary op text d)) again.is (record { kept = keeps_minus g op text d (enforced c s) (whole g d (enforced c s) k) fits e again.again; suffixes = tt })

  kept_minus : (op : ℕ) (text : Text) (d : Derivation) (s u t : Tree) → Canon g d (enforced c s) → FitsUnary d → minus s ≡ passes u → check_tree u ≡ passes t → Canon g (grammar.unary op text d) (enforced c t)
  kept_minus op text d (number n) u t k fits made h =
      let same : number (neg n) ≡ u = same_tree _ _ made in
      let last : number (neg n) ≡ t = same_tree _ _ (ap check_tree same ∙ h) in
      subst (λ t. Canon g (grammar.unary op text d) (enforced c t)) last (record {
        kept = keeps_number g (grammar.unary op text d) (neg n) (negated_in_form n k.kept.printable) (λ _. (omega (arith, some_height d), omega arith, λ x. x));
        suffixes = tt;
      })
  kept_minus op text d (string s) u t k fits made h = cc
  kept_minus op text d (matrix s range mode) u t k fits made h = cc
  kept_minus op text d s u t k fits made h = kept_unary op text d s t k fits refl (ap check_tree (same_tree (unary s) u made) ∙ h)

  kept_sign : (op : ℕ) (text : Text) (d : Derivation) (s t : Tree) (b : Bool) → Canon g d (enforced c s) → FitsUnary d → under g (cond b (from_checked_verdict (minus s)) (gives s)) ≡ Ok t → Canon g (grammar.unary op text d) (enforced c t)
  kept_sign op text d s t true k fits e =
      let made = checks_pass g (minus s) t e in
      kept_minus op text d s made.tree t k fits made.made made.passes
  kept_sign op text d s t false k fits e =
      subst (λ t. Canon g (grammar.unary op text d) (enforced c t)) (same_ok _ _ _ _ refl refl e) (record { kept = keeps_plus g op text d (core g (enforced c s)) k.kept fits; suffixes = k.suffixes })

  -- ---- calls and aggregations

  kept_called : (w : TokenKind) (text : Text) (ds : Arguments) (ts : Trees) (t : Tree) (o : Option Signature) → AllKept g ds (all_enforced c ts) → may_be_called w ≡ true → IsName w text → function_named text ≡ o
      → under g (build_call text o ts) ≡ Ok t → Canon g (grammar.call w text ds) (enforced c t)
  kept_called w text ds ts t None kept may is found e = cc
  kept_called w text ds ts t (Some f) kept may is found e =
      let us = all_enforced c ts in
      let again = call_again f us (enforced c t) (check_enforced c other (call f ts) t (passing_passes g (check_tree (call f ts)) t e)) in
      subst (Canon g (grammar.call w text ds)) again.is (record { kept = keeps_call g w text ds f us kept may is found again.again; suffixes = tt })

  kept_aggregated : (op : ℕ) (text : Text) (w : part.Clause) (ds : Arguments) (m : Option Clause) (ts : Trees) (u t : Tree) → AllKept g ds (all_enforced c ts) → aggregate_args op m ts ≡ passes u → check_tree u ≡ passes t → Canon g (grammar.aggregate op text w ds) (enforced c t)
  kept_aggregated op text w ds m ts u t kept made h =
      let a = aggregates op m (all_enforced c ts) (enforced c u) (args_enforced c op m ts u made) in
      let passed : check_tree (aggregate op a.tree a.param m) ≡ passes (enforced c t) = ap check_tree (sym a.is) ∙ check_enforced c other u t h in
      let again = aggregate_again op a.tree a.param m (normal_clause m) (enforced c t) passed in
      let built = λ (n : Option Clause). subst (λ xs. aggregate_args op n (all_normal xs) ≡ passes (aggregate op (normal a.tree) (maybe_normal a.param) n)) a.all (a.again n) in
      subst (Canon g (grammar.aggregate op text w ds)) again.is (record { kept = keeps_aggregate g op text w ds m a.tree a.param (is_aggregated op a.tree a.param m (enforced c t) passed) (subst (AllKept g ds) a.all kept) built again.again; suffixes = tt })

  -- ---- any derivation

  mutual
    pub canon_enforced : (d : Derivation) (t : Tree) → IsWellFormed d → HasWords d → under g (build d) ≡ Ok t → Canon g d (enforced c t)
    canon_enforced (grammar.number text) t h w e =
        let n = known_steps g (number_value text) (λ n. gives (number n)) t e in
        kept_same (grammar.number text) (number n.value) t refl (same_ok _ _ _ _ refl refl n.leads) (canon g (grammar.number text) t h w e)
    canon_enforced (grammar.duration text) t h w e =
        let n = known_steps g (duration_value text) (λ n. gives (number (from_nanos n))) t e in
        kept_same (grammar.duration text) (number (from_nanos n.value)) t refl (same_ok _ _ _ _ refl refl n.leads) (canon g (grammar.duration text) t h w e)
    canon_enforced (grammar.string text) t h w e =
        let s = known_steps g (string_value text) (λ s. gives (string s)) t e in
        kept_same (grammar.string text) (string s.value) t refl (same_ok _ _ _ _ refl refl s.leads) (canon g (grammar.string text) t h w e)
    canon_enforced (grammar.selector k text b) t h w e =
        let cs = giving_steps g (any_braces_value b) (λ cs. selector_tree (Some text) cs) t e in
        let passed = selector_passes g (Some text) cs.value t (passing_passes g _ t cs.leads) in
        kept_selector (grammar.selector k text b) (Some text) cs.value t
        (keeps_named g (grammar.selector k text b) text (enforced_matchers c cs.value) w.letters (subst (λ x. may_be_name x ≡ true) w.kind h) (enforced_stand g c answered cs.value (any_braces_are g b cs.value cs.is)) (name_passes c other (Some text) cs.value passed.0)) passed.1
    canon_enforced (grammar.nameless b) t h w e =
        let cs = giving_steps g (braces_value b) (λ cs. selector_tree None cs) t e in
        let passed = selector_passes g None cs.value t (passing_passes g _ t cs.leads) in
        let found = name_passes c other None cs.value passed.0 in
        kept_selector (grammar.nameless b) None cs.value t
        (keeps_nameless g (grammar.nameless b) (enforced_matchers c cs.value) (selects g (enforced_matchers c cs.value) (enforced_stand g c answered cs.value (braces_are g b cs.value cs.is)) found) found) passed.1
    canon_enforced (grammar.paren d) t h w e =
        let s = giving_steps g (build d) (λ s. gives (paren s)) t e in
        subst (λ t. Canon g (grammar.paren d) (enforced c t)) (same_ok _ _ _ _ refl refl s.leads) (record { kept = keeps_paren g d (enforced c s.value) (whole g d (enforced c s.value) (canon_enforced d s.value h w s.is)); suffixes = tt })
    canon_enforced (grammar.call k text ds) t h w e =
        let ts = giving_steps g (build_all ds) (λ ts. build_call text (function_named text) ts) t e in
        kept_called k text ds ts.value t (function_named text) (all_kept ds ts.value h.1 w.1 ts.is) h.0 w.0 refl ts.leads
    canon_enforced (grammar.aggregate op text k ds) t h w e =
        let ts = giving_steps g (build_all ds) (λ ts. known (clause_value k) giving λ m. from_checked_verdict (aggregate_args op m ts)) t e in
        let m = known_steps g (clause_value k) (λ m. from_checked_verdict (aggregate_args op m ts.value)) t ts.leads in
        let made = checks_pass g (aggregate_args op m.value ts.value) t m.leads in
        kept_aggregated op text k ds m.value ts.value made.tree t (all_kept ds ts.value h.1 w ts.is) made.made made.passes
    canon_enforced (grammar.postfixed d p) t h w e =
        let s = giving_steps g (build d) (λ s. build_postfix s p) t e in
        kept_postfix d p s.value t (canon_enforced d s.value h.0 w s.is) h.1 s.leads
    canon_enforced (grammar.unary op text d) t h w e =
        let s = giving_steps g (build d) (λ s. build_unary op s) t e in
        kept_sign op text d s.value t (op == T_SUB) (canon_enforced d s.value h.1 w s.is) h.2 s.leads
    canon_enforced (grammar.binary op text m l r) t h w e =
        let x = giving_steps g (build l) (λ x. build r giving λ y. known (modifier_value m) giving λ z. from_verdict (check_tree (binary op x y z))) t e in
        let y = giving_steps g (build r) (λ y. known (modifier_value m) giving λ z. from_verdict (check_tree (binary op x.value y z))) t x.leads in
        let z = known_steps g (modifier_value m) (λ z. from_verdict (check_tree (binary op x.value y.value z))) t y.leads in
        let passed = check_enforced c other (binary op x.value y.value z.value) t (passing_passes g (checked_binary op x.value y.value z.value) t z.leads) in
        let b = binary_checked op (enforced c x.value) (enforced c y.value) z.value (enforced c t) passed in
        let is = modifier_is m z.value z.is in
        let left = whole g l (enforced c x.value) (canon_enforced l x.value h.0 w.0 x.is) in
        let right = whole g r (enforced c y.value) (canon_enforced r y.value h.1 w.1 y.is) in
        subst (Canon g (grammar.binary op text m l r)) b.is (record {
          kept = keeps_binary g op text m l r (enforced c x.value) (enforced c y.value) z.value (enforced c t) left right h w.2 is.0 is.1 b;
          suffixes = tt;
        })

    all_kept : (ds : Arguments) (ts : Trees) → AreWellFormed ds → AllHaveWords ds → under g (build_all ds) ≡ Ok ts → AllKept g ds (all_enforced c ts)
    all_kept grammar.none ts h w e = subst (λ ts. AllKept g grammar.none (all_enforced c ts)) (same_ok _ _ _ _ refl refl e) (all_none g)
    all_kept (grammar.more d ds) ts h w e =
        let s = giving_steps g (build d) (λ s. build_all ds giving λ ss. gives (first_tree s ss)) ts e in
        let ss = giving_steps g (build_all ds) (λ ss. gives (first_tree s.value ss)) ts s.leads in
        subst (λ ts. AllKept g (grammar.more d ds) (all_enforced c ts)) (same_ok _ _ _ _ refl refl ss.leads)
        (all_more g d ds (enforced c s.value) (all_enforced c ss.value) (whole g d (enforced c s.value) (canon_enforced d s.value h.0 w.0 s.is)) (all_kept ds ss.value h.1 w.1 ss.is))
