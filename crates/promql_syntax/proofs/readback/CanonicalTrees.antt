-- What builds a tree is kept by the derivation of the tree's text.
use Rattle.std.proofs.Common.{◌≡◌, ℕ, refl, sym, ◌∙◌, ap, subst, arith, Bool, true, false, cond, Option, Some, None}
use Rattle.std.specs.Prelude.{Ok, ◌==◌}
use Rattle.promql_text.specs.Texts.{Text}
use Rattle.promql_text.specs.Values.{from_nanos, is_below_zero, neg}
use Rattle.promql_text.proofs.numbers.OneForm.{negated_in_form}
use Rattle.promql_token.specs.declared.ids.TheConstants.{T_SUB}
use Rattle.promql_grammar.specs.declared.token_kinds.TokenKind.{TokenKind}
use Rattle.promql_grammar.specs.Grammar as grammar
use Rattle.promql_grammar.specs.Grammar.{Derivation, Arguments, IsWellFormed, AreWellFormed, IsBase, FitsUnary}
use Rattle.promql_grammar.specs.GrammarParts as part
use Rattle.promql_grammar.specs.Symbols.{may_be_called, may_be_name}
use Rattle.promql_label.specs.Answers.{Answer}
use Rattle.promql_kind.specs.Functions.{Signature, function_named}
use Rattle.promql_kind.specs.Modifiers.{Clause}
use Rattle.promql_ast.specs.Builds.{aggregate_args, at_given, minus, mode_given, offset_given, with_range}
use Rattle.promql_ast.specs.Checked.{check_tree}
use Rattle.promql_ast.specs.Faults.{passes}
use Rattle.promql_ast.specs.Normal.{normal, maybe_normal, normal_clause}
use Rattle.promql_ast.specs.Selectors.{selector}
use Rattle.promql_ast.specs.Tree.{Tree, aggregate, unary, binary, paren, subquery, number, string, vector, matrix, call, Trees, first_tree}
use Rattle.promql_ast.specs.check.BinaryChecks.{checked_binary}
use Rattle.promql_syntax.specs.Asking.{gives, ◌giving◌, known, under}
use Rattle.promql_syntax.specs.Building.{build, build_all, from_verdict, from_checked_verdict, selector_tree, build_postfix}
use Rattle.promql_syntax.specs.Postfixes.{bound_moment, range_mode}
use Rattle.promql_syntax.proofs.readback.Derive.{AllHaveWords, HasWords, IsName, IsUnsigned}
use Rattle.promql_syntax.specs.PartBuilding.{braces_value, duration_value, modifier_value, moment_value, number_value, shift_value, string_value, time_value}
use Rattle.promql_syntax.specs.Atoms.{any_braces_value}
use Rattle.promql_syntax.proofs.readback.Canonical.{AllKept, Canon, Keeps, canon_at, canon_mode, canon_offset, core, some_height, whole}
use Rattle.promql_syntax.proofs.readback.CanonicalNodes.{all_more, all_none, keeps_aggregate, keeps_binary, keeps_call, keeps_minus, keeps_named, keeps_nameless, keeps_number, keeps_paren, keeps_plus, keeps_range, keeps_string, keeps_subquery, nanos_above, selector_passes, selects}
use Rattle.promql_syntax.proofs.readback.CheckedAgain.{Aggregates, aggregate_again, aggregates, call_again, is_aggregated, same_tree, subquery_again, unary_again}
use Rattle.promql_syntax.proofs.printed.PrintedMatcherLists.{any_braces_are, braces_are}
use Rattle.promql_syntax.proofs.printed.PrintedModifiers.{binary_checked, modifier_is}
use Rattle.promql_syntax.proofs.printed.PrintedTimes.{bound_is, moment_is, shift_is}
use Rattle.promql_syntax.proofs.printed.PrintedTimesAndLabels.{nanos_number, number_is, step_is, time_is}
use Rattle.promql_syntax.proofs.building.SingleAnswers.{checks_pass, giving_steps, known_steps, passing_passes, same_ok}
use Rattle.promql_syntax.specs.PartWords.{build_call, build_unary, clause_value, step_value}

module _ (g : Text → Answer) where
  -- ---- postfixes

  canon_range : (d : Derivation) (r : part.Time) (s t : Tree) (n : ℕ) → Canon g d s → time_value r ≡ Ok n → with_range s n ≡ passes t → Canon g (grammar.postfixed d (part.range r)) t
  canon_range d r (vector (selector name cs None None)) t n c is e =
      subst (Canon g (grammar.postfixed d (part.range r))) (same_tree _ _ e) (record { kept = keeps_range g d r name cs n c.kept (time_is r n is); suffixes = (tt, tt) })
  canon_range d r s t n c is e = cc

  canon_postfix : (d : Derivation) (p : part.Postfix) (s t : Tree) → Canon g d s → IsBase d → under g (build_postfix s p) ≡ Ok t → Canon g (grammar.postfixed d p) t
  canon_postfix d (part.range r) s t c b e =
      let n = known_steps g (time_value r) (λ n. from_verdict (with_range s n)) t e in
      canon_range d r s t n.value c n.is (passing_passes g (with_range s n.value) t n.leads)
  canon_postfix d (part.subquery r s) u t c b e =
      let n = known_steps g (time_value r) (λ n. known (step_value s) giving λ m. from_verdict (check_tree (subquery u None None n m))) t e in
      let m = known_steps g (step_value s) (λ m. from_verdict (check_tree (subquery u None None n.value m))) t n.leads in
      let again = subquery_again u n.value m.value t (passing_passes g (check_tree (subquery u None None n.value m.value)) t m.leads) in
      subst (Canon g (grammar.postfixed d (part.subquery r s))) again.is (record {
        kept = keeps_subquery g d r s u n.value m.value (whole g d u c) b (time_is r n.value n.is) (step_is s m.value m.is) again.again;
        suffixes = (tt, tt);
      })
  canon_postfix d (part.at_number s text) u t c b e =
      let m = known_steps g (moment_value s text) (λ m. from_verdict (at_given u m)) t e in
      canon_at g d (grammar.postfixed d (part.at_number s text)) m.value u t c (moment_is s text m.value m.is) (omega arith) (passing_passes g (at_given u m.value) t m.leads)
  canon_postfix d (part.at_bound k text) u t c b e =
      canon_at g d (grammar.postfixed d (part.at_bound k text)) (bound_moment k) u t c (bound_is k) (omega arith) (passing_passes g (at_given u (bound_moment k)) t e)
  canon_postfix d (part.offset text s r) u t c b e =
      let x = known_steps g (shift_value s r) (λ x. from_verdict (offset_given u x)) t e in
      canon_offset g d (grammar.postfixed d (part.offset text s r)) x.value u t c (shift_is s r x.value x.is) (omega arith) (passing_passes g (offset_given u x.value) t x.leads)
  canon_postfix d (part.mode k text) u t c b e =
      canon_mode g d (grammar.postfixed d (part.mode k text)) (range_mode k) u t c (omega arith) (passing_passes g (mode_given u (range_mode k)) t e)

  -- ---- unary operators

  canon_unary : (op : ℕ) (text : Text) (d : Derivation) (s u t : Tree) → Canon g d s → FitsUnary d → minus s ≡ passes (unary s) → minus s ≡ passes u → check_tree u ≡ passes t → Canon g (grammar.unary op text d) t
  canon_unary op text d s u t c fits e made h =
      let same : unary s ≡ u = same_tree _ _ (sym e ∙ made) in
      let again = unary_again s t (ap check_tree same ∙ h) in
      subst (Canon g (grammar.unary op text d)) again.is (record { kept = keeps_minus g op text d s (whole g d s c) fits e again.again; suffixes = tt })

  canon_minus : (op : ℕ) (text : Text) (d : Derivation) (s u t : Tree) → Canon g d s → FitsUnary d → minus s ≡ passes u → check_tree u ≡ passes t → Canon g (grammar.unary op text d) t
  canon_minus op text d (number n) u t c fits made h =
      let same : number (neg n) ≡ u = same_tree _ _ made in
      let last : number (neg n) ≡ t = same_tree _ _ (ap check_tree same ∙ h) in
      subst (Canon g (grammar.unary op text d)) last (record {
        kept = keeps_number g (grammar.unary op text d) (neg n) (negated_in_form n c.kept.printable) (λ _. (omega (arith, some_height d), omega arith, λ x. x));
        suffixes = tt;
      })
  canon_minus op text d (string s) u t c fits made h = cc
  canon_minus op text d (matrix s range mode) u t c fits made h = cc
  canon_minus op text d s u t c fits made h = canon_unary op text d s u t c fits refl made h

  canon_sign : (op : ℕ) (text : Text) (d : Derivation) (s t : Tree) (b : Bool) → Canon g d s → FitsUnary d → under g (cond b (from_checked_verdict (minus s)) (gives s)) ≡ Ok t → Canon g (grammar.unary op text d) t
  canon_sign op text d s t true c fits e =
      let made = checks_pass g (minus s) t e in
      canon_minus op text d s made.tree t c fits made.made made.passes
  canon_sign op text d s t false c fits e =
      subst (Canon g (grammar.unary op text d)) (same_ok _ _ _ _ refl refl e) (record { kept = keeps_plus g op text d (core g s) c.kept fits; suffixes = c.suffixes })

  -- ---- calls and aggregations

  canon_called : (k : TokenKind) (text : Text) (ds : Arguments) (ts : Trees) (t : Tree) (o : Option Signature) → AllKept g ds ts → may_be_called k ≡ true → IsName k text → function_named text ≡ o → under g (build_call text o ts) ≡ Ok t → Canon g (grammar.call k text ds) t
  canon_called k text ds ts t None c may is found e = cc
  canon_called k text ds ts t (Some f) c may is found e =
      let again = call_again f ts t (passing_passes g (check_tree (call f ts)) t e) in
      subst (Canon g (grammar.call k text ds)) again.is (record { kept = keeps_call g k text ds f ts c may is found again.again; suffixes = tt })

  canon_aggregated : (op : ℕ) (text : Text) (k : part.Clause) (ds : Arguments) (m : Option Clause) (ts : Trees) (u t : Tree) → AllKept g ds ts → Aggregates op m ts u → check_tree u ≡ passes t → Canon g (grammar.aggregate op text k ds) t
  canon_aggregated op text k ds m ts u t c a h =
      let again = aggregate_again op a.tree a.param m (normal_clause m) t (ap check_tree (sym a.is) ∙ h) in
      let made = λ (n : Option Clause). subst (λ xs. aggregate_args op n (Rattle.promql_ast.specs.Normal.all_normal xs) ≡ passes (aggregate op (normal a.tree) (maybe_normal a.param) n)) a.all (a.again n) in
      subst (Canon g (grammar.aggregate op text k ds)) again.is (record { kept = keeps_aggregate g op text k ds m a.tree a.param (is_aggregated op a.tree a.param m t (ap check_tree (sym a.is) ∙ h)) (subst (AllKept g ds) a.all c) made again.again; suffixes = tt })

  -- ---- any derivation

  keeps_selector : (d : Derivation) (name : Option Text) (cs : Rattle.promql_label.specs.PlainMatchers.PlainMatchers) (t : Tree) → Keeps g d (vector (selector name cs None None)) → vector (selector name cs None None) ≡ t → Canon g d t
  keeps_selector d name cs t c e = subst (Canon g d) e (record { kept = c; suffixes = (tt, tt) })

  mutual
    pub canon : (d : Derivation) (t : Tree) → IsWellFormed d → HasWords d → under g (build d) ≡ Ok t → Canon g d t
    canon (grammar.number text) t h w e =
        let n = known_steps g (number_value text) (λ n. gives (number n)) t e in
        let is = number_is text n.value n.is in
        let plus : is_below_zero n.value ≡ false = subst IsUnsigned is.0 w in
        subst (Canon g (grammar.number text)) (same_ok _ _ _ _ refl refl n.leads) (record { kept = keeps_number g (grammar.number text) n.value is.1 (λ minus. cc); suffixes = tt })
    canon (grammar.duration text) t h w e =
        let n = known_steps g (duration_value text) (λ n. gives (number (from_nanos n))) t e in
        let is = time_is (part.duration text) n.value n.is in
        let plus = nanos_above n.value in
        subst (Canon g (grammar.duration text)) (same_ok _ _ _ _ refl refl n.leads) (record { kept = keeps_number g (grammar.duration text) (from_nanos n.value) (nanos_number n.value is) (λ minus. cc); suffixes = tt })
    canon (grammar.string text) t h w e =
        let s = known_steps g (string_value text) (λ s. gives (string s)) t e in
        subst (Canon g (grammar.string text)) (same_ok _ _ _ _ refl refl s.leads) (record { kept = keeps_string g (grammar.string text) s.value; suffixes = tt })
    canon (grammar.selector k text b) t h w e =
        let cs = giving_steps g (any_braces_value b) (λ cs. selector_tree (Some text) cs) t e in
        let passed = selector_passes g (Some text) cs.value t (passing_passes g _ t cs.leads) in
        keeps_selector (grammar.selector k text b) (Some text) cs.value t
        (keeps_named g (grammar.selector k text b) text cs.value w.letters (subst (λ x. may_be_name x ≡ true) w.kind h) (any_braces_are g b cs.value cs.is) passed.0) passed.1
    canon (grammar.nameless b) t h w e =
        let cs = giving_steps g (braces_value b) (λ cs. selector_tree None cs) t e in
        let passed = selector_passes g None cs.value t (passing_passes g _ t cs.leads) in
        keeps_selector (grammar.nameless b) None cs.value t
        (keeps_nameless g (grammar.nameless b) cs.value (selects g cs.value (braces_are g b cs.value cs.is) passed.0) passed.0) passed.1
    canon (grammar.paren d) t h w e =
        let s = giving_steps g (build d) (λ s. gives (paren s)) t e in
        subst (Canon g (grammar.paren d)) (same_ok _ _ _ _ refl refl s.leads) (record { kept = keeps_paren g d s.value (whole g d s.value (canon d s.value h w s.is)); suffixes = tt })
    canon (grammar.call k text ds) t h w e =
        let ts = giving_steps g (build_all ds) (λ ts. build_call text (function_named text) ts) t e in
        canon_called k text ds ts.value t (function_named text) (canon_all ds ts.value h.1 w.1 ts.is) h.0 w.0 refl ts.leads
    canon (grammar.aggregate op text c ds) t h w e =
        let ts = giving_steps g (build_all ds) (λ ts. known (clause_value c) giving λ m. from_checked_verdict (aggregate_args op m ts)) t e in
        let m = known_steps g (clause_value c) (λ m. from_checked_verdict (aggregate_args op m ts.value)) t ts.leads in
        let made = checks_pass g (aggregate_args op m.value ts.value) t m.leads in
        canon_aggregated op text c ds m.value ts.value made.tree t (canon_all ds ts.value h.1 w ts.is) (aggregates op m.value ts.value made.tree made.made) made.passes
    canon (grammar.postfixed d p) t h w e =
        let s = giving_steps g (build d) (λ s. build_postfix s p) t e in
        canon_postfix d p s.value t (canon d s.value h.0 w s.is) h.1 s.leads
    canon (grammar.unary op text d) t h w e =
        let s = giving_steps g (build d) (λ s. build_unary op s) t e in
        canon_sign op text d s.value t (op == T_SUB) (canon d s.value h.1 w s.is) h.2 s.leads
    canon (grammar.binary op text m l r) t h w e =
        let x = giving_steps g (build l) (λ x. build r giving λ y. known (modifier_value m) giving λ z. from_verdict (check_tree (binary op x y z))) t e in
        let y = giving_steps g (build r) (λ y. known (modifier_value m) giving λ z. from_verdict (check_tree (binary op x.value y z))) t x.leads in
        let z = known_steps g (modifier_value m) (λ z. from_verdict (check_tree (binary op x.value y.value z))) t y.leads in
        let c = binary_checked op x.value y.value z.value t (passing_passes g (checked_binary op x.value y.value z.value) t z.leads) in
        let is = modifier_is m z.value z.is in
        subst (Canon g (grammar.binary op text m l r)) c.is (record {
          kept = keeps_binary g op text m l r x.value y.value z.value t (whole g l x.value (canon l x.value h.0 w.0 x.is)) (whole g r y.value (canon r y.value h.1 w.1 y.is)) h w.2 is.0 is.1 c;
          suffixes = tt;
        })

    pub canon_all : (ds : Arguments) (ts : Trees) → AreWellFormed ds → AllHaveWords ds → under g (build_all ds) ≡ Ok ts → AllKept g ds ts
    canon_all grammar.none ts h w e = subst (AllKept g grammar.none) (same_ok _ _ _ _ refl refl e) (all_none g)
    canon_all (grammar.more d ds) ts h w e =
        let s = giving_steps g (build d) (λ s. build_all ds giving λ ss. gives (first_tree s ss)) ts e in
        let ss = giving_steps g (build_all ds) (λ ss. gives (first_tree s.value ss)) ts s.leads in
        subst (AllKept g (grammar.more d ds)) (same_ok _ _ _ _ refl refl ss.leads)
        (all_more g d ds s.value ss.value (whole g d s.value (canon d s.value h.0 w.0 s.is)) (canon_all ds ss.value h.1 w.1 ss.is))

  -- the derivation of the tree's text, and what it keeps of the derivation
  pub keeps : (d : Derivation) (t : Tree) → IsWellFormed d → HasWords d → under g (build d) ≡ Ok t → Keeps g d t
  keeps d t h w e = whole g d t (canon d t h w e)
