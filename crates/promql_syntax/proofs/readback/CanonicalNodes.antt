-- Each node of a tree that is built is kept by the derivation of its text.
use Rattle.std.proofs.Common.{◌≡◌, ℕ, ◌≤◌, refl, sym, ◌∙◌, ap, subst, arith, Bool, true, false, cond, not, ◌/◌, ◌^◌, Option, Some, None, [], ◌∷◌, codes}
use Rattle.std.specs.Prelude.{Ok, ◌==◌, option_map}
use Rattle.promql_text.specs.NumberText.{number_text}
use Rattle.promql_text.specs.Numbers.{exact_zero, exact_quotient, tens}
use Rattle.promql_text.specs.Quoting.{quoted_text}
use Rattle.promql_text.specs.Texts.{Text}
use Rattle.promql_text.specs.Values.{IsNumber, from_nanos, is_below_zero, neg}
use Rattle.promql_text.specs.declared.number.Number.{Number}
use Rattle.promql_text.specs.declared.number.Number.TheVariants.{Finite}
use Rattle.promql_text.proofs.numbers.OneForm.{negated_in_form}
use Rattle.promql_text.proofs.numbers.ReadsBack.{reads_back}
use Rattle.promql_token.specs.Ids.{is_aggregator, keyword_in_any_case}
use Rattle.promql_token.specs.Laws.{is_word}
use Rattle.promql_token.specs.declared.ids.TheConstants.{T_SUB}
use Rattle.promql_grammar.specs.declared.token_kinds.TokenKind.{TokenKind}
use Rattle.promql_grammar.specs.declared.token_kinds.TokenKind.TheVariants as kind
use Rattle.promql_grammar.specs.Grammar as grammar
use Rattle.promql_grammar.specs.Grammar.{Derivation, Arguments, IsWellFormed, IsBase, FitsUnary, height, openness, yield}
use Rattle.promql_grammar.specs.GrammarParts as part
use Rattle.promql_grammar.specs.Parsing.{right_precedence}
use Rattle.promql_grammar.specs.Symbols.{token_kind, may_be_called, may_be_name}
use Rattle.promql_grammar.proofs.Precedences.{Root, root_base, root_right, root_sign, right_root, sign_root}
use Rattle.promql_label.specs.Answers.{Answer}
use Rattle.promql_label.specs.PlainMatchers.{PlainMatchers, plain_matchers}
use Rattle.promql_kind.specs.Functions.{Signature, function_named, name_of}
use Rattle.promql_kind.proofs.NamedFunctions.{each_named, named_so}
use Rattle.promql_kind.specs.Modifiers.{Clause, Matching}
use Rattle.promql_ast.specs.Builds.{aggregate_args, minus}
use Rattle.promql_ast.specs.Checked.{check_tree}
use Rattle.promql_ast.specs.Checks.{unless}
use Rattle.promql_ast.specs.Faults as build_errors
use Rattle.promql_ast.specs.Faults.{Verdict, passes}
use Rattle.promql_ast.specs.Normal.{normal, all_normal, maybe_normal, normal_clause, normal_matchers}
use Rattle.promql_ast.specs.Selectors.{selector}
use Rattle.promql_ast.specs.Tree.{Tree, aggregate, unary, binary, paren, subquery, number, string, vector, matrix, call, MaybeTree, absent, present, Trees, no_trees, first_tree}
use Rattle.promql_ast.specs.check.BinaryChecks.{checked_binary, settle_matching}
use Rattle.promql_ast.specs.check.VectorChecks.{name_fault}
use Rattle.promql_ast.specs.declared.range_mode.RangeMode.TheVariants.{Plain}
use Rattle.promql_syntax.specs.Asking.{under}
use Rattle.promql_syntax.specs.Building.{build, build_all, selector_tree}
use Rattle.promql_syntax.proofs.readback.Derive.{derive, derive_all, derive_base, HasWords, IsName, IsUnsigned}
use Rattle.promql_syntax.specs.PartBuilding.{braces_value, modifier_value, number_value, string_value, time_value}
use Rattle.promql_syntax.specs.Atoms.{any_braces_value}
use Rattle.promql_syntax.proofs.printed.PrintedParts.{braces, clause, modifier, time, word_kind}
use Rattle.promql_syntax.proofs.readback.Canonical.{Keeps, AllKept, base_is, open_base, open_most, right_low, root_weaker, some_height}
use Rattle.promql_syntax.proofs.readback.CheckedAgain.{arguments, minus_normal, same_tree, type_normal}
use Rattle.promql_syntax.proofs.parsing.Booleans.{not_true}
use Rattle.promql_syntax.proofs.lexed.LexedWords.{is_fill_word}
use Rattle.promql_syntax.proofs.readback.Printable.{IsSelecting}
use Rattle.promql_syntax.proofs.printed.PrintedMatcherLists.{AreAnyMatchers, AreMatchers, any_matchers, braces_again, named_again}
use Rattle.promql_syntax.proofs.printed.PrintedModifiers.{PassesChecks, IsMatched, IsWritten, checked_again, fits_printed, modifier_again, modifier_formed, read_alike, normal_modifier, settled_matched, settles, set_has_no_group}
use Rattle.promql_syntax.proofs.printed.PrintedTimesAndLabels.{IsStep, IsTime, below_zero, number_again, step_again, string_again, time_again}
use Rattle.promql_syntax.proofs.printed.PrintedWords.{clause_again, clause_formed}
use Rattle.promql_syntax.proofs.building.SingleAnswers.{giving_leads, known_leads, pass_checks, passes_passing}
use Rattle.promql_syntax.specs.PartWords.{build_call, clause_value, step_value}

-- ---- numbers

pub nanos_above : (n : ℕ) → is_below_zero (from_nanos n) ≡ false
nanos_above n = go (n == 0) (tens 29 n)
  where
    go : (b : Bool) (z : ℕ) → is_below_zero (Finite (cond b exact_zero (exact_quotient false (n / 10 ^ z) z 9))) ≡ false
    go true z = refl
    go false z = refl

-- ---- functions

-- no function of the table is named by a fill word
no_fill : (name : Text) (f : Signature) → function_named name ≡ Some f → is_fill_word (name_of f) ≡ false
unfolding keyword_in_any_case
no_fill name f e = not_true _ (each_named (λ f. not (is_fill_word (name_of f))) refl name f e)

module _ (g : Text → Answer) where
  -- a number below zero is the tree of a minus alone
  pub keeps_number : (d : Derivation) (n : Number) → IsNumber n → (is_below_zero n ≡ true → (2 ≤ height d) × (openness d ≤ 5) × (IsBase d → ⊥)) → Keeps g d (number n)
  keeps_number d n is signed = record {
    formed = formed (is_below_zero n);
    wide = wide (is_below_zero n) refl;
    low = low (is_below_zero n) refl;
    root = λ m e h. root m (is_below_zero n);
    base = λ h. base (is_below_zero n) refl h;
    words = words (is_below_zero n) refl;
    printable = is;
    again = again (is_below_zero n) refl;
  }
    where
      by : Bool → Derivation
      by b = cond b (grammar.unary T_SUB (codes "-") (grammar.number (number_text (neg n)))) (grammar.number (number_text n))

      formed : (b : Bool) → IsWellFormed (by b)
      formed true = (refl, tt, tt)
      formed false = tt

      wide : (b : Bool) → is_below_zero n ≡ b → openness d ≤ openness (by b)
      wide true e = omega (arith, (signed e).1)
      wide false e = omega (arith, open_most d)

      low : (b : Bool) → is_below_zero n ≡ b → height (by b) ≤ height d
      low true e = omega (arith, (signed e).0)
      low false e = omega (arith, some_height d)

      root : (m : ℕ) (b : Bool) → Root m (by b)
      root m true = tt
      root m false = tt

      base : (b : Bool) → is_below_zero n ≡ b → IsBase d → IsBase (by b)
      base true e h = absurd ((signed e).2 h)
      base false e h = tt

      words : (b : Bool) → is_below_zero n ≡ b → HasWords (by b)
      words true e = subst IsUnsigned (sym (reads_back (neg n) (negated_in_form n is))) (below_zero n is e).1
      words false e = subst IsUnsigned (sym (reads_back n is)) e

      again : (b : Bool) → is_below_zero n ≡ b → under g (build (by b)) ≡ Ok (number n)
      again true e =
          giving_leads g (build (grammar.number (number_text (neg n)))) _ (number (neg n)) _
          (known_leads g (number_value (number_text (neg n))) _ (neg n) _ (number_again (neg n) (negated_in_form n is)) refl)
          (ap (λ m. Ok (number m)) (below_zero n is e).0)
      again false e = known_leads g (number_value (number_text n)) _ n _ (number_again n is) refl

  pub keeps_string : (d : Derivation) (s : Text) → Keeps g d (string s)
  keeps_string d s = record {
    formed = tt;
    wide = omega (arith, open_most d);
    low = omega (arith, some_height d);
    root = λ m e h. tt;
    base = λ h. tt;
    words = tt;
    printable = tt;
    again = known_leads g (string_value (quoted_text s)) _ s _ (string_again s) refl;
  }

  -- ---- selectors

  named_selects : (cs : PlainMatchers) → AreAnyMatchers g cs → name_fault None cs ≡ None → AreMatchers g cs
  named_selects (plain_matchers [] []) h e = cc
  named_selects (plain_matchers (c ∷ cs) []) h e = h
  named_selects (plain_matchers [] (j ∷ [])) h e = absurd h
  named_selects (plain_matchers [] (i ∷ j ∷ gs)) h e = h
  named_selects (plain_matchers (c ∷ cs) (j ∷ gs)) h e = absurd h

  pub selects : (cs : PlainMatchers) → AreAnyMatchers g cs → name_fault None cs ≡ None → IsSelecting g None cs
  selects cs h e = named_selects cs h e

  unless_passes : (f : Option build_errors.Fault) (v : Verdict) (u : Tree) → unless f v ≡ passes u → (f ≡ None) × (v ≡ passes u)
  unless_passes (Some f) v u e = cc
  unless_passes None v u e = (refl, e)

  pub selector_passes : (name : Option Text) (cs : PlainMatchers) (t : Tree) → check_tree (vector (selector name cs None None)) ≡ passes t → (name_fault name cs ≡ None) × (vector (selector name cs None None) ≡ t)
  selector_passes name cs t e =
      let both = unless_passes (name_fault name cs) (passes (vector (selector name cs None None))) t e in
      (both.0, same_tree _ _ both.1)

  selector_again : (name : Option Text) (cs : PlainMatchers) → name_fault name cs ≡ None → under g (selector_tree name (normal_matchers cs)) ≡ Ok (vector (selector name (normal_matchers cs) None None))
  selector_again name cs e = passes_passing g (check_tree (vector (selector name (normal_matchers cs) None None))) _ (ap (λ f. unless f (passes (vector (selector name (normal_matchers cs) None None)))) (named_again name cs e))

  pub keeps_named : (d : Derivation) (name : Text) (cs : PlainMatchers) → is_word name ≡ true → may_be_name (word_kind name) ≡ true → AreAnyMatchers g cs → name_fault (Some name) cs ≡ None → Keeps g d (vector (selector (Some name) cs None None))
  keeps_named d name cs letters may h e = record {
    formed = may;
    wide = omega (arith, open_most d);
    low = omega (arith, some_height d);
    root = λ m e h. tt;
    base = λ h. tt;
    words = record { letters = letters; kind = refl };
    printable = ((letters, h), tt, tt);
    again = giving_leads g (any_braces_value (braces cs)) _ (normal_matchers cs) _ (braces_again g cs h) (selector_again (Some name) cs e);
  }

  pub keeps_nameless : (d : Derivation) (cs : PlainMatchers) → AreMatchers g cs → name_fault None cs ≡ None → Keeps g d (vector (selector None cs None None))
  keeps_nameless d cs h e = record {
    formed = formed (braces cs);
    wide = let o = open_base (derive_base None (braces cs)) (base_is g None (braces cs)) in omega (arith, open_most d);
    low = omega (arith, some_height d, flat (braces cs));
    root = λ m le k. root_base m (derive_base None (braces cs)) (base_is g None (braces cs));
    base = λ k. base_is g None (braces cs);
    words = words (braces cs);
    printable = (h, tt, tt);
    again = again (braces cs) (braces_again g cs (any_matchers g cs h));
  }
    where
      formed : (b : Option part.Braces) → IsWellFormed (derive_base None b)
      formed None = tt
      formed (Some b) = tt

      flat : (b : Option part.Braces) → height (derive_base None b) ≡ 1
      flat None = refl
      flat (Some b) = refl

      words : (b : Option part.Braces) → HasWords (derive_base None b)
      words None = tt
      words (Some b) = tt

      again : (b : Option part.Braces) → under g (any_braces_value b) ≡ Ok (normal_matchers cs) → under g (build (derive_base None b)) ≡ Ok (vector (selector None (normal_matchers cs) None None))
      again None k = giving_leads g (braces_value None) (λ x. selector_tree None x) (normal_matchers cs) (Ok (vector (selector None (normal_matchers cs) None None))) k (selector_again None cs e)
      again (Some b) k = giving_leads g (braces_value b) (λ x. selector_tree None x) (normal_matchers cs) (Ok (vector (selector None (normal_matchers cs) None None))) k (selector_again None cs e)

  -- ---- parentheses and unary operators

  pub keeps_paren : (d : Derivation) (t : Tree) → Keeps g d t → Keeps g (grammar.paren d) (paren t)
  keeps_paren d t c = record {
    formed = c.formed;
    wide = omega arith;
    low = omega (arith, c.low);
    root = λ m e h. tt;
    base = λ h. tt;
    words = c.words;
    printable = c.printable;
    again = giving_leads g (build (derive t)) _ (normal t) _ c.again refl;
  }

  pub keeps_plus : (op : ℕ) (text : Text) (d : Derivation) (t : Tree) → Keeps g d t → FitsUnary d → Keeps g (grammar.unary op text d) t
  keeps_plus op text d t c fits = record {
    formed = c.formed;
    wide = omega (arith, c.wide);
    low = omega (arith, c.low);
    root = λ m e k. c.root m e (root_weaker m d e (root_sign d fits));
    base = λ k. absurd k;
    words = c.words;
    printable = c.printable;
    again = c.again;
  }

  pub keeps_minus : (op : ℕ) (text : Text) (d : Derivation) (t : Tree) → Keeps g d t → FitsUnary d → minus t ≡ passes (unary t) → check_tree (unary (normal t)) ≡ passes (unary (normal t)) → Keeps g (grammar.unary op text d) (unary t)
  keeps_minus op text d t c fits e h = record {
    formed = (refl, c.formed, sign_root (derive t) (c.root 6 (omega arith) (root_sign d fits)));
    wide = omega (arith, c.wide);
    low = omega (arith, c.low);
    root = λ m e k. tt;
    base = λ k. absurd k;
    words = c.words;
    printable = c.printable;
    again = giving_leads g (build (derive t)) _ (normal t) _ c.again (pass_checks g (minus (normal t)) (unary (normal t)) (unary (normal t)) (minus_normal t e) h);
  }

  -- ---- binary expressions

  pub keeps_binary : (op : ℕ) (text : Text) (w : part.Modifier) (a b : Derivation) (l r : Tree) (m : Option Matching) (t : Tree)
      → Keeps g a l → Keeps g b r → IsWellFormed (grammar.binary op text w a b) → token_kind op ≡ kind.Operator op → IsMatched m → IsWritten m → PassesChecks op l r m t → Keeps g (grammar.binary op text w a b) (binary op l r (settle_matching op m))
  keeps_binary op text w a b l r m t ca cb h known matched written c = record {
    formed = (ca.formed, cb.formed, modifier_formed (settle_matching op m), omega (arith, h.3, ca.wide), right_root op (derive r) (cb.root (right_precedence op) (right_low op) (root_right op b h.4)), fits_printed (settle_matching op m) (yield (derive r)));
    wide = omega (arith, cb.wide);
    low = omega (arith, ca.low, cb.low);
    root = λ m e h. h;
    base = λ h. h;
    words = (ca.words, cb.words, known);
    printable = (settled_matched op m matched, ca.printable, cb.printable, known);
    again =
        giving_leads g (build (derive l)) _ (normal l) _ ca.again
        (giving_leads g (build (derive r)) _ (normal r) _ cb.again
        (known_leads g (modifier_value (modifier (settle_matching op m))) _ (normal_modifier (settle_matching op m)) _ (modifier_again (settle_matching op m) (settled_matched op m matched))
        (passes_passing g (checked_binary op (normal l) (normal r) (normal_modifier (settle_matching op m))) _
        (checked_again op l r (normal l) (normal r) m (normal_modifier (settle_matching op m)) t (type_normal l) (type_normal r) (read_alike op m) c
        ∙ ap (λ x. passes (binary op (normal l) (normal r) x)) (settles op m written (set_has_no_group op l r m t c))))));
  }

  -- ---- ranges and subqueries

  pub keeps_range : (d : Derivation) (t : part.Time) (name : Option Text) (cs : PlainMatchers) (n : ℕ) → Keeps g d (vector (selector name cs None None)) → IsTime n → Keeps g (grammar.postfixed d (part.range t)) (matrix (selector name cs None None) n Plain)
  keeps_range d t name cs n c is = record {
    formed = (c.formed, base_is g name (braces cs));
    wide = omega arith;
    low = omega (arith, c.low);
    root = λ m e h. tt;
    base = λ h. tt;
    words = c.words;
    printable = (c.printable, is);
    again = giving_leads g (build (derive_base name (braces cs))) _ (vector (selector name (normal_matchers cs) None None)) _ c.again (known_leads g (time_value (time n)) _ n _ (time_again n is) refl);
  }

  pub keeps_subquery : (d : Derivation) (r : part.Time) (s : Option part.Time) (t : Tree) (n : ℕ) (m : Option ℕ) → Keeps g d t → IsBase d → IsTime n → IsStep m
      → check_tree (subquery (normal t) None None n m) ≡ passes (subquery (normal t) None None n m) → Keeps g (grammar.postfixed d (part.subquery r s)) (subquery t None None n m)
  keeps_subquery d r s t n m c b is step h = record {
    formed = (c.formed, c.base b);
    wide = omega arith;
    low = omega (arith, c.low);
    root = λ m e h. tt;
    base = λ h. tt;
    words = c.words;
    printable = (c.printable, is, step, tt, tt);
    again =
        giving_leads g (build (derive t)) _ (normal t) _ c.again
        (known_leads g (time_value (time n)) _ n _ (time_again n is)
        (known_leads g (step_value (option_map time m)) _ m _ (step_again m step)
        (passes_passing g (check_tree (subquery (normal t) None None n m)) _ h)));
  }

  -- ---- calls and aggregations

  pub keeps_call : (k : TokenKind) (text : Text) (ds : Arguments) (f : Signature) (ts : Trees) → AllKept g ds ts → may_be_called k ≡ true → IsName k text → function_named text ≡ Some f
      → check_tree (call f (all_normal ts)) ≡ passes (call f (all_normal ts)) → Keeps g (grammar.call k text ds) (call f ts)
  keeps_call k text ds f ts c may is e h =
      let name = named_so text f e in
      record {
        formed = (subst (λ x. may_be_called (word_kind x) ≡ true) (sym name) (subst (λ x. may_be_called x ≡ true) is.kind may), c.formed);
        wide = omega arith;
        low = omega (arith, c.low);
        root = λ m e h. tt;
        base = λ h. tt;
        words = (record { letters = subst (λ x. is_word x ≡ true) (sym name) is.letters; kind = refl }, c.words);
        printable = (subst (λ x. is_word x ≡ true) (sym name) is.letters, c.printable, no_fill text f e);
        again =
            giving_leads g (build_all (derive_all ts)) _ (all_normal ts) _ c.again
            (ap (λ o. under g (build_call (name_of f) o (all_normal ts))) (ap function_named name ∙ e)
            ∙ passes_passing g (check_tree (call f (all_normal ts))) _ h);
      }

  pub keeps_aggregate : (op : ℕ) (text : Text) (k : part.Clause) (ds : Arguments) (m : Option Clause) (e : Tree) (p : MaybeTree) → is_aggregator op ≡ true → AllKept g ds (arguments p e)
      → ((n : Option Clause) → aggregate_args op n (all_normal (arguments p e)) ≡ passes (aggregate op (normal e) (maybe_normal p) n))
      → check_tree (aggregate op (normal e) (maybe_normal p) (normal_clause m)) ≡ passes (aggregate op (normal e) (maybe_normal p) (normal_clause m))
      → Keeps g (grammar.aggregate op text k ds) (aggregate op e p m)
  keeps_aggregate op text k ds m e absent is c made h = record {
    formed = (clause_formed m, c.formed);
    wide = omega arith;
    low = omega (arith, c.low);
    root = λ m e h. tt;
    base = λ h. tt;
    words = c.words;
    printable = (is, c.printable.0, tt);
    again =
        giving_leads g (build_all (derive_all (arguments absent e))) _ (all_normal (arguments absent e)) _ c.again
        (known_leads g (clause_value (clause m)) _ (normal_clause m) _ (clause_again m)
        (pass_checks g (aggregate_args op (normal_clause m) (all_normal (arguments absent e))) _ _ (made (normal_clause m)) h));
  }
  keeps_aggregate op text k ds m e (present p) is c made h = record {
    formed = (clause_formed m, c.formed);
    wide = omega arith;
    low = omega (arith, c.low);
    root = λ m e h. tt;
    base = λ h. tt;
    words = c.words;
    printable = (is, c.printable.1.0, c.printable.0);
    again =
        giving_leads g (build_all (derive_all (arguments (present p) e))) _ (all_normal (arguments (present p) e)) _ c.again
        (known_leads g (clause_value (clause m)) _ (normal_clause m) _ (clause_again m)
        (pass_checks g (aggregate_args op (normal_clause m) (all_normal (arguments (present p) e))) _ _ (made (normal_clause m)) h));
  }

  pub all_none : AllKept g grammar.none no_trees
  all_none = record { formed = tt; low = omega arith; words = tt; printable = tt; again = refl }

  pub all_more : (d : Derivation) (ds : Arguments) (t : Tree) (ts : Trees) → Keeps g d t → AllKept g ds ts → AllKept g (grammar.more d ds) (first_tree t ts)
  all_more d ds t ts c cs = record {
    formed = (c.formed, cs.formed);
    low = omega (arith, c.low, cs.low);
    words = (c.words, cs.words);
    printable = (c.printable, cs.printable);
    again = giving_leads g (build (derive t)) _ (normal t) _ c.again (giving_leads g (build_all (derive_all ts)) _ (all_normal ts) _ cs.again refl);
  }
