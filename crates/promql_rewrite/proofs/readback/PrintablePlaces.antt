-- A printable tree is kept by a derivation that stands where the tree stands, node by node.
use Rattle.std.proofs.Common.{◌+◌, ◌≡◌, ℕ, ◌≤◌, ◌⊎◌, refl, sym, subst, arith, Bool, true, false, cond, Option, Some, None, []}
use Rattle.promql_text.specs.Texts.{Text}
use Rattle.promql_text.specs.Values.{IsNumber, is_below_zero}
use Rattle.promql_text.specs.declared.number.Number.{Number}
use Rattle.promql_token.specs.Ids.{is_aggregator_with_param}
use Rattle.promql_token.specs.declared.ids.TheConstants.{T_SUB}
use Rattle.promql_grammar.specs.Grammar as grammar
use Rattle.promql_grammar.specs.Grammar.{Derivation, Arguments, FitsLeft, FitsRight, FitsUnary, IsBase, IsWellFormed, AreWellFormed}
use Rattle.promql_grammar.specs.GrammarParts as part
use Rattle.promql_grammar.specs.Symbols.{token_kind}
use Rattle.promql_grammar.specs.declared.token_kinds.TokenKind.TheVariants as kind
use Rattle.promql_label.specs.Answers.{Answer}
use Rattle.promql_label.specs.PlainMatchers.{PlainMatchers}
use Rattle.promql_kind.specs.Functions.{Signature, function_named, name_of}
use Rattle.promql_kind.specs.Modifiers.{Clause, Matching}
use Rattle.promql_ast.specs.Builds.{aggregate_args, aggregated_alone, aggregated_with}
use Rattle.promql_ast.specs.Faults.{passes}
use Rattle.promql_ast.specs.Normal.{normal, all_normal, maybe_normal, normal_clause}
use Rattle.promql_ast.specs.Selectors.{Selector, selector}
use Rattle.promql_ast.specs.Shifts.{Shift, Moment}
use Rattle.promql_ast.specs.Tree.{Tree, aggregate, unary, binary, paren, subquery, number, string, vector, matrix, call, extension, MaybeTree, absent, present, Trees, no_trees, first_tree}
use Rattle.promql_ast.specs.Typed.{AllTyped, HasName, MaybeTyped, Typed, TypedAggregate, TypedBinary, TypedSelector, TypedSignature}
use Rattle.promql_ast.specs.Types.{type_of}
use Rattle.promql_ast.specs.check.AggregateChecks.{maybe_type}
use Rattle.promql_ast.specs.check.BinaryChecks.{settle_matching}
use Rattle.promql_ast.specs.declared.range_mode.RangeMode.{RangeMode}
use Rattle.promql_kind.specs.declared.value.ValueType.TheVariants.{Vector, Scalar}
use Rattle.promql_syntax.proofs.readback.Canonical.{AllKept, Canon, Keeps, open_base, whole}
use Rattle.promql_syntax.proofs.readback.CanonicalNodes.{all_more, all_none, keeps_aggregate, keeps_binary, keeps_call, keeps_minus, keeps_named, keeps_nameless, keeps_number, keeps_paren, keeps_range, keeps_string, keeps_subquery, selects}
use Rattle.promql_syntax.proofs.readback.CheckedAgain.{aggregate_again, arguments, call_again, subquery_again, unary_again}
use Rattle.promql_syntax.proofs.printed.PrintedModifiers.{binary_checked, checked_again}
use Rattle.promql_syntax.proofs.printed.PrintedParts.{word_kind}
use Rattle.promql_rewrite.specs.PrintableConditions.{IsNegated, IsRightSide, PrintableAt, PrintableName, PrintableOffset, PrintableTime, openness}
use Rattle.promql_rewrite.specs.PrintableNodes.{AllPrintableNodes, IsSubqueried, MaybePrintableNodes, PrintableMatchers, PrintableModifier, PrintableNodes, PrintableSelector, PrintableStep, has_param}
use Rattle.promql_rewrite.specs.PrintableTrees.{all_printed_height, printed_height}
use Rattle.promql_rewrite.proofs.readback.PrintableParts.{are_matchers, function_called, function_letters, is_at, is_offset, is_step, is_time, is_written, name_kind, written, written_alike, written_matched, written_settles}
use Rattle.promql_rewrite.proofs.well_typed.TypedChecks.{aggregate_passes, binary_passes, call_passes, minus_passes, name_passes, subquery_passes, unary_passes}

-- ---- bases

right_base : (op : ℕ) (d : Derivation) → IsBase d → FitsRight op d
right_base op (grammar.binary inner text m l r) h = absurd h
right_base op d h = tt

unary_base : (d : Derivation) → IsBase d → FitsUnary d
unary_base (grammar.binary op text m l r) h = absurd h
unary_base d h = tt

open_most : (t : Tree) → openness t ≤ 7
open_most (unary e) = omega arith
open_most (binary op l r m) = omega (arith, open_most r)
open_most (number n) = go (is_below_zero n)
  where
    go : (b : Bool) → cond b 5 7 ≤ 7
    go true = omega arith
    go false = omega arith
open_most t = omega arith

-- ---- places

-- derivations for the parts that print as one token, and for modifiers that print nothing
abbrev leaf : Derivation
leaf = grammar.string []

abbrev some_time : part.Time
some_time = part.seconds []

abbrev no_modifier : part.Modifier
no_modifier = (None, None, part.no_fill)

module _ (g : Text → Answer) where
  -- a derivation that keeps the tree, is no higher than the printed tree, and fits where the tree fits
  pub record Placed (t : Tree) : Type 0 where
    pub derivation : Derivation
    pub formed : IsWellFormed derivation
    pub keeps : Keeps g derivation t
    pub low : grammar.height derivation ≤ printed_height t
    pub wide : openness t ≤ grammar.openness derivation
    pub right : (op : ℕ) → IsRightSide op t → FitsRight op derivation
    pub negated : IsNegated t → FitsUnary derivation
    pub base : IsSubqueried t → IsBase derivation

  abbrev MaybePlaced : MaybeTree → Type 0
  MaybePlaced absent = Unit {0}
  MaybePlaced (present e) = Placed e

  record AllPlaced (ts : Trees) : Type 0 where
    derivations : Arguments
    formed : AreWellFormed derivations
    keeps : AllKept g derivations ts
    low : grammar.greatest_height derivations ≤ all_printed_height ts

  none_placed : AllPlaced no_trees
  none_placed = record { derivations = grammar.none; formed = tt; keeps = all_none g; low = omega arith }

  more_placed : (t : Tree) (ts : Trees) → Placed t → AllPlaced ts → AllPlaced (first_tree t ts)
  more_placed t ts p ps = record {
    derivations = grammar.more p.derivation ps.derivations;
    formed = (p.formed, ps.formed);
    keeps = all_more g p.derivation ps.derivations t ts p.keeps ps.keeps;
    low = omega (arith, p.low, ps.low);
  }

  -- a tree that no operator or sign outside opens
  closed : (d : Derivation) (t : Tree) → IsWellFormed d → IsBase d → Keeps g d t → grammar.height d ≤ printed_height t → Placed t
  closed d t formed base keeps low = record {
    derivation = d;
    formed = formed;
    keeps = keeps;
    low = low;
    wide = let most = open_most t in omega (arith, most, open_base d base);
    right = λ op h. right_base op d base;
    negated = λ h. unary_base d base;
    base = λ h. base;
  }

  -- ---- literals

  number_placed : (n : Number) → IsNumber n → Placed (number n)
  number_placed n is = go (is_below_zero n) refl
    where
      go : (b : Bool) → is_below_zero n ≡ b → Placed (number n)
      go true minus =
          let d = grammar.unary T_SUB [] (grammar.number []) in
          record {
            derivation = d;
            formed = (refl, tt, tt);
            keeps = keeps_number g d n is (λ _. (omega arith, omega arith, λ x. x));
            low = subst (λ b. grammar.height d ≤ cond b 2 1) (sym minus) (omega arith);
            wide = subst (λ b. cond b 5 7 ≤ grammar.openness d) (sym minus) (omega arith);
            right = λ op h. tt;
            negated = λ h. tt;
            base = λ h. cc;
          }
      go false plus = closed (grammar.number []) (number n) tt tt (keeps_number g (grammar.number []) n is (λ minus. cc)) (subst (λ b. 1 ≤ cond b 2 1) (sym plus) (omega arith))

  -- ---- selectors

  selector_kept : (name : Option Text) (cs : PlainMatchers) → PrintableName name → PrintableMatchers g cs → HasName name cs → Keeps g leaf (vector (selector name cs None None))
  selector_kept (Some name) cs word matchers typed = keeps_named g leaf name cs word.0 (name_kind name word.1) (are_matchers g cs matchers) (name_passes (Some name) cs typed)
  selector_kept None cs word matchers typed =
      let passed = name_passes None cs typed in
      keeps_nameless g leaf cs (selects g cs (are_matchers g cs matchers) passed) passed

  vector_placed : (s : Selector) → TypedSelector s → PrintableSelector g s → Placed (vector s)
  vector_placed (selector name cs offset at) typed h =
      let canon : Canon g leaf (vector (selector name cs offset at)) = record { kept = selector_kept name cs h.0 h.1 typed; suffixes = (is_offset offset h.2, is_at at h.3) } in
      closed leaf (vector (selector name cs offset at)) tt tt (whole g leaf (vector (selector name cs offset at)) canon) (omega arith)

  matrix_placed : (s : Selector) (range : ℕ) (mode : RangeMode) → TypedSelector s → PrintableSelector g s → PrintableTime range → Placed (matrix s range mode)
  matrix_placed (selector name cs offset at) range mode typed h time =
      let d = grammar.postfixed leaf (part.range some_time) in
      let kept = keeps_range g leaf some_time name cs range (selector_kept name cs h.0 h.1 typed) (is_time range time) in
      let canon : Canon g d (matrix (selector name cs offset at) range mode) = record { kept = kept; suffixes = (is_offset offset h.2, is_at at h.3) } in
      closed d (matrix (selector name cs offset at) range mode) (tt, tt) tt (whole g d (matrix (selector name cs offset at) range mode) canon) (omega arith)

  -- ---- parentheses, signs and subqueries

  paren_placed : (e : Tree) → Placed e → Placed (paren e)
  paren_placed e p = closed (grammar.paren p.derivation) (paren e) p.formed tt (keeps_paren g p.derivation e p.keeps) (omega (arith, p.low))

  unary_placed : (e : Tree) → (type_of e ≡ Scalar) ⊎ (type_of e ≡ Vector) → IsNegated e → Placed e → Placed (unary e)
  unary_placed e typed h p =
      let fits = p.negated h in
      let again = unary_again e (unary e) (unary_passes e typed) in
      record {
        derivation = grammar.unary T_SUB [] p.derivation;
        formed = (refl, p.formed, fits);
        keeps = keeps_minus g T_SUB [] p.derivation e p.keeps fits (minus_passes e h typed) again.again;
        low = omega (arith, p.low);
        wide = omega (arith, p.wide);
        right = λ op h. tt;
        negated = λ h. tt;
        base = λ h. h;
      }

  subquery_placed : (e : Tree) (offset : Option Shift) (at : Option Moment) (range : ℕ) (step : Option ℕ) → type_of e ≡ Vector → IsSubqueried e → PrintableTime range → PrintableStep step → PrintableOffset offset → PrintableAt at
      → Placed e → Placed (subquery e offset at range step)
  subquery_placed e offset at range step typed under time times shift moment p =
      let b = p.base under in
      let d = grammar.postfixed p.derivation (part.subquery some_time None) in
      let again = subquery_again e range step (subquery e None None range step) (subquery_passes e range step typed) in
      let kept = keeps_subquery g p.derivation some_time None e range step p.keeps b (is_time range time) (is_step step times) again.again in
      let canon : Canon g d (subquery e offset at range step) = record { kept = kept; suffixes = (is_offset offset shift, is_at at moment) } in
      closed d (subquery e offset at range step) (p.formed, b) tt (whole g d (subquery e offset at range step) canon) (omega (arith, p.low))

  -- ---- binary expressions

  binary_placed : (op : ℕ) (l r : Tree) (m : Option Matching) → TypedBinary op (type_of l) (type_of r) m → token_kind op ≡ kind.Operator op → PrintableModifier op m → FitsLeft op (openness l) → IsRightSide op r
      → Placed l → Placed r → Placed (binary op l r m)
  binary_placed op l r m typed known modifier left right a b =
      let d = grammar.binary op [] no_modifier a.derivation b.derivation in
      let formed : IsWellFormed d = (a.formed, b.formed, tt, omega (arith, left, a.wide), b.right op right, tt) in
      let t = binary op l r (settle_matching op (written m)) in
      let passed = binary_checked op l r (written m) t (checked_again op l r l r m (written m) (binary op l r (settle_matching op m)) refl refl (written_alike m) (binary_passes op l r m typed)) in
      let kept = keeps_binary g op [] no_modifier a.derivation b.derivation l r (written m) t a.keeps b.keeps formed known (written_matched op m modifier) (is_written m) passed in
      record {
        derivation = d;
        formed = formed;
        keeps = subst (λ x. Keeps g d (binary op l r x)) (written_settles op m modifier typed.sets_many_to_many) kept;
        low = omega (arith, a.low, b.low);
        wide = omega (arith, b.wide);
        right = λ op h. h;
        negated = λ h. h;
        base = λ h. h;
      }

  -- ---- calls and aggregations

  call_placed : (f : Signature) (ts : Trees) → TypedSignature f ts → function_named (name_of f) ≡ Some f → AllPlaced ts → Placed (call f ts)
  call_placed f ts typed known ps =
      let called = function_called (name_of f) f known in
      let d = grammar.call (word_kind (name_of f)) (name_of f) ps.derivations in
      let again = call_again f ts (call f ts) (call_passes f ts typed) in
      closed d (call f ts) (called, ps.formed) tt
      (keeps_call g (word_kind (name_of f)) (name_of f) ps.derivations f ts ps.keeps called (record { letters = function_letters (name_of f) f known; kind = refl }) known again.again)
      (omega (arith, ps.low))

  arguments_made : (op : ℕ) (p : MaybeTree) (e : Tree) → has_param p ≡ is_aggregator_with_param op → (n : Option Clause) → aggregate_args op n (all_normal (arguments p e)) ≡ passes (aggregate op (normal e) (maybe_normal p) n)
  arguments_made op absent e h n =
      λ i. cond (sym h i) (aggregated_with op n (first_tree (normal e) no_trees)) (aggregated_alone op n (first_tree (normal e) no_trees))
  arguments_made op (present p) e h n =
      λ i. cond (sym h i) (aggregated_with op n (first_tree (normal p) (first_tree (normal e) no_trees))) (aggregated_alone op n (first_tree (normal p) (first_tree (normal e) no_trees)))

  arguments_placed : (p : MaybeTree) (e : Tree) → MaybePlaced p → Placed e → AllPlaced (arguments p e)
  arguments_placed absent e p q = more_placed e no_trees q none_placed
  arguments_placed (present t) e p q = more_placed t (first_tree e no_trees) p (more_placed e no_trees q none_placed)

  arguments_low : (p : MaybeTree) (e : Tree) (n : ℕ) → n ≤ all_printed_height (arguments p e) → 1 + n ≤ printed_height (aggregate 0 e p None)
  arguments_low absent e n h = omega (arith, h)
  arguments_low (present t) e n h = omega (arith, h)

  aggregate_placed : (op : ℕ) (e : Tree) (p : MaybeTree) (m : Option Clause) → TypedAggregate op (type_of e) (maybe_type p) → has_param p ≡ is_aggregator_with_param op → MaybePlaced p → Placed e → Placed (aggregate op e p m)
  aggregate_placed op e p m typed h maybe q =
      let ps = arguments_placed p e maybe q in
      let d = grammar.aggregate op [] None ps.derivations in
      let again = aggregate_again op e p m (normal_clause m) (aggregate op e p m) (aggregate_passes op e p m typed) in
      closed d (aggregate op e p m) (tt, ps.formed) tt
      (keeps_aggregate g op [] None ps.derivations m e p typed.aggregator ps.keeps (arguments_made op p e h) again.again)
      (arguments_low p e (grammar.greatest_height ps.derivations) ps.low)

  -- ---- trees

  mutual
    pub placed : (t : Tree) → Typed t → PrintableNodes g t → Placed t
    placed (aggregate op e p m) typed h = aggregate_placed op e p m typed.0 h.0 (maybe_placed p typed.1.0 h.1) (placed e typed.1.1 h.2)
    placed (unary e) typed h = unary_placed e typed.0 h.0 (placed e typed.1 h.1)
    placed (binary op l r m) typed h = binary_placed op l r m typed.0 h.0 h.1 h.2 h.3 (placed l typed.1.0 h.4) (placed r typed.1.1 h.5)
    placed (paren e) typed h = paren_placed e (placed e typed h)
    placed (subquery e offset at range step) typed h = subquery_placed e offset at range step typed.0 h.0 h.1 h.2 h.3 h.4 (placed e typed.1 h.5)
    placed (number n) typed h = number_placed n h
    placed (string s) typed h = closed leaf (string s) tt tt (keeps_string g leaf s) (omega arith)
    placed (vector s) typed h = vector_placed s typed h
    placed (matrix s range mode) typed h = matrix_placed s range mode typed h.0 h.1
    placed (call f ts) typed h = call_placed f ts typed.0 h.0 (all_placed ts typed.1 h.1)
    placed (extension name gives ts) typed h = absurd h

    maybe_placed : (p : MaybeTree) → MaybeTyped p → MaybePrintableNodes g p → MaybePlaced p
    maybe_placed absent typed h = tt
    maybe_placed (present e) typed h = placed e typed h

    all_placed : (ts : Trees) → AllTyped ts → AllPrintableNodes g ts → AllPlaced ts
    all_placed no_trees typed h = none_placed
    all_placed (first_tree t ts) typed h = more_placed t ts (placed t typed.0 h.0) (all_placed ts typed.1 h.1)
