-- The tokens of a fault of an operator, a postfix or a call.
use Rattle.std.proofs.Common.{◌≡◌, ℕ, ◌+◌, ◌<◌, ◌^◌, refl, sym, subst, arith, List, [], ◌∷◌, ◌++◌, Some, None, length}
use Rattle.std.specs.Prelude.{All, Result, Ok, Err, IfErr, IfOk, IfSome, MatchResult, Option}
use Rattle.std.specs.declared.alloc.Global.{Global}
use Rattle.std.specs.declared.boxed.Box.{Box}
use Rattle.promql_text.specs.Texts.{Text}
use Rattle.promql_kind.specs.Modifiers.{Matching}
use Rattle.promql_kind.specs.ModifierViews.{matching_of}
use Rattle.promql_kind.specs.declared.bin_modifier.BinModifier.{BinModifier}
use Rattle.promql_ast.specs.Faults as trees
use Rattle.promql_ast.specs.Tree as tree
use Rattle.promql_ast.specs.declared.expr.Expr.{Expr}
use Rattle.promql_ast.specs.declared.fault.NodeFault.{NodeFault}
use Rattle.promql_grammar.specs.declared.token_kinds.TokenKind.{TokenKind}
use Rattle.promql_grammar.specs.Grammar as grammar
use Rattle.promql_grammar.specs.GrammarParts as part
use Rattle.promql_grammar.specs.GrammarParts.{yield_postfix}
use Rattle.promql_syntax.specs.Asking.{EndsIn}
use Rattle.promql_syntax.specs.BuildErrors.{BuildError, number, quoted, duration, at, pattern, unknown_function, check, build_error_of, view_result}
use Rattle.promql_syntax.specs.Building.{build}
use Rattle.promql_syntax.specs.FaultTokens.{Builds, Subexpression, fault_tokens}
use Rattle.promql_syntax.specs.ParsesExpr.{IsPlaced, view_boxed}
use Rattle.promql_syntax.specs.PartBuilding.{modifier_value}
use Rattle.promql_syntax.specs.Placing.{AreTokens, HasModifierPlace, IsCallAt, IsCheck, IsModifierAt, IsPostfixAt, modifier_place, tokens_between}
use Rattle.promql_syntax.specs.Postfixes.{IsMomentAt, change_of, change_value}
use Rattle.promql_syntax.specs.declared.grammar.build_error.BuildError as code
use Rattle.promql_syntax.specs.declared.grammar.place.Extent.{Extent}
use Rattle.promql_syntax.specs.declared.grammar.place.Place.{Place}
use Rattle.promql_syntax.specs.declared.grammar.postfix.Postfix as code_postfix
use Rattle.promql_syntax.proofs.answer.FaultPlacing.{no_tokens, own_placed}
use Rattle.promql_syntax.proofs.parsing.TokenFaults.{FailsByToken, IsPartFault, IsTokenFault, change_by, modifier_by, none_by_token}

pub if_ok_all : {X E : Type 0} {P Q S R : X → Type 0} (r : Result X E) → IfOk r P → IfOk r Q → IfOk r S → ((x : X) → P x → Q x → S x → R x) → IfOk r R
if_ok_all (Ok x) p q s all = all x p q s
if_ok_all (Err e) p q s all = tt

-- of an error, this holds
pub of_error : {X E : Type 0} (P : E → Type 0) (r : Result X E) (e : E) → r ≡ Err e → IfErr r P → P e
of_error P r e is holds = subst (λ v. IfErr v P) is holds

-- an error that was made
pub error_placed : (n k : ℕ) (d : grammar.Derivation) (parts : List Subexpression) (made : Result (Box Expr Global) (Box code.BuildError Global)) (e : Box code.BuildError Global) → made ≡ Err e → All Builds parts → EndsIn (build d) (view_boxed made)
    → AreTokens n (fault_tokens (build_error_of e.value) k d) e.value.place → IsPlaced n (parts ++ (k, d) ∷ []) made
error_placed n k d parts made e is built ends place =
    own_placed n k d parts made built ends (λ f same. let one : f ≡ e = cc in subst (λ g. AreTokens n (fault_tokens (build_error_of g.value) k d) g.value.place) (sym one) place)

-- ---- operators

module _ (k op : ℕ) (text : Text) (m : part.Modifier) (l r : grammar.Derivation) where
  module _ (n : ℕ) (extent : Extent) (there : IsModifierAt n k extent m r) (fits : n < 2 ^ 64) where
    at_modifier : (place : Place) → place ≡ tokens_between extent.modifier extent.right → AreTokens n (fault_tokens (check trees.bool_modifier) k (grammar.binary op text m l r)) place
    at_modifier place same = subst (AreTokens n (fault_tokens (check trees.bool_modifier) k (grammar.binary op text m l r))) (sym same) (there fits)

    pub modifier_tokens : (x y : tree.Tree) (z : Option Matching) (e : BuildError) (place : Place) → ((f : trees.Fault) → e ≡ check f → IfSome (modifier_place (tree.binary op x y z) f extent) (λ p. place ≡ p))
        → AreTokens n (fault_tokens e k (grammar.binary op text m l r)) place
    modifier_tokens x y z (check trees.bool_modifier) place is = at_modifier place (is trees.bool_modifier refl)
    modifier_tokens x y z (check (trees.label_twice label)) place is = at_modifier place (is (trees.label_twice label) refl)
    modifier_tokens x y z (check (trees.no_grouping set)) place is = at_modifier place (is (trees.no_grouping set) refl)
    modifier_tokens x y z (check trees.vector_matching) place is = at_modifier place (is trees.vector_matching refl)
    modifier_tokens x y z (check (trees.node f)) place is = tt
    modifier_tokens x y z (check f) place is = tt
    modifier_tokens x y z (number f) place is = tt
    modifier_tokens x y z quoted place is = tt
    modifier_tokens x y z (duration f) place is = tt
    modifier_tokens x y z (at f) place is = tt
    modifier_tokens x y z (pattern value) place is = tt
    modifier_tokens x y z (unknown_function name) place is = tt

    pub modified_tokens : (x y : tree.Tree) (held : Result BinModifier (Box code.BuildError Global)) (e : Box code.BuildError Global) → view_result (λ q. Some (matching_of q)) held ≡ modifier_value m
        → MatchResult held (λ q. HasModifierPlace (tree.binary op x y (Some (matching_of q))) extent e) (λ h. e ≡ h)
        → AreTokens n (fault_tokens (build_error_of e.value) k (grammar.binary op text m l r)) e.value.place
    modified_tokens x y (Ok q) e viewed is = modifier_tokens x y (Some (matching_of q)) (build_error_of e.value) e.value.place is
    modified_tokens x y (Err h) e viewed same =
        let by_token : IsTokenFault (build_error_of h.value) = subst FailsByToken (sym viewed) (modifier_by m) in
        no_tokens n _ e.value.place (none_by_token (build_error_of e.value) k op text m l r (subst (λ (g : Box code.BuildError Global). IsTokenFault (build_error_of g.value)) (sym same) by_token))

-- ---- postfixes

module _ (n k : ℕ) (d : grammar.Derivation) where
  part_tokens : (e : BuildError) (p : part.Postfix) (place : Place) → IsPartFault e → ((f : _) → e ≡ at f → AreTokens n (fault_tokens (at f) k (grammar.postfixed d p)) place) → AreTokens n (fault_tokens e k (grammar.postfixed d p)) place
  part_tokens (at f) p place is moment = moment f refl
  part_tokens (check f) p place is moment = absurd is
  part_tokens (number f) p place is moment = tt
  part_tokens quoted p place is moment = tt
  part_tokens (duration f) p place is moment = tt
  part_tokens (pattern value) p place is moment = tt
  part_tokens (unknown_function name) p place is moment = tt

  moment_tokens : (p : part.Postfix) (h : Box code.BuildError Global) (f : _) → build_error_of h.value ≡ at f → IsMomentAt n k p (Err h) → AreTokens n (fault_tokens (at f) k (grammar.postfixed d p)) h.value.place
  moment_tokens (part.at_number s text) h f is moment = moment f is
  moment_tokens (part.range r) h f is moment = tt
  moment_tokens (part.subquery r s) h f is moment = tt
  moment_tokens (part.at_bound w text) h f is moment = tt
  moment_tokens (part.offset text s r) h f is moment = tt
  moment_tokens (part.mode w text) h f is moment = tt

  node_tokens : (e : BuildError) (p : part.Postfix) (place : Place) → IsCheck e → ((f : NodeFault) → e ≡ check (trees.node f) → AreTokens n (Some (length (yield_postfix p) + k, k)) place) → AreTokens n (fault_tokens e k (grammar.postfixed d p)) place
  node_tokens (check (trees.node f)) p place is node = node f refl
  node_tokens (check trees.bool_modifier) p place is node = tt
  node_tokens (check (trees.label_twice label)) p place is node = tt
  node_tokens (check (trees.no_grouping set)) p place is node = tt
  node_tokens (check trees.vector_matching) p place is node = tt
  node_tokens (check f) p place is node = tt
  node_tokens (number f) p place is node = absurd is
  node_tokens quoted p place is node = absurd is
  node_tokens (duration f) p place is node = absurd is
  node_tokens (at f) p place is node = absurd is
  node_tokens (pattern value) p place is node = absurd is
  node_tokens (unknown_function name) p place is node = absurd is

  pub postfixed_tokens : (p : part.Postfix) (extent : Extent) (held : Result code_postfix.Postfix (Box code.BuildError Global)) (e : Box code.BuildError Global) → IsPostfixAt n k extent p → n < 2 ^ 64
      → view_result change_of held ≡ change_value p → IsMomentAt n k p held
      → MatchResult held (λ q. IsCheck (build_error_of e.value) × ((f : NodeFault) → build_error_of e.value ≡ check (trees.node f) → e.value.place ≡ tokens_between extent.operator extent.end)) (λ h. e ≡ h)
      → AreTokens n (fault_tokens (build_error_of e.value) k (grammar.postfixed d p)) e.value.place
  postfixed_tokens p extent (Ok q) e there fits viewed moment is =
      node_tokens (build_error_of e.value) p e.value.place is.0 (λ f same. subst (AreTokens n (Some (length (yield_postfix p) + k, k))) (sym (is.1 f same)) (there fits))
  postfixed_tokens p extent (Err h) e there fits viewed moment same =
      let by_part : IsPartFault (build_error_of h.value) = subst (λ r. IfErr r IsPartFault) (sym viewed) (change_by p) in
      let placed = part_tokens (build_error_of h.value) p h.value.place by_part (λ f is. moment_tokens p h f is moment) in
      subst (λ (g : Box code.BuildError Global). AreTokens n (fault_tokens (build_error_of g.value) k (grammar.postfixed d p)) g.value.place) (sym same) placed

-- ---- calls

pub none_checked : (k : ℕ) (w : TokenKind) (text : Text) (ds : grammar.Arguments) (e : BuildError) → IsCheck e → fault_tokens e k (grammar.call w text ds) ≡ None
none_checked k w text ds (check (trees.node f)) is = refl
none_checked k w text ds (check trees.bool_modifier) is = refl
none_checked k w text ds (check (trees.label_twice label)) is = refl
none_checked k w text ds (check (trees.no_grouping set)) is = refl
none_checked k w text ds (check trees.vector_matching) is = refl
none_checked k w text ds (check f) is = refl
none_checked k w text ds (number f) is = absurd is
none_checked k w text ds quoted is = absurd is
none_checked k w text ds (duration f) is = absurd is
none_checked k w text ds (at f) is = absurd is
none_checked k w text ds (pattern value) is = absurd is
none_checked k w text ds (unknown_function name) is = absurd is

pub name_tokens : (n k : ℕ) (extent : Extent) (w : TokenKind) (text name : Text) (ds : grammar.Arguments) (e : BuildError) (place : Place) → IsCallAt n k extent ds → n < 2 ^ 64 → e ≡ unknown_function name
    → (extent.start + 1 < 2 ^ 64 → place ≡ tokens_between extent.start (extent.start + 1)) → AreTokens n (fault_tokens e k (grammar.call w text ds)) place
name_tokens n k extent w text name ds e place there fits is token =
    let total = there fits in
    let placed : AreTokens n (fault_tokens (unknown_function name) k (grammar.call w text ds)) place =
    subst (AreTokens n (fault_tokens (unknown_function name) k (grammar.call w text ds))) (sym (token (omega arith))) (total, omega arith) in
    subst (λ f. AreTokens n (fault_tokens f k (grammar.call w text ds)) place) (sym is) placed
