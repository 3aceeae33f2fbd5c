-- Where the fault of an expression is: in a part of it, or its own.
use Rattle.std.proofs.Common.{◌≡◌, ◌∙◌, ℕ, refl, sym, ap, subst, List, [], ◌∷◌, ◌++◌, append_assoc, None}
use Rattle.std.specs.Prelude.{All, Result, Ok, Err}
use Rattle.std.proofs.lemmas.List.Elements.{All-append, All-push}
use Rattle.std.specs.declared.alloc.Global.{Global}
use Rattle.std.specs.declared.boxed.Box.{Box}
use Rattle.promql_ast.specs.Faults as trees
use Rattle.promql_ast.specs.declared.expr.Expr.{Expr}
use Rattle.promql_grammar.specs.Grammar as grammar
use Rattle.promql_syntax.specs.Asking.{EndsIn}
use Rattle.promql_syntax.specs.BuildErrors.{BuildError, number, quoted, duration, at, pattern, unknown_function, check, build_error_of}
use Rattle.promql_syntax.specs.Building.{build}
use Rattle.promql_ast.specs.View.{tree_of}
use Rattle.promql_syntax.specs.FaultTokens.{Builds, Subexpression, fault_tokens}
use Rattle.promql_syntax.specs.ParsesExpr.{IsFaultIn, IsPlaced, view_boxed}
use Rattle.promql_syntax.specs.Placing.{AreTokens}
use Rattle.promql_syntax.specs.declared.grammar.build_error.BuildError as code
use Rattle.promql_syntax.specs.declared.grammar.place.Place.{Place}

-- ---- a fault in a part

-- in the first of two lists
pub in_first : (n : ℕ) (xs ys : List Subexpression) (e : code.BuildError) → IsFaultIn n xs e → IsFaultIn n (xs ++ ys) e
in_first n xs ys e fault =
    let found = fault.first in
    record {
      sub = fault.sub;
      first = (found.0, found.1 ++ ys, ap (λ l. l ++ ys) found.2 ∙ append_assoc found.0 (fault.sub ∷ found.1) ys, found.3, found.4);
      place = fault.place;
    }

-- in the second, where all of the first build
pub in_second : (n : ℕ) (xs ys : List Subexpression) (e : code.BuildError) → All Builds xs → IsFaultIn n ys e → IsFaultIn n (xs ++ ys) e
in_second n xs ys e build fault =
    let found = fault.first in
    record {
      sub = fault.sub;
      first = (
        xs ++ found.0,
        found.1,
        ap (λ l. xs ++ l) found.2 ∙ sym (append_assoc xs found.0 (fault.sub ∷ found.1)),
        All-append Builds xs found.0 build found.3,
        found.4,
      );
      place = fault.place;
    }

pub second_placed : {V : Type 0} (n : ℕ) (xs ys : List Subexpression) (held : Result V (Box code.BuildError Global)) → All Builds xs → IsPlaced n ys held → IsPlaced n (xs ++ ys) held
second_placed n xs ys (Ok x) build placed = All-append Builds xs ys build placed
second_placed n xs ys (Err e) build placed = in_second n xs ys e.value build placed

-- the parts of what is built build
pub parts_built : {V : Type 0} (n : ℕ) (subs : List Subexpression) (held : Result V (Box code.BuildError Global)) (x : V) → held ≡ Ok x → IsPlaced n subs held → All Builds subs
parts_built n subs held x is placed = subst (λ r. IsPlaced n subs r) is placed

-- an error of the parts is the whole's
pub passed_on : {V W : Type 0} (n : ℕ) (subs more : List Subexpression) (held : Result V (Box code.BuildError Global)) (made : Result W (Box code.BuildError Global)) (e : Box code.BuildError Global) → held ≡ Err e → made ≡ Err e → IsPlaced n subs held → IsPlaced n (subs ++ more) made
passed_on n subs more held made e is made_is placed =
    subst (λ r. IsPlaced n (subs ++ more) r) (sym made_is) (in_first n subs more e.value (subst (λ r. IsPlaced n subs r) is placed))

-- ---- a fault of its own

pub own_placed : (n k : ℕ) (d : grammar.Derivation) (parts : List Subexpression) (made : Result (Box Expr Global) (Box code.BuildError Global)) → All Builds parts → EndsIn (build d) (view_boxed made)
    → ((e : Box code.BuildError Global) → made ≡ Err e → AreTokens n (fault_tokens (build_error_of e.value) k d) e.value.place) → IsPlaced n (parts ++ (k, d) ∷ []) made
own_placed n k d parts (Ok x) built ends place = All-push Builds parts (k, d) built (tree_of x.value, ends)
own_placed n k d parts (Err e) built ends place = record {
  sub = (k, d);
  first = (parts, [], refl, built, ends);
  place = place e refl;
}

-- of these no fault is about some of the tokens alone
abbrev pub IsWhole : grammar.Derivation → Type 0
IsWhole (grammar.call w text ds) = ⊥
IsWhole (grammar.postfixed d p) = ⊥
IsWhole (grammar.binary op text m l r) = ⊥
IsWhole d = Unit {0}

none_whole : (d : grammar.Derivation) (k : ℕ) (e : BuildError) → IsWhole d → fault_tokens e k d ≡ None
none_whole (grammar.call w text ds) k e is = absurd is
none_whole (grammar.postfixed d p) k e is = absurd is
none_whole (grammar.binary op text m l r) k e is = absurd is
none_whole d k (number f) is = refl
none_whole d k quoted is = refl
none_whole d k (duration f) is = refl
none_whole d k (at f) is = refl
none_whole d k (pattern value) is = refl
none_whole d k (unknown_function name) is = refl
none_whole d k (check (trees.node f)) is = refl
none_whole d k (check trees.bool_modifier) is = refl
none_whole d k (check (trees.label_twice label)) is = refl
none_whole d k (check (trees.no_grouping set)) is = refl
none_whole d k (check trees.vector_matching) is = refl
none_whole d k (check f) is = refl

pub no_tokens : (n : ℕ) (left : _) (place : Place) → left ≡ None → AreTokens n left place
no_tokens n left place none = subst (λ o. AreTokens n o place) (sym none) tt

pub whole_placed : (n k : ℕ) (d : grammar.Derivation) (parts : List Subexpression) (made : Result (Box Expr Global) (Box code.BuildError Global)) → IsWhole d → All Builds parts → EndsIn (build d) (view_boxed made) → IsPlaced n (parts ++ (k, d) ∷ []) made
whole_placed n k d parts made whole built ends = own_placed n k d parts made built ends (λ e is. no_tokens n _ e.value.place (none_whole d k (build_error_of e.value) whole))
