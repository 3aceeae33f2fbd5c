-- Building arguments with one more after them.
use Rattle.std.proofs.Common.{◌≡◌, ◌⊎◌, ℕ, ◌+◌, ◌<◌, ◌^◌, ◌∙◌, Bool, true, inl, inr, ⊎_elim, max, refl, sym, ap, ap₂, subst, arith, List, [], ◌∷◌, ◌++◌, map, length, append-nil, append_assoc}
use Rattle.std.specs.Prelude.{Result, Ok, Err}
use Rattle.promql_ast.specs.Arguments.{append_tree}
use Rattle.promql_ast.specs.View.{trees}
use Rattle.promql_ast.specs.Tree.{Tree, Trees, no_trees, first_tree}
use Rattle.promql_grammar.specs.Grammar as grammar
use Rattle.promql_grammar.specs.Grammar.{yield}
use Rattle.promql_syntax.specs.Asking.{Asking, gives, fails, asks, ◌giving◌, Asked, AreAllowed, Ends, EndsIn}
use Rattle.promql_syntax.specs.Building.{build, build_all}
use Rattle.promql_syntax.specs.BuildErrors.{BuildError}
use Rattle.promql_syntax.specs.ParsesExpr.{IsExprOf, AreArgsOf, trees_result, append_derivation, IsPlaced}
use Rattle.promql_syntax.specs.declared.grammar.parsed.ParsedExpr.{ParsedExpr}
use Rattle.promql_syntax.specs.declared.grammar.parsed.ParsedArgs.{ParsedArgs}
use Rattle.promql_syntax.specs.FaultTokens.{Subexpression, rest_count, subexpressions, subexpressions_of}
use Rattle.promql_syntax.proofs.building.Ending.{then_value, then_fault, ends_known}

-- ---- what comes first ends in an error, or in a value that leads on

record Halts {A B : Type 0} (m : Asking A) (xs : List Asked) (r : Result B BuildError) : Type 0 where
  fault : BuildError
  ends : Ends m xs (Err fault)
  is : r ≡ Err fault

record Leads {A B : Type 0} (m : Asking A) (f : A → Asking B) (xs : List Asked) (r : Result B BuildError) : Type 0 where
  value : A
  front : List Asked
  back : List Asked
  whole : xs ≡ front ++ back
  before : Ends m front (Ok value)
  after : Ends (f value) back r

ends_split : {A B : Type 0} (m : Asking A) (f : A → Asking B) (xs : List Asked) (r : Result B BuildError) → Ends (m giving f) xs r → Halts m xs r ⊎ Leads m f xs r
ends_split (gives x) f xs r ends = inr (record { value = x; front = []; back = xs; whole = refl; before = refl; after = ends })
ends_split (fails e) f [] r ends = inl (record { fault = e; ends = refl; is = ends })
ends_split (fails e) f (a ∷ xs) r ends = absurd ends
ends_split (asks v next) f [] r ends = absurd ends
ends_split (asks v next) f (a ∷ xs) r ends =
    ⊎_elim (λ h. inl (record { fault = h.fault; ends = (ends.0, h.ends); is = h.is }))
    (λ l. inr (record { value = l.value; front = a ∷ l.front; back = l.back; whole = ap (λ ys. a ∷ ys) l.whole; before = (ends.0, l.before); after = l.after }))
    (ends_split (next a.answer) f xs r ends.1)

allowed_front : (xs ys : List Asked) → AreAllowed (xs ++ ys) → AreAllowed xs
allowed_front [] ys all = tt
allowed_front (x ∷ xs) ys all = (all.0, allowed_front xs ys all.1)

allowed_back : (xs ys : List Asked) → AreAllowed (xs ++ ys) → AreAllowed ys
allowed_back [] ys all = all
allowed_back (x ∷ xs) ys all = allowed_back xs ys all.1

record HaltsIn {A B : Type 0} (m : Asking A) (r : Result B BuildError) : Type 0 where
  fault : BuildError
  ends : EndsIn m (Err fault)
  is : r ≡ Err fault

record LeadsIn {A B : Type 0} (m : Asking A) (f : A → Asking B) (r : Result B BuildError) : Type 0 where
  value : A
  before : EndsIn m (Ok value)
  after : EndsIn (f value) r

split_in : {A B : Type 0} (m : Asking A) (f : A → Asking B) (r : Result B BuildError) → EndsIn (m giving f) r → HaltsIn m r ⊎ LeadsIn m f r
split_in m f r ends =
    ⊎_elim (λ h. inl (record { fault = h.fault; ends = record { answers = ends.answers; allowed = ends.allowed; ends = h.ends }; is = h.is }))
    (λ l. let all = subst AreAllowed l.whole ends.allowed in inr (record {
      value = l.value;
      before = record { answers = l.front; allowed = allowed_front l.front l.back all; ends = l.before };
      after = record { answers = l.back; allowed = allowed_back l.front l.back all; ends = l.after };
    }))
    (ends_split m f ends.answers r ends.ends)

given_ends : {A : Type 0} (x : A) (r : Result A BuildError) → EndsIn (gives x) r → r ≡ Ok x
given_ends x r ends = given_is x ends.answers r ends.ends
  where
    given_is : {A : Type 0} (x : A) (xs : List Asked) (r : Result A BuildError) → Ends (gives x) xs r → r ≡ Ok x
    given_is x [] r ends = ends
    given_is x (a ∷ xs) r ends = absurd ends

-- ---- arguments, and one more

abbrev pub combine_results : Result Trees BuildError → Result Tree BuildError → Result Trees BuildError
combine_results (Err e) p = Err e
combine_results (Ok ts) (Err e) = Err e
combine_results (Ok ts) (Ok t) = Ok (append_tree ts t)

first_argument : (d : grammar.Derivation) (p : Result Tree BuildError) → EndsIn (build d) p → EndsIn (build d giving λ t. gives (first_tree t no_trees)) (combine_results (Ok no_trees) p)
first_argument d (Ok t) ends = then_value (build d) (λ t. gives (first_tree t no_trees)) t (Ok (first_tree t no_trees)) ends (ends_known (Ok (first_tree t no_trees)))
first_argument d (Err e) ends = then_fault (build d) (λ t. gives (first_tree t no_trees)) e ends

next_argument : (x : Tree) (ts : Trees) (p : Result Tree BuildError) (m : Asking Trees) → EndsIn m (combine_results (Ok ts) p) → EndsIn (m giving λ us. gives (first_tree x us)) (combine_results (Ok (first_tree x ts)) p)
next_argument x ts (Ok t) m ends = then_value m (λ us. gives (first_tree x us)) (append_tree ts t) (Ok (first_tree x (append_tree ts t))) ends (ends_known (Ok (first_tree x (append_tree ts t))))
next_argument x ts (Err e) m ends = then_fault m (λ us. gives (first_tree x us)) e ends

pub more_ends : (ds : grammar.Arguments) (d : grammar.Derivation) (o : Result Trees BuildError) (p : Result Tree BuildError) → EndsIn (build_all ds) o → EndsIn (build d) p → EndsIn (build_all (append_derivation ds d)) (combine_results o p)
more_ends grammar.none d o p ends last =
    subst (λ r. EndsIn (build_all (append_derivation grammar.none d)) (combine_results r p)) (sym (given_ends no_trees o ends))
    (then_all d p last)
  where
    then_all : (d : grammar.Derivation) (p : Result Tree BuildError) → EndsIn (build d) p → EndsIn (build_all (grammar.more d grammar.none)) (combine_results (Ok no_trees) p)
    then_all d p last = first_argument d p last
more_ends (grammar.more e ds) d o p ends last =
    ⊎_elim (λ h. subst (λ r. EndsIn (build_all (append_derivation (grammar.more e ds) d)) (combine_results r p)) (sym h.is) (then_fault (build e) (λ t. build_all (append_derivation ds d) giving λ us. gives (first_tree t us)) h.fault h.ends))
    (λ l. then_value (build e) (λ t. build_all (append_derivation ds d) giving λ us. gives (first_tree t us)) l.value (combine_results o p) l.before
    (⊎_elim (λ h. subst (λ r. EndsIn (build_all (append_derivation ds d) giving λ us. gives (first_tree l.value us)) (combine_results r p)) (sym h.is)
    (then_fault (build_all (append_derivation ds d)) (λ us. gives (first_tree l.value us)) h.fault (more_ends ds d (Err h.fault) p h.ends last)))
    (λ k. subst (λ r. EndsIn (build_all (append_derivation ds d) giving λ us. gives (first_tree l.value us)) (combine_results r p)) (sym (given_ends (first_tree l.value k.value) o k.after))
    (next_argument l.value k.value p (build_all (append_derivation ds d)) (more_ends ds d (Ok k.value) p k.before last)))
    (split_in (build_all ds) (λ us. gives (first_tree l.value us)) o l.after)))
    (split_in (build e) (λ t. build_all ds giving λ us. gives (first_tree t us)) o ends)

followed_height : (ds : grammar.Arguments) (d : grammar.Derivation) → grammar.greatest_height (append_derivation ds d) ≡ max (grammar.greatest_height ds) (grammar.height d)
followed_height grammar.none d = omega arith
followed_height (grammar.more e ds) d = let rest = followed_height ds d in omega arith

-- a fault comes before one more argument
fault_ends : (ds : grammar.Arguments) (d : grammar.Derivation) (f : BuildError) → EndsIn (build_all ds) (Err f) → EndsIn (build_all (append_derivation ds d)) (Err f)
fault_ends grammar.none d f ends = let other : Err f ≡ Ok no_trees = given_ends no_trees (Err f) ends in cc
fault_ends (grammar.more e ds) d f ends =
    let rest : Tree → Asking Trees = λ t. build_all (append_derivation ds d) giving λ us. gives (first_tree t us) in
    ⊎_elim (λ h. subst (EndsIn (build e giving rest)) (sym h.is) (then_fault (build e) rest h.fault h.ends))
    (λ l. then_value (build e) rest l.value (Err f) l.before
    (⊎_elim (λ h. subst (EndsIn (rest l.value)) (sym h.is) (then_fault (build_all (append_derivation ds d)) (λ us. gives (first_tree l.value us)) h.fault (fault_ends ds d h.fault h.ends)))
    (λ k. let other : Err f ≡ Ok (first_tree l.value k.value) = given_ends (first_tree l.value k.value) (Err f) k.after in cc)
    (split_in (build_all ds) (λ us. gives (first_tree l.value us)) (Err f) l.after)))
    (split_in (build e) (λ t. build_all ds giving λ us. gives (first_tree t us)) (Err f) ends)

module _ {builds next : Bool} {n k : ℕ} (made args : ParsedArgs) (parsed : ParsedExpr) (ds : grammar.Arguments) (d : grammar.Derivation) (tall : made.height ≡ max args.height parsed.height) (before : AreArgsOf builds n (1 + (length (yield d) + k)) args ds) (last : IsExprOf next n k parsed d)
    (placed : builds ≡ true → n < 2 ^ 64 → IsPlaced n (subexpressions_of k (append_derivation ds d)) made.value) where
  tall_arguments : made.height ≡ grammar.greatest_height (append_derivation ds d)
  tall_arguments = let one = before.tall in let other = last.tall in let all = followed_height ds d in omega arith

  pub more_arguments_of : (o : Result Trees BuildError) (p : Result Tree BuildError) → trees_result made ≡ combine_results o p → (builds ≡ true → EndsIn (build_all ds) o) → (builds ≡ true → EndsIn (build d) p)
      → AreArgsOf builds n k made (append_derivation ds d)
  more_arguments_of o p value first second = record {
    tall = tall_arguments;
    built = λ on. subst (EndsIn (build_all (append_derivation ds d))) (sym value) (more_ends ds d o p (first on) (second on));
    placed = placed;
  }

  pub no_arguments_of : (f : BuildError) → trees_result made ≡ Err f → (builds ≡ true → EndsIn (build_all ds) (Err f)) → AreArgsOf builds n k made (append_derivation ds d)
  no_arguments_of f value first = record {
    tall = tall_arguments;
    built = λ on. subst (EndsIn (build_all (append_derivation ds d))) (sym value) (fault_ends ds d f (first on));
    placed = placed;
  }

-- ---- where their faults are

rest_append : (ds : grammar.Arguments) (d : grammar.Derivation) → rest_count (append_derivation ds d) ≡ rest_count ds + (1 + length (yield d))
rest_append grammar.none d = omega arith
rest_append (grammar.more e ds) d = omega (arith, rest_append ds d)

append_subexpressions : (k : ℕ) (ds : grammar.Arguments) (d : grammar.Derivation) → subexpressions_of k (append_derivation ds d) ≡ subexpressions_of (1 + (length (yield d) + k)) ds ++ subexpressions k d
append_subexpressions k grammar.none d = append-nil (subexpressions (0 + k) d) ∙ ap (λ j. subexpressions j d) (omega arith)
append_subexpressions k (grammar.more e ds) d =
    let counts : rest_count (append_derivation ds d) + k ≡ rest_count ds + (1 + (length (yield d) + k)) = omega (arith, rest_append ds d) in
    ap₂ (λ xs ys. xs ++ ys) (ap (λ j. subexpressions j e) counts) (append_subexpressions k ds d)
    ∙ sym (append_assoc (subexpressions (rest_count ds + (1 + (length (yield d) + k))) e) (subexpressions_of (1 + (length (yield d) + k)) ds) (subexpressions k d))

pub appended : (P : List Subexpression → Type 0) (k : ℕ) (ds : grammar.Arguments) (d : grammar.Derivation) → P (subexpressions_of (1 + (length (yield d) + k)) ds ++ subexpressions k d) → P (subexpressions_of k (append_derivation ds d))
appended P k ds d = subst P (sym (append_subexpressions k ds d))

pub appended_trees : {X : Type 0} (f : X → Tree) (xs : List X) (x : X) → trees (map f (xs ++ x ∷ [])) ≡ append_tree (trees (map f xs)) (f x)
appended_trees f [] x = refl
appended_trees f (y ∷ xs) x = ap (first_tree (f y)) (appended_trees f xs x)
