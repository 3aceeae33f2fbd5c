-- What holds of each matcher of a list in which one is enforced.
use Rattle.std.proofs.Common.{◌≡◌, refl, sym, ◌∙◌, ap, Bool, true, false, cond, ◌&&◌, ◌||◌, Option, Some, None, List, [], ◌∷◌, ◌++◌, map}
use Rattle.std.specs.Prelude.{find}
use Rattle.std.specs.List.{flat_map, list_all, list_any}
use Rattle.std.specs.Option.{option_or}
use Rattle.std.proofs.lemmas.List.Folds.{find-append, list_all-append}
use Rattle.promql_label.specs.PlainMatchers.{PlainMatcher, PlainMatchers, plain_matchers, every}
use Rattle.promql_ast.specs.Same.{matcher_eq}
use Rattle.promql_rewrite.specs.Enforcing.{enforced_matchers, with_matcher}
use Rattle.promql_rewrite.proofs.enforcement.SameMatchers.{matcher_Decides}

-- ---- of Booleans

and_false : (a : Bool) → a && false ≡ false
and_false true = refl
and_false false = refl

pub and_one : (a : Bool) → a && true ≡ a
and_one true = refl
and_one false = refl

pub and_assoc : (a b c : Bool) → (a && b) && c ≡ a && (b && c)
and_assoc true b c = refl
and_assoc false b c = refl

and_again : (a b : Bool) → a && b ≡ (a && b) && a
and_again true true = refl
and_again true false = refl
and_again false b = refl

or_and : (a b c : Bool) → (a && c) || (b && c) ≡ (a || b) && c
or_and true b true = refl
or_and true true false = refl
or_and true false false = refl
or_and false b c = refl

-- ---- of one list

-- a matcher that is there holds where all do
there : (p : PlainMatcher → Bool) (c : PlainMatcher) (cs : List PlainMatcher) → list_any (matcher_eq c) cs ≡ true → list_all p cs ≡ list_all p cs && p c
there p c [] h = cc
there p c (d ∷ ds) h = go (matcher_eq c d) refl h (there p c ds)
  where
    go : (b : Bool) → matcher_eq c d ≡ b → b || list_any (matcher_eq c) ds ≡ true
        → (list_any (matcher_eq c) ds ≡ true → list_all p ds ≡ list_all p ds && p c) → p d && list_all p ds ≡ (p d && list_all p ds) && p c
    go true is k rest =
        let same : c ≡ d = (matcher_Decides c d).0 is in
        and_again (p d) (list_all p ds) ∙ ap (λ e. (p d && list_all p ds) && p e) (sym same)
    go false is k rest = ap (λ b. p d && b) (rest k) ∙ sym (and_assoc (p d) (list_all p ds) (p c))

-- each holds exactly where each of the old ones does, and the new one
pub with_matcher_holds : (p : PlainMatcher → Bool) (c : PlainMatcher) (cs : List PlainMatcher) → list_all p (with_matcher c cs) ≡ list_all p cs && p c
with_matcher_holds p c cs = go (list_any (matcher_eq c) cs) refl
  where
    go : (b : Bool) → list_any (matcher_eq c) cs ≡ b → list_all p (cond b cs (cs ++ c ∷ [])) ≡ list_all p cs && p c
    go true is = there p c cs is
    go false is = list_all-append p cs (c ∷ []) ∙ ap (λ b. list_all p cs && b) (and_one (p c))

-- ---- of groups

pub groups_hold : (p : PlainMatcher → Bool) (c : PlainMatcher) (gs : List (List PlainMatcher))
    → list_any (λ g. list_all p g) (map (with_matcher c) gs) ≡ list_any (λ g. list_all p g) gs && p c
groups_hold p c [] = refl
groups_hold p c (g ∷ gs) =
    (λ i. with_matcher_holds p c g i || groups_hold p c gs i) ∙ or_and (list_all p g) (list_any (λ g. list_all p g) gs) (p c)

-- ---- of all matchers

all_false : (a b c : Bool) → a ≡ b && c → b ≡ false → a ≡ false
all_false a b c e h = e ∙ ap (λ x. x && c) h

flat_false : (p : PlainMatcher → Bool) (c : PlainMatcher) (gs : List (List PlainMatcher))
    → list_all p (flat_map (λ g. g) gs) ≡ false → list_all p (flat_map (λ g. g) (map (with_matcher c) gs)) ≡ false
flat_false p c [] h = h
flat_false p c (g ∷ gs) h =
    list_all-append p (with_matcher c g) (flat_map (λ g. g) (map (with_matcher c) gs))
    ∙ go (list_all p g) refl (sym (list_all-append p g (flat_map (λ g. g) gs)) ∙ h) (flat_false p c gs)
  where
    rest : Bool
    rest = list_all p (flat_map (λ g. g) (map (with_matcher c) gs))

    go : (b : Bool) → list_all p g ≡ b → b && list_all p (flat_map (λ g. g) gs) ≡ false
        → (list_all p (flat_map (λ g. g) gs) ≡ false → rest ≡ false) → list_all p (with_matcher c g) && rest ≡ false
    go true is k others = ap (λ b. list_all p (with_matcher c g) && b) (others k) ∙ and_false (list_all p (with_matcher c g))
    go false is k others = ap (λ b. b && rest) (all_false (list_all p (with_matcher c g)) (list_all p g) (p c) (with_matcher_holds p c g) is)

-- where one of them does not hold, one of the enforced ones does not
pub one_fails : (p : PlainMatcher → Bool) (c : PlainMatcher) (cs : PlainMatchers)
    → list_all p (every cs) ≡ false → list_all p (every (enforced_matchers c cs)) ≡ false
one_fails p c (plain_matchers cs []) h =
    list_all-append p (with_matcher c cs) []
    ∙ and_one (list_all p (with_matcher c cs))
    ∙ all_false (list_all p (with_matcher c cs)) (list_all p cs) (p c) (with_matcher_holds p c cs) (sym (and_one (list_all p cs)) ∙ sym (list_all-append p cs []) ∙ h)
one_fails p c (plain_matchers cs (g ∷ gs)) h =
    list_all-append p cs grown ∙ go (list_all p cs) refl (sym (list_all-append p cs (flat_map (λ g. g) (g ∷ gs))) ∙ h)
  where
    grown : List PlainMatcher
    grown = flat_map (λ g. g) (map (with_matcher c) (g ∷ gs))

    go : (b : Bool) → list_all p cs ≡ b → b && list_all p (flat_map (λ g. g) (g ∷ gs)) ≡ false → list_all p cs && list_all p grown ≡ false
    go true is k = ap (λ b. list_all p cs && b) (flat_false p c (g ∷ gs) k) ∙ and_false (list_all p cs)
    go false is k = ap (λ b. b && list_all p grown) is

-- ---- of what is found

or_none : {X : Type 0} (a b : Option X) → option_or a b ≡ None → (a ≡ None) × (b ≡ None)
or_none None b h = (refl, h)
or_none (Some x) b h = cc

module _ (q : PlainMatcher → Bool) (c : PlainMatcher) (not_it : q c ≡ false) where
  none_in_list : (cs : List PlainMatcher) → find q cs ≡ None → find q (with_matcher c cs) ≡ None
  none_in_list cs h = go (list_any (matcher_eq c) cs)
    where
      go : (b : Bool) → find q (cond b cs (cs ++ c ∷ [])) ≡ None
      go true = h
      go false = find-append q cs (c ∷ []) ∙ ap (λ o. option_or o (find q (c ∷ []))) h ∙ ap (λ b. cond b (Some c) None) not_it

  none_in_groups : (gs : List (List PlainMatcher)) → find q (flat_map (λ g. g) gs) ≡ None → find q (flat_map (λ g. g) (map (with_matcher c) gs)) ≡ None
  none_in_groups [] h = refl
  none_in_groups (g ∷ gs) h =
      let both = or_none (find q g) (find q (flat_map (λ g. g) gs)) (sym (find-append q g (flat_map (λ g. g) gs)) ∙ h) in
      find-append q (with_matcher c g) (flat_map (λ g. g) (map (with_matcher c) gs))
      ∙ ap (λ o. option_or o (find q (flat_map (λ g. g) (map (with_matcher c) gs)))) (none_in_list g both.0)
      ∙ none_in_groups gs both.1

  -- where none is found, none is found once a matcher that is none is enforced
  pub none_found : (cs : PlainMatchers) → find q (every cs) ≡ None → find q (every (enforced_matchers c cs)) ≡ None
  none_found (plain_matchers cs []) h =
      let both = or_none (find q cs) None (sym (find-append q cs []) ∙ h) in
      find-append q (with_matcher c cs) [] ∙ ap (λ o. option_or o None) (none_in_list cs both.0)
  none_found (plain_matchers cs (g ∷ gs)) h =
      let both = or_none (find q cs) (find q (flat_map (λ g. g) (g ∷ gs))) (sym (find-append q cs (flat_map (λ g. g) (g ∷ gs))) ∙ h) in
      find-append q cs (flat_map (λ g. g) (map (with_matcher c) (g ∷ gs)))
      ∙ ap (λ o. option_or o (find q (flat_map (λ g. g) (map (with_matcher c) (g ∷ gs))))) both.0
      ∙ none_in_groups (g ∷ gs) both.1
