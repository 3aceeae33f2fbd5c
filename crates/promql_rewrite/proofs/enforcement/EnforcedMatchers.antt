-- Enforced lists of matchers read back as the lists did, and a selector passes its check with them.
use Rattle.std.proofs.Common.{◌≡◌, ◌≢◌, refl, ◌∙◌, ap, Bool, true, false, cond, ◌&&◌, Option, Some, None, List, [], ◌∷◌, ◌++◌, map, codes}
use Rattle.std.specs.Prelude.{find, option_map}
use Rattle.std.specs.List.{flat_map, list_all, list_any}
use Rattle.std.proofs.lemmas.Slice.Eq.{bytes_eq-Decides}
use Rattle.promql_text.specs.Texts.{Text}
use Rattle.promql_label.specs.Answers.{Answer}
use Rattle.promql_label.specs.PlainMatchers.{equal, not_equal, matches, matches_not, PlainMatcher, plain_matcher, PlainMatchers, plain_matchers, every, holds, is_of, name_of, value_of}
use Rattle.promql_ast.specs.Checks.{when}
use Rattle.promql_ast.specs.Faults.{Fault, empty_selector, name_twice}
use Rattle.promql_ast.specs.Same.{matcher_eq}
use Rattle.promql_ast.specs.check.VectorChecks.{name_fault}
use Rattle.promql_syntax.specs.Asking.{under}
use Rattle.promql_syntax.specs.PartBuilding.{pattern_operator}
use Rattle.promql_syntax.proofs.printed.PrintedMatcherLists.{AllStand, AreAnyMatchers, GroupsStand, Stands}
use Rattle.promql_rewrite.specs.Answered.{IsAnswered}
use Rattle.promql_rewrite.specs.Enforcing.{enforced_matchers, with_matcher}

-- ---- reading back

answered_stands : (g : Text → Answer) (c : PlainMatcher) → IsAnswered g c → Stands g c
answered_stands g (plain_matcher equal name v) h = refl
answered_stands g (plain_matcher not_equal name v) h = refl
answered_stands g (plain_matcher (matches w) name v) h = ap (λ a. under g (pattern_operator matches v a)) h
answered_stands g (plain_matcher (matches_not w) name v) h = ap (λ a. under g (pattern_operator matches_not v a)) h

module _ (g : Text → Answer) (c : PlainMatcher) (answered : IsAnswered g c) where
  last_stands : (cs : List PlainMatcher) → AllStand g cs → AllStand g (cs ++ c ∷ [])
  last_stands [] h = (answered_stands g c answered, tt)
  last_stands (d ∷ cs) h = (h.0, last_stands cs h.1)

  plain_stand : (d : PlainMatcher) (ds : List PlainMatcher) → AllStand g (d ∷ ds) → AreAnyMatchers g (plain_matchers (with_matcher c (d ∷ ds)) [])
  plain_stand d ds h = go (list_any (matcher_eq c) (d ∷ ds))
    where
      go : (b : Bool) → AreAnyMatchers g (plain_matchers (cond b (d ∷ ds) (d ∷ (ds ++ c ∷ []))) [])
      go true = h
      go false = last_stands (d ∷ ds) h

  groups_stand : (gs : List (List PlainMatcher)) → GroupsStand g gs → GroupsStand g (map (with_matcher c) gs)
  groups_stand [] h = tt
  groups_stand ([] ∷ gs) h = absurd h
  groups_stand ((d ∷ ds) ∷ gs) h = go (list_any (matcher_eq c) (d ∷ ds)) (groups_stand gs h.1)
    where
      go : (b : Bool) → GroupsStand g (map (with_matcher c) gs) → GroupsStand g (cond b (d ∷ ds) (d ∷ (ds ++ c ∷ [])) ∷ map (with_matcher c) gs)
      go true more = (h.0, more)
      go false more = (last_stands (d ∷ ds) h.0, more)

  pub enforced_stand : (cs : PlainMatchers) → AreAnyMatchers g cs → AreAnyMatchers g (enforced_matchers c cs)
  enforced_stand (plain_matchers [] []) h = (answered_stands g c answered, tt)
  enforced_stand (plain_matchers (d ∷ ds) []) h = plain_stand d ds h
  enforced_stand (plain_matchers [] (i ∷ [])) h = absurd h
  enforced_stand (plain_matchers [] (i ∷ j ∷ gs)) h = groups_stand (i ∷ j ∷ gs) h
  enforced_stand (plain_matchers (d ∷ ds) (i ∷ gs)) h = absurd h

-- ---- the matcher among the others

-- the second list is the first, with the matcher at some places
data Inserted (c : PlainMatcher) : List PlainMatcher → List PlainMatcher → Type 0 where
  done : Inserted c [] []
  kept : {d : PlainMatcher} {cs ds : List PlainMatcher} → Inserted c cs ds → Inserted c (d ∷ cs) (d ∷ ds)
  added : {cs ds : List PlainMatcher} → Inserted c cs ds → Inserted c cs (c ∷ ds)

nowhere : (c : PlainMatcher) (cs : List PlainMatcher) → Inserted c cs cs
nowhere c [] = done
nowhere c (d ∷ cs) = kept (nowhere c cs)

at_end : (c : PlainMatcher) (cs : List PlainMatcher) → Inserted c cs (cs ++ c ∷ [])
at_end c [] = added done
at_end c (d ∷ cs) = kept (at_end c cs)

both : {c : PlainMatcher} {cs ds es fs : List PlainMatcher} → Inserted c cs ds → Inserted c es fs → Inserted c (cs ++ es) (ds ++ fs)
both done j = j
both (kept i) j = kept (both i j)
both (added i) j = added (both i j)

with_inserted : (c : PlainMatcher) (cs : List PlainMatcher) → Inserted c cs (with_matcher c cs)
with_inserted c cs = go (list_any (matcher_eq c) cs)
  where
    go : (b : Bool) → Inserted c cs (cond b cs (cs ++ c ∷ []))
    go true = nowhere c cs
    go false = at_end c cs

groups_inserted : (c : PlainMatcher) (gs : List (List PlainMatcher)) → Inserted c (flat_map (λ g. g) gs) (flat_map (λ g. g) (map (with_matcher c) gs))
groups_inserted c [] = done
groups_inserted c (g ∷ gs) = both (with_inserted c g) (groups_inserted c gs)

every_inserted : (c : PlainMatcher) (cs : PlainMatchers) → Inserted c (every cs) (every (enforced_matchers c cs))
every_inserted c (plain_matchers cs []) = both (with_inserted c cs) done
every_inserted c (plain_matchers cs (g ∷ gs)) = both (nowhere c cs) (groups_inserted c (g ∷ gs))

-- ---- the check of a selector

still_false : (a b d : Bool) → (b ≡ false → d ≡ false) → (a && b) ≡ false → (a && d) ≡ false
still_false true b d later e = later e
still_false false b d later e = refl

and_false : (a b : Bool) → b ≡ false → (a && b) ≡ false
and_false true b e = e
and_false false b e = refl

module _ (c : PlainMatcher) (p : PlainMatcher → Bool) where
  same_found : {cs ds : List PlainMatcher} → p c ≡ false → Inserted c cs ds → find p ds ≡ find p cs
  same_found e done = refl
  same_found e (kept {d = d} i) = ap (λ o. cond (p d) (Some d) o) (same_found e i)
  same_found e (added {ds = ds} i) = ap (λ b. cond b (Some c) (find p ds)) e ∙ same_found e i

  not_each : {cs ds : List PlainMatcher} → Inserted c cs ds → list_all p cs ≡ false → list_all p ds ≡ false
  not_each done e = e
  not_each (kept {d = d} {cs = cs} {ds = ds} i) e = still_false (p d) (list_all p cs) (list_all p ds) (not_each i) e
  not_each (added {ds = ds} i) e = and_false (p c) (list_all p ds) (not_each i e)

no_name : (c : PlainMatcher) → name_of c ≢ codes "__name__" → is_of (codes "__name__") c ≡ false
no_name c other = go (is_of (codes "__name__") c) (bytes_eq-Decides (name_of c) (codes "__name__")).0
  where
    go : (b : Bool) → (b ≡ true → name_of c ≡ codes "__name__") → b ≡ false
    go true same = absurd (other (same refl))
    go false same = refl

when_none : (b : Bool) (f : Fault) → when b f ≡ None → b ≡ false
when_none true f e = cc
when_none false f e = refl

pub name_passes : (c : PlainMatcher) → name_of c ≢ codes "__name__" → (name : Option Text) (cs : PlainMatchers) → name_fault name cs ≡ None → name_fault name (enforced_matchers c cs) ≡ None
name_passes c other (Some name) cs e =
    ap (λ o. option_map (name_twice name) (option_map value_of o)) (same_found c (is_of (codes "__name__")) (no_name c other) (every_inserted c cs)) ∙ e
name_passes c other None cs e =
    let p = λ (d : PlainMatcher). holds d [] in
    ap (λ b. when b empty_selector) (not_each c p (every_inserted c cs) (when_none (list_all p (every cs)) empty_selector e))
