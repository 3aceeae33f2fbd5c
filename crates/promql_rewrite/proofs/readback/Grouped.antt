-- What is said of or-groups, and by their forms, is one.
use Rattle.std.proofs.Common.{◌≡◌, ◌≢◌, refl, List, [], ◌∷◌}
use Rattle.std.specs.List.{AllByRecursion}
use Rattle.promql_label.specs.PlainMatchers.{PlainMatcher, PlainMatchers, plain_matchers}
use Rattle.promql_rewrite.specs.PrintableConditions.{AreGrouped}
use Rattle.promql_rewrite.specs.PrintableNodes.{AreGroups, NoneEmpty}

some : (gs : List (List PlainMatcher)) → NoneEmpty gs → AllByRecursion (λ g. g ≢ []) gs
some [] h = tt
some ([] ∷ gs) h = absurd h
some ((c ∷ cs) ∷ gs) h = ((λ e. cc), some gs h)

none_empty : (gs : List (List PlainMatcher)) → AllByRecursion (λ g. g ≢ []) gs → NoneEmpty gs
none_empty [] h = tt
none_empty ([] ∷ gs) h = absurd (h.0 refl)
none_empty ((c ∷ cs) ∷ gs) h = none_empty gs h.1

pub grouped : (cs : PlainMatchers) → AreGroups cs → AreGrouped cs
grouped (plain_matchers cs []) h = tt
grouped (plain_matchers [] (i ∷ [])) h = absurd h
grouped (plain_matchers [] (i ∷ j ∷ gs)) h = (refl, (λ e. cc), some (i ∷ j ∷ gs) h)
grouped (plain_matchers (c ∷ cs) (i ∷ gs)) h = absurd h

pub groups : (cs : PlainMatchers) → AreGrouped cs → AreGroups cs
groups (plain_matchers cs []) h = tt
groups (plain_matchers [] (i ∷ [])) h = absurd (h.1 refl)
groups (plain_matchers [] (i ∷ j ∷ gs)) h = none_empty (i ∷ j ∷ gs) h.2
groups (plain_matchers (c ∷ cs) (i ∷ gs)) h = let no : c ∷ cs ≡ [] = h.0 in cc
