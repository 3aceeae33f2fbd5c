-- Groups of which each has the matcher.
use Rattle.std.proofs.Common.{◌≡◌, List, [], ◌∷◌, length, map, refl, ap}
use Rattle.std.specs.Prelude.{◌==◌, false}
use Rattle.promql_label.specs.PlainMatchers.{PlainMatcher, plain_matchers}
use Rattle.promql_rewrite.specs.Enforcing.{enforced_matchers, with_matcher}

groups_mapped : {X : Type 0} (c : PlainMatcher) (f : X → List PlainMatcher) (gs : List X) → map (λ g. with_matcher c (f g)) gs ≡ map (with_matcher c) (map f gs)
groups_mapped c f [] = refl
groups_mapped c f (g ∷ gs) = ap (λ hs. with_matcher c (f g) ∷ hs) (groups_mapped c f gs)

-- groups of which each has the matcher
pub groups_enforced : {X : Type 0} (c : PlainMatcher) (cs : List PlainMatcher) (f : X → List PlainMatcher) (gs : List X) → (length gs == 0) ≡ false
    → plain_matchers cs (map (λ g. with_matcher c (f g)) gs) ≡ enforced_matchers c (plain_matchers cs (map f gs))
groups_enforced c cs f [] some = cc
groups_enforced c cs f (g ∷ gs) some = ap (plain_matchers cs) (groups_mapped c f (g ∷ gs))
