-- Writing the last group of a list is growing the list.
use Rattle.std.proofs.Common.{arith, ◌≡◌, ℕ, suc, zero, List, [], ◌∷◌, ◌++◌, length, get_or, set, map, ap, ◌∙◌}
use Rattle.promql_label.specs.PlainMatchers.{PlainMatcher, plain_matchers, grown, append_plain}

-- a list whose last group got one more is the grown list
pub grown_set : {G : Type 0} (f : G → List PlainMatcher) (gs : List G) (i : ℕ) (g old : G) (c : PlainMatcher) →
    length gs ≡ suc i → old ≡ get_or gs i old → f g ≡ f old ++ c ∷ [] → map f (set gs i g) ≡ grown (map f gs) c
grown_set f [] i g old c e is more = cc
grown_set f (x ∷ []) zero g old c e is more = ap (λ h. h ∷ []) (more ∙ ap (λ h. f h ++ c ∷ []) is)
grown_set f (x ∷ []) (suc i) g old c e is more = absurd (omega arith)
grown_set f (x ∷ y ∷ gs) zero g old c e is more = absurd (omega arith)
grown_set f (x ∷ y ∷ gs) (suc i) g old c e is more =
    ap (λ hs. f x ∷ hs) (grown_set f (y ∷ gs) i g old c (omega arith) is more)

-- where there are groups, the list with one more in the last
pub appended_set : {G : Type 0} (f : G → List PlainMatcher) (plain : List PlainMatcher) (gs : List G) (i : ℕ) (g old : G)
    (c : PlainMatcher) → length gs ≡ suc i → old ≡ get_or gs i old → f g ≡ f old ++ c ∷ [] →
    plain_matchers plain (map f (set gs i g)) ≡ append_plain (plain_matchers plain (map f gs)) c
appended_set f plain [] i g old c e is more = cc
appended_set f plain (x ∷ gs) i g old c e is more = ap (plain_matchers plain) (grown_set f (x ∷ gs) i g old c e is more)

same_set : {G : Type 0} (f : G → List PlainMatcher) (gs : List G) (i : ℕ) (g old : G)
    → old ≡ get_or gs i old → f g ≡ f old → map f (set gs i g) ≡ map f gs
same_set f [] i g old is same = cc
same_set f (x ∷ gs) zero g old is same = ap (λ h. h ∷ map f gs) (same ∙ ap f is)
same_set f (x ∷ gs) (suc i) g old is same = ap (λ hs. f x ∷ hs) (same_set f gs i g old is same)

-- the list, where a group is set to one with the same matchers
pub kept_set : {G : Type 0} (f : G → List PlainMatcher) (plain : List PlainMatcher) (gs : List G) (i : ℕ) (g old : G)
    → old ≡ get_or gs i old → f g ≡ f old → plain_matchers plain (map f (set gs i g)) ≡ plain_matchers plain (map f gs)
kept_set f plain gs i g old is same = ap (plain_matchers plain) (same_set f gs i g old is same)
