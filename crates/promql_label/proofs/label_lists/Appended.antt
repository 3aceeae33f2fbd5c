-- A matcher that is appended comes after those of the last group.
use Rattle.std.proofs.Common.{◌≡◌, refl, ap, List, [], ◌∷◌, ◌++◌}
use Rattle.promql_label.specs.PlainMatchers.{PlainMatcher, append_plain, grown, plain_matchers}

grown_last : (groups : List (List PlainMatcher)) (g : List PlainMatcher) (c : PlainMatcher) → grown (groups ++ g ∷ []) c ≡ groups ++ (g ++ c ∷ []) ∷ []
grown_last [] g c = refl
grown_last (h ∷ []) g c = refl
grown_last (h ∷ k ∷ groups) g c = ap (λ gs. h ∷ gs) (grown_last (k ∷ groups) g c)

pub appended_last : (plain g : List PlainMatcher) (groups : List (List PlainMatcher)) (c : PlainMatcher)
    → append_plain (plain_matchers plain (groups ++ g ∷ [])) c ≡ plain_matchers plain (groups ++ (g ++ c ∷ []) ∷ [])
appended_last plain g [] c = refl
appended_last plain g (h ∷ groups) c = ap (plain_matchers plain) (grown_last (h ∷ groups) g c)
