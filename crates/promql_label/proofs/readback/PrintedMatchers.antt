-- The text of a list of matchers, with groups and without.
use Rattle.std.proofs.Common.{◌≡◌, ◌==◌, true, false, List, [], ◌∷◌, length, map, codes, refl, ap, sym, arith}
use Rattle.std.proofs.lemmas.Bool.{eqb-true}
use Rattle.std.proofs.lemmas.Simd.{map-map}
use Rattle.promql_label.specs.PlainMatchers.{PlainMatcher, plain_matchers, matcher_text, matchers_text, group_text}
use Rattle.promql_label.specs.SortedTexts.{sorted_texts}
use Rattle.promql_text.specs.Texts.{joined_text}

pub text_without_groups : {G : Type 0} (f : G → List PlainMatcher) (plain : List PlainMatcher) (gs : List G) → (length gs == 0) ≡ true
    → joined_text (codes ",") (sorted_texts (map matcher_text plain)) ≡ matchers_text (plain_matchers plain (map f gs))
text_without_groups f plain [] none = refl
text_without_groups f plain (g ∷ gs) none = let empty = eqb-true (length (g ∷ gs)) 0 none in absurd (omega arith)

pub text_of_groups : {G : Type 0} (f : G → List PlainMatcher) (plain : List PlainMatcher) (gs : List G) → (length gs == 0) ≡ false
    → joined_text (codes " or ") (map (λ g. group_text (f g)) gs) ≡ matchers_text (plain_matchers plain (map f gs))
text_of_groups f plain [] some = cc
text_of_groups f plain (g ∷ gs) some = ap (joined_text (codes " or ")) (sym (map-map group_text f (g ∷ gs)))
