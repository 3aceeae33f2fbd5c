-- Whether two matchers are the same is decided by their parts.
use Rattle.std.proofs.Common.{◌≡◌, ◌↔◌, refl, sym, ap, Bool, IsTrue, true, false, ◌||◌, List, [], ◌∷◌, map}
use Rattle.std.specs.Bool.{Decides}
use Rattle.std.specs.List.{list_any}
use Rattle.std.proofs.lemmas.Bool.Decides.{Decides-and, Decides-like}
use Rattle.std.proofs.lemmas.Slice.Eq.{bytes_eq-Decides}
use Rattle.promql_label.specs.PlainMatchers.{Operator, equal, not_equal, matches, matches_not, PlainMatcher, plain_matcher}
use Rattle.promql_ast.specs.Same.{matcher_eq, operator_eq}

operator_Decides : (a b : Operator) → Decides (operator_eq a b) (a ≡ b)
operator_Decides equal equal = ((λ _. refl), (λ _. refl))
operator_Decides not_equal not_equal = ((λ _. refl), (λ _. refl))
operator_Decides (matches w) (matches v) = Decides-like _ (λ e. ap matches e) (λ e. cc) (bytes_eq-Decides w v)
operator_Decides (matches_not w) (matches_not v) = Decides-like _ (λ e. ap matches_not e) (λ e. cc) (bytes_eq-Decides w v)
operator_Decides _ _ = ((λ h. cc), (λ h. cc))

pub matcher_Decides : (a b : PlainMatcher) → Decides (matcher_eq a b) (a ≡ b)
matcher_Decides (plain_matcher o n v) (plain_matcher p m w) =
    Decides-like _ (λ same. let op = same.0 in let name = same.1.0 in let value = same.1.1 in cc) (λ e. (cc, (cc, cc)))
    (Decides-and _ _ (operator_Decides o p) (Decides-and _ _ (bytes_eq-Decides n m) (bytes_eq-Decides v w)))

pub any_mapped : {X Y : Type 0} (p : Y → Bool) (f : X → Y) (xs : List X) → list_any (λ x. p (f x)) xs ≡ list_any p (map f xs)
any_mapped p f [] = refl
any_mapped p f (x ∷ xs) = ap (λ b. p (f x) || b) (any_mapped p f xs)

-- two tests that decide one fact are one
pub same_test : {P : Type 0} (a b : Bool) → IsTrue a ↔ P → IsTrue b ↔ P → a ≡ b
same_test true true d e = refl
same_test false false d e = refl
same_test true false d e = sym (e.1 (d.0 refl))
same_test false true d e = d.1 (e.0 refl)
