-- Operators, matchers and lists are equal exactly if they are seen as the same, and then they are hashed alike.
use Rattle.std.proofs.Common.{Bool, [], ◌∷◌, map, ap, Vec, Global, refl, string_bytes}
use lib.Pointwise.{pointwise}
use Rattle.std.proofs.lemmas.Bool.Decides.{Decides-and, Decides-like}
use Rattle.std.proofs.lemmas.Slice.Eq.{bytes_eq-Decides}
use Rattle.promql_label.specs.declared.matcher.MatchOp.TheVariants.{Equal, NotEqual, Re, NotRe}
use Rattle.promql_label.specs.contracts.matcher.MatchOpPartialEq.TheImpl as operators
use Rattle.promql_label.specs.contracts.matcher.MatchOpHash.TheImpl as operator_hashes
use Rattle.promql_label.specs.contracts.matcher.MatchOpHash.TheImpl.Laws as operator_laws
use Rattle.promql_label.specs.contracts.matcher.MatcherPartialEq.TheImpl as matchers
use Rattle.promql_label.specs.contracts.matcher.MatcherHash.TheImpl as matcher_hashes
use Rattle.promql_label.specs.contracts.matcher.MatcherHash.TheImpl.Laws as matcher_laws
use Rattle.promql_label.specs.contracts.matchers.MatchersPartialEq.TheImpl as lists
use Rattle.promql_label.specs.declared.matcher.Matcher.{Matcher}
use Rattle.promql_label.specs.PlainMatchers.{matches, matches_not}
use Rattle.promql_text.specs.Equalities.{HashesAlike, IsSameBy}
use Rattle.promql_label.specs.MatcherViews.{plain_matcher_of, plain_matchers_of, operator_of}

pub operator_Decides : IsSameBy operator_of operators.ghosts.eq
operator_Decides Equal Equal = ((λ _. refl), (λ _. refl))
operator_Decides Equal NotEqual = ((λ h. cc), (λ h. cc))
operator_Decides Equal (Re q) = ((λ h. cc), (λ h. cc))
operator_Decides Equal (NotRe q) = ((λ h. cc), (λ h. cc))
operator_Decides NotEqual Equal = ((λ h. cc), (λ h. cc))
operator_Decides NotEqual NotEqual = ((λ _. refl), (λ _. refl))
operator_Decides NotEqual (Re q) = ((λ h. cc), (λ h. cc))
operator_Decides NotEqual (NotRe q) = ((λ h. cc), (λ h. cc))
operator_Decides (Re p) Equal = ((λ h. cc), (λ h. cc))
operator_Decides (Re p) NotEqual = ((λ h. cc), (λ h. cc))
operator_Decides (Re p) (Re q) = Decides-like _ (λ e. ap matches e) (λ e. cc) (bytes_eq-Decides p q)
operator_Decides (Re p) (NotRe q) = ((λ h. cc), (λ h. cc))
operator_Decides (NotRe p) Equal = ((λ h. cc), (λ h. cc))
operator_Decides (NotRe p) NotEqual = ((λ h. cc), (λ h. cc))
operator_Decides (NotRe p) (Re q) = ((λ h. cc), (λ h. cc))
operator_Decides (NotRe p) (NotRe q) = Decides-like _ (λ e. ap matches_not e) (λ e. cc) (bytes_eq-Decides p q)

pub operator_hashes_alike : HashesAlike operator_of operator_hashes.ghosts.hash_input
operator_hashes_alike a b same = operator_laws.respects_eq-law a b ((operator_Decides a b).1 same)

pub matcher_Decides : IsSameBy plain_matcher_of matchers.ghosts.eq
matcher_Decides a b =
    Decides-like _
    (λ same. let op = same.0 in let name = same.1.0 in let value = same.1.1 in cc)
    (λ same. ((cc), ((cc), (cc))))
    (Decides-and _ _ (operator_Decides a.op b.op)
    (Decides-and _ _ (bytes_eq-Decides (string_bytes a.name) (string_bytes b.name))
    (bytes_eq-Decides (string_bytes a.value) (string_bytes b.value))))

pub matcher_hashes_alike : HashesAlike plain_matcher_of matcher_hashes.ghosts.hash_input
matcher_hashes_alike a b same = matcher_laws.respects_eq-law a b ((matcher_Decides a b).1 same)

-- two lists are the same item by item exactly if what they are seen as is the same
pub pointwise-map-Decides : {X Y : Type 0} (view : X → Y) (test : X → X → Bool) → IsSameBy view test →
    IsSameBy (map view) (pointwise test)
pointwise-map-Decides view test each [] [] = ((λ _. refl), (λ _. refl))
pointwise-map-Decides view test each [] (y ∷ ys) = ((λ h. cc), (λ h. cc))
pointwise-map-Decides view test each (x ∷ xs) [] = ((λ h. cc), (λ h. cc))
pointwise-map-Decides view test each (x ∷ xs) (y ∷ ys) =
    Decides-like _
    (λ same. let head = same.0 in let tail = same.1 in cc)
    (λ same. ((cc), (cc)))
    (Decides-and _ _ (each x y) (pointwise-map-Decides view test each xs ys))

pub list_Decides : IsSameBy plain_matchers_of lists.ghosts.eq
list_Decides a b =
    let plain = pointwise-map-Decides plain_matcher_of matchers.ghosts.eq matcher_Decides in
    let group : IsSameBy (λ (g : Vec Matcher Global). map plain_matcher_of g.items) (λ x y. pointwise matchers.ghosts.eq x.items y.items) = λ x y. plain x.items y.items in
    Decides-like _
    (λ same. let all = same.0 in let groups = same.1 in cc)
    (λ same. ((cc), (cc)))
    (Decides-and _ _ (plain a.matchers.items b.matchers.items)
    (pointwise-map-Decides _ _ group a.or_matchers.items b.or_matchers.items))
