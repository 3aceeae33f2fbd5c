use Rattle.std.proofs.Common.{◌≡◌, refl, ◌∙◌, ap}
use Rattle.std.specs.Ordering.{nat_cmp}
use Rattle.std.proofs.lemmas.Iterator.Consumers.{YieldsList-from_first}
use Rattle.std.proofs.lemmas.Iterator.Search.{cmp_from_yields_List}
use Rattle.promql_label.specs.MatcherBytes.{left_of_test}
use Rattle.promql_label.proofs.sorted.compare_tests.Goals as goal

pub returns : goal.returns
returns c =
    cmp_from_yields_List (λ x y. y ≡ x) _ nat_cmp _ c.cmp.ensures.ran
    (YieldsList-from_first (λ x. x) left_of_test _ c.new.ensures)
    (λ it e. YieldsList-from_first (λ x. x) left_of_test _ (ap left_of_test e ∙ c.new-2.ensures)) (λ x y. refl)
