-- The derived hashes of labels, matchers and their lists feed what the definitions say.
use Rattle.std.proofs.Common.{◌≡◌, ◌++◌, map, Vec, Global, refl, string_bytes}
use Rattle.std.specs.Hash.{slice, str}
use Rattle.promql_label.specs.Labels.{labels_of}
use Rattle.promql_label.specs.MatcherFeeds.{labels_feed, matcher_feed, matchers_feed, operator_feed}
use Rattle.promql_label.specs.MatcherViews.{operator_of, plain_matcher_of, plain_matchers_of}
use Rattle.promql_label.specs.contracts.labels.LabelsHash.TheImpl as labels
use Rattle.promql_label.specs.contracts.matcher.MatchOpHash.TheImpl as operators
use Rattle.promql_label.specs.contracts.matcher.MatcherHash.TheImpl as matchers
use Rattle.promql_label.specs.contracts.matchers.MatchersHash.TheImpl as lists
use Rattle.promql_label.specs.declared.labels.Labels.{Labels}
use Rattle.promql_label.specs.declared.matcher.MatchOp.{MatchOp}
use Rattle.promql_label.specs.declared.matcher.MatchOp.TheVariants.{Equal, NotEqual, Re, NotRe}
use Rattle.promql_label.specs.declared.matcher.Matcher.{Matcher}
use Rattle.promql_label.specs.declared.matchers.Matchers.{Matchers}
use Rattle.promql_label.proofs.equality.FedLists.{slice_fed}

pub labels_fed : (x : Labels) → labels.ghosts.hash_input x ≡ labels_feed (labels_of x)
labels_fed x = slice_fed string_bytes str (λ s. str (string_bytes s)) (λ s. refl) x.labels.items

pub operator_fed : (op : MatchOp) → operators.ghosts.hash_input op ≡ operator_feed (operator_of op)
operator_fed Equal = refl
operator_fed NotEqual = refl
operator_fed (Re p) = refl
operator_fed (NotRe p) = refl

pub matcher_fed : (m : Matcher) → matchers.ghosts.hash_input m ≡ matcher_feed (plain_matcher_of m)
matcher_fed m = λ i. operator_fed m.op i ++ (str (string_bytes m.name) ++ str (string_bytes m.value))

pub matchers_fed : (m : Matchers) → lists.ghosts.hash_input m ≡ matchers_feed (plain_matchers_of m)
matchers_fed m =
    let plain = slice_fed plain_matcher_of matcher_feed matchers.ghosts.hash_input matcher_fed in
    let groups = slice_fed (λ (g : Vec Matcher Global). map plain_matcher_of g.items) (slice matcher_feed) (λ g. slice matchers.ghosts.hash_input g.items) (λ g. plain g.items) in
    λ i. plain m.matchers.items i ++ groups m.or_matchers.items i
