use Rattle.std.proofs.Common.{◌↔◌, drop, map}
use Rattle.promql_label.specs.MatcherViews.{plain_matcher_of}
use Rattle.promql_rewrite.specs.PrintableNodes.{NoneEmpty}
use Rattle.promql_rewrite.proofs.reasons.have_matchers.Given as goal

abbrev pub invariant-loop-group : goal.invariant-loop-group
invariant-loop-group l = NoneEmpty (map (λ g. map plain_matcher_of g.items) (drop l.group-index l.groups)) ↔ NoneEmpty (map (λ g. map plain_matcher_of g.items) l.groups)
