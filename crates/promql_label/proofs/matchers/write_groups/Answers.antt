use Rattle.std.proofs.Common.{map}
use Rattle.promql_label.specs.PlainMatchers.{group_text}
use Rattle.promql_label.specs.MatcherViews.{plain_matcher_of}
use Rattle.promql_label.proofs.matchers.write_groups.Goals as goal

pub returns : goal.returns
returns g c = c.write_joined_by.ensures.styled (λ group. group_text (map plain_matcher_of group.items)) (λ _ _ _ _ writes. writes)
