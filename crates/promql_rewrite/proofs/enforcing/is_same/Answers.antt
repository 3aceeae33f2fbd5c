use Rattle.std.proofs.Common.{◌∙◌}
use Rattle.promql_label.specs.MatcherViews.{plain_matcher_of}
use Rattle.promql_rewrite.proofs.enforcement.SameMatchers.{matcher_Decides, same_test}
use Rattle.promql_rewrite.proofs.enforcing.is_same.Goals as goal

pub returns : goal.returns
returns c =
    c.eq.ensures
    ∙ same_test _ _ (c.equal_matchers.ensures.same c.args.one.now c.args.other.now) (matcher_Decides (plain_matcher_of c.args.one.now) (plain_matcher_of c.args.other.now))
