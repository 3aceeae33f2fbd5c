use Rattle.std.proofs.Common.{◌∙◌, ap, is_some}
use Rattle.promql_label.specs.MatcherViews.{plain_matchers_of}
use Rattle.promql_label.specs.PlainMatchers.{every}
use Rattle.promql_rewrite.proofs.rules_broken.ListedNodes.{some_found, some_mapped}
use Rattle.promql_rewrite.proofs.clashing.is_in_matchers.Goals as goal

pub returns : goal.returns
returns c =
    c.is_some.ensures
    ∙ some_mapped (λ v. v.now) c.find_matcher_value.result
    ∙ ap is_some c.find_matcher_value.ensures
    ∙ some_found c.args.label.now (every (plain_matchers_of c.args.matchers.now))
