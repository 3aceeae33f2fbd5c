use Rattle.std.proofs.Common.{rules}
use Rattle.promql_label.specs.MatcherViews.{plain_matcher_of}
use Rattle.promql_rewrite.proofs.matcher_text.enforce_text.Goals as goal

pub returns-in-Err-Info-clause-info : goal.returns-in-Err-Info-clause-info
returns-in-Err-Info-clause-info c = λ is. ((plain_matcher_of c.in-Ok.matcher, c.in-Ok.ensures.ok), (c.enforce.ensures.info.0 (search rules)).1)
