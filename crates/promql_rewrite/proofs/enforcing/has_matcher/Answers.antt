use Rattle.std.proofs.Common.{◌∙◌, rules, tests}
use Rattle.std.proofs.lemmas.Iterator.{YieldsList-from_slice}
use Rattle.std.proofs.lemmas.Iterator.Search.{any_from_yields_List}
use Rattle.promql_label.specs.MatcherViews.{plain_matcher_of}
use Rattle.promql_ast.specs.Same.{matcher_eq}
use Rattle.promql_rewrite.proofs.enforcement.SameMatchers.{any_mapped}
use Rattle.promql_rewrite.proofs.enforcing.has_matcher.Goals as goal

pub returns : goal.returns
returns c =
    let matcher = plain_matcher_of c.args.matcher.now in
    let matchers = c.args.matchers.now in
    any_from_yields_List (λ x. matcher_eq matcher (plain_matcher_of x)) _ _ c.any.result c.any.ensures.ran (YieldsList-from_slice matchers cc) (λ x b q k. search (rules, tests))
    ∙ any_mapped (matcher_eq matcher) plain_matcher_of matchers
