use Rattle.std.proofs.Common.{◌∙◌, rules, tests}
use Rattle.std.proofs.lemmas.Iterator.{YieldsList-from_slice}
use Rattle.std.proofs.lemmas.Iterator.Search.{any_from_yields_List}
use Rattle.promql_label.specs.MatcherViews.{plain_matcher_of}
use Rattle.promql_rewrite.specs.Patterns.{is_regex}
use Rattle.promql_rewrite.proofs.enforcement.SameMatchers.{any_mapped}
use Rattle.promql_rewrite.proofs.patterns.has_regex_among.Goals as goal

pub returns : goal.returns
returns c =
    let matchers = c.args.matchers.now in
    any_from_yields_List (λ x. is_regex (plain_matcher_of x)) _ _ c.any.result c.any.ensures.ran (YieldsList-from_slice matchers cc) (λ x b q k. search (rules, tests))
    ∙ any_mapped is_regex plain_matcher_of matchers
