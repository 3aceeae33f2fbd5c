use Rattle.std.proofs.Common.{◌∙◌, rules, tests}
use Rattle.std.proofs.lemmas.Iterator.{YieldsList-from_slice}
use Rattle.std.proofs.lemmas.Iterator.Search.{any_from_yields_List}
use Rattle.promql_span.specs.DifferenceSteps.{matched}
use Rattle.promql_span.specs.Differences.{clash}
use Rattle.promql_span.proofs.DifferenceRows.{any_map}
use Rattle.promql_span.proofs.differences.clashes_with_any.Goals as goal

pub returns : goal.returns
returns c =
    let others = c.args.others.now in
    any_from_yields_List (λ x. clash (matched c.args.one) (matched x)) _ _ c.any.result c.any.ensures.ran (YieldsList-from_slice others cc) (λ x b q k. search (rules, tests))
    ∙ any_map (clash (matched c.args.one)) matched others
