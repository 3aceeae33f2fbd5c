use Rattle.std.proofs.Common.{ap, map, is_lt}
use Rattle.std.proofs.lemmas.List.Sorted.{answers_always}
use Rattle.std.proofs.lemmas.Result.{on_ok_weaker}
use Rattle.promql_label.specs.PlainMatchers.{plain_matchers}
use Rattle.promql_label.specs.MatcherViews.{plain_matcher_of}
use Rattle.promql_label.proofs.order.SortedMatchers.{is_before, texts_rank, sort_gives_sorted_matchers}
use Rattle.promql_label.proofs.matchers.Matchers.sort.Goals as goal

pub returns-clause-sorted : goal.returns-clause-sorted
returns-clause-sorted c =
    let compares = answers_always _ _ _ (λ f a r f' k. ap is_lt k.met) in
    let stable = c.sort_by.ensures.stable is_before texts_rank compares in
    on_ok_weaker c.sort_by.result
    (λ sorted. ap (λ ms. plain_matchers ms (map (λ g. map plain_matcher_of g.items) c.args.self.now.or_matchers.items))
    (sort_gives_sorted_matchers _ _ (sorted is_before texts_rank compares) stable))
    c.sort_by.ensures.sorted
