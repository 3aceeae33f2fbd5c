use Rattle.std.proofs.Common.{◌≡◌, ◌∙◌, ℕ, ap, arith, map, Vec, Global}
use Rattle.std.specs.List.{sum_by}
use Rattle.std.proofs.lemmas.List.{take_all}
use Rattle.std.proofs.lemmas.List.Sums.{sum_by_more}
use Rattle.promql_label.specs.MatcherViews.{plain_matcher_of}
use Rattle.promql_label.specs.declared.matcher.Matcher.{Matcher}
use Rattle.promql_text.specs.PrintedLen.{cap_usize}
use Rattle.promql_rewrite.specs.AddedBytes.{added_to_list}
use Rattle.promql_rewrite.proofs.enforcement.EnforcedLengths.{sum_mapped}
use Rattle.promql_rewrite.proofs.enforced_len.added_to_groups.Goals as goal

pub loop-group-preserved : goal.loop-group-preserved
loop-group-preserved c =
    let to : Vec Matcher Global → ℕ = λ (g : Vec Matcher Global). added_to_list 0 2 c.args.len (plain_matcher_of c.args.matcher.now) (map plain_matcher_of g.items) in
    let own : c.added_to_list.result ≡ cap_usize (to c.group-item.result) =
    c.added_to_list.ensures ∙ ap (λ ms. cap_usize (added_to_list 0 2 c.args.len (plain_matcher_of c.args.matcher.now) (map plain_matcher_of ms))) c.deref.ensures.value in
    omega (arith, c.loop-group.invariant, c.saturating_add-total.ensures, own, ap to c.group-item.is, sum_by_more to c.args.groups.now c.loop-group.group-index c.group-item.result c.loop-group-test.true)

pub returns : goal.returns
returns c =
    let to = λ (g : Vec Matcher Global). added_to_list 0 2 c.args.len (plain_matcher_of c.args.matcher.now) (map plain_matcher_of g.items) in
    c.loop-group.invariant
    ∙ ap cap_usize (ap (sum_by to) (take_all c.loop-group.group-index c.args.groups.now c.loop-group-test.false)
    ∙ sum_mapped (added_to_list 0 2 c.args.len (plain_matcher_of c.args.matcher.now)) (λ g. map plain_matcher_of g.items) c.args.groups.now)
