use Rattle.std.proofs.Common.{◌↔◌, Global, Vec, map, refl, rules, subst, sym, true≢false}
use Rattle.std.proofs.lemmas.List.{drop_all}
use Rattle.promql_label.specs.MatcherViews.{plain_matcher_of}
use Rattle.promql_label.specs.declared.matcher.Matcher.{Matcher}
use Rattle.promql_rewrite.specs.PrintableNodes.{NoneEmpty}
use Rattle.promql_rewrite.proofs.readback.NoneEmptyGroups.{one_empty, one_more}
use Rattle.promql_rewrite.proofs.reasons.have_matchers.Goals as goal

pub loop-group-preserved : goal.loop-group-preserved
loop-group-preserved c =
    one_more (λ (g : Vec Matcher Global). g.items) plain_matcher_of c.args.groups.now c.loop-group.group-index c.group-item.result c.loop-group-test.true c.group-item.is
    (search rules) c.loop-group.invariant

pub returns-then-is_empty : goal.returns-then-is_empty
returns-then-is_empty c = (
  λ yes. absurd (true≢false (sym yes)),
  λ some. absurd (
      one_empty (λ (g : Vec Matcher Global). g.items) plain_matcher_of c.args.groups.now c.loop-group.group-index c.group-item.result c.loop-group-test.true c.group-item.is
      (search rules) c.loop-group.invariant some),
)

pub returns : goal.returns
returns c =
    let k = subst (λ gs. NoneEmpty (map (λ g. map plain_matcher_of g.items) gs) ↔ NoneEmpty (map (λ g. map plain_matcher_of g.items) c.args.groups.now))
    (drop_all c.loop-group.group-index c.args.groups.now c.loop-group-test.false) c.loop-group.invariant in
    (λ yes. k.0 tt, λ some. refl)
