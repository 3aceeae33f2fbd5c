use Rattle.std.proofs.Common.{◌+◌, ◌∙◌, map, arith, rules}
use Rattle.std.proofs.lemmas.List.{drop-set-lt}
use Rattle.std.proofs.lemmas.Grind.{drop_more_same}
use Rattle.promql_label.specs.MatcherViews.{plain_matcher_of}
use Rattle.promql_rewrite.specs.Enforcing.{with_matcher}
use Rattle.promql_ast.proofs.nodes.ChangedLists.{all_done, left_same, one_more}
use Rattle.promql_rewrite.proofs.enforcing.enforce_groups.Goals as goal

pub loop-i-preserved : goal.loop-i-preserved
loop-i-preserved c = record {
  left = drop-set-lt (c.loop-i.i + 1) c.loop-i.groups c.loop-i.i _ (omega arith) ∙ drop_more_same _ _ c.loop-i.i c.loop-i.invariant.left;
  done =
      one_more (λ g. map plain_matcher_of g.items) (λ g. with_matcher (plain_matcher_of c.args.matcher.now) (map plain_matcher_of g.items)) c.loop-i.groups c.args.groups.now c.loop-i.i
      c.index-groups-i.result c.enforce_list.new.matchers (search rules) c.loop-i.auto.groups
      (left_same c.loop-i.groups c.args.groups.now c.loop-i.i c.index-groups-i.result (search rules) c.loop-i.auto.groups c.loop-i.invariant.left) (search rules) c.loop-i.invariant.done;
}

pub returns : goal.returns
returns c =
    all_done (λ g. map plain_matcher_of g.items) (λ g. with_matcher (plain_matcher_of c.args.matcher.now) (map plain_matcher_of g.items)) c.loop-i.groups c.args.groups.now c.loop-i.i
    (omega (arith, c.loop-i.auto.groups)) (omega arith) c.loop-i.invariant.done
