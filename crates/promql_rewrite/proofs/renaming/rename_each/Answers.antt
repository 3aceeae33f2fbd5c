use Rattle.std.proofs.Common.{◌+◌, ◌∙◌, arith, rules}
use Rattle.std.proofs.lemmas.List.{drop-set-lt}
use Rattle.std.proofs.lemmas.Grind.{drop_more_same}
use Rattle.promql_label.specs.MatcherViews.{plain_matcher_of}
use Rattle.promql_rewrite.specs.Renaming.{renamed_matcher}
use Rattle.promql_rewrite.specs.Renamings.{renaming_of}
use Rattle.promql_ast.proofs.nodes.ChangedLists.{all_done, left_same, one_more}
use Rattle.promql_rewrite.proofs.renaming.rename_each.Goals as goal

pub loop-i-preserved : goal.loop-i-preserved
loop-i-preserved c = record {
  left = drop-set-lt (c.loop-i.i + 1) c.loop-i.matchers c.loop-i.i _ (omega arith) ∙ drop_more_same _ _ c.loop-i.i c.loop-i.invariant.left;
  done =
      one_more plain_matcher_of (λ m. renamed_matcher (renaming_of c.args.renaming.now) (plain_matcher_of m)) c.loop-i.matchers c.args.matchers.now c.loop-i.i
      c.index-matchers-i.result c.rename_matcher.new.matcher (search rules) c.loop-i.auto.matchers
      (left_same c.loop-i.matchers c.args.matchers.now c.loop-i.i c.index-matchers-i.result (search rules) c.loop-i.auto.matchers c.loop-i.invariant.left) (search rules) c.loop-i.invariant.done;
}

pub returns : goal.returns
returns c =
    all_done plain_matcher_of (λ m. renamed_matcher (renaming_of c.args.renaming.now) (plain_matcher_of m)) c.loop-i.matchers c.args.matchers.now c.loop-i.i
    (omega (arith, c.loop-i.auto.matchers)) (omega arith) c.loop-i.invariant.done
