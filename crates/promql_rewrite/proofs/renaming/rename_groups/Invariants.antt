use Rattle.std.proofs.Common.{◌≡◌, drop, map, take}
use Rattle.promql_label.specs.MatcherViews.{plain_matcher_of}
use Rattle.promql_rewrite.specs.Renaming.{renamed_matcher}
use Rattle.promql_rewrite.specs.Renamings.{renaming_of}
use Rattle.promql_rewrite.proofs.renaming.rename_groups.Given as goal

abbrev pub invariant-loop-i : goal.invariant-loop-i
invariant-loop-i l = record {
  left : drop l.i l.groups ≡ drop l.i l.fn.groups;
  done : map (λ g. map plain_matcher_of g.items) (take l.i l.groups) ≡ map (λ g. map (renamed_matcher (renaming_of l.renaming)) (map plain_matcher_of g.items)) (take l.i l.fn.groups);
}
