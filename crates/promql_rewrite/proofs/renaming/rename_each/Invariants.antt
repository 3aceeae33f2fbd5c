use Rattle.std.proofs.Common.{◌≡◌, drop, map, take}
use Rattle.promql_label.specs.MatcherViews.{plain_matcher_of}
use Rattle.promql_rewrite.specs.Renaming.{renamed_matcher}
use Rattle.promql_rewrite.specs.Renamings.{renaming_of}
use Rattle.promql_rewrite.proofs.renaming.rename_each.Given as goal

abbrev pub invariant-loop-i : goal.invariant-loop-i
invariant-loop-i l = record {
  left : drop l.i l.matchers ≡ drop l.i l.fn.matchers;
  done : map plain_matcher_of (take l.i l.matchers) ≡ map (λ m. renamed_matcher (renaming_of l.renaming) (plain_matcher_of m)) (take l.i l.fn.matchers);
}
