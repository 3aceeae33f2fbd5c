use Rattle.std.proofs.Common.{◌∙◌, ap, arith, map, rules}
use Rattle.std.proofs.lemmas.List.{with_items_is}
use Rattle.promql_label.specs.MatcherViews.{plain_matcher_of}
use Rattle.promql_label.specs.PlainMatchers.{plain_matchers}
use Rattle.promql_rewrite.specs.Enforcing.{with_matcher}
use Rattle.promql_ast.proofs.nodes.ChangedLists.{on_ok}
use Rattle.promql_rewrite.proofs.readback.TreeRows.{groups_enforced}
use Rattle.promql_rewrite.proofs.enforcing.enforce_matchers.Goals as goal

pub returns-else-is_empty : goal.returns-else-is_empty
returns-else-is_empty c =
    let m = plain_matcher_of c.args.matcher.now in
    let cs = map plain_matcher_of c.args.matchers.now.matchers.items in
    let groups = c.args.matchers.now.or_matchers in
    on_ok c.enforce_groups.result _ _
    (λ same.
    ap (plain_matchers cs)
    (ap (map (λ g. map plain_matcher_of g.items)) (with_items_is groups c.enforce_groups.new.groups (omega arith)) ∙ same ∙ ap (map (λ g. with_matcher m (map plain_matcher_of g.items))) (search rules))
    ∙ groups_enforced m cs (λ g. map plain_matcher_of g.items) groups.items (search rules))
    c.enforce_groups.ensures
