use Rattle.std.proofs.Common.{◌∙◌, ap, arith, map, rules}
use Rattle.std.proofs.lemmas.List.{with_items_is}
use Rattle.promql_label.specs.MatcherViews.{plain_matcher_of}
use Rattle.promql_label.specs.PlainMatchers.{plain_matchers}
use Rattle.promql_rewrite.specs.Renaming.{renamed_matcher}
use Rattle.promql_rewrite.specs.Renamings.{renaming_of}
use Rattle.promql_rewrite.proofs.renamed.RenamedLists.{mapped_twice}
use Rattle.promql_ast.proofs.nodes.ChangedLists.{on_ok}
use Rattle.promql_rewrite.proofs.renaming.rename_matchers.Goals as goal

pub returns : goal.returns
returns c =
    let f = renamed_matcher (renaming_of c.args.renaming.now) in
    let groups = c.args.matchers.now.or_matchers in
    on_ok c.rename_groups.result _ _
    (λ same.
    let each =
    ap (map (λ g. map plain_matcher_of g.items)) (with_items_is groups c.rename_groups.new.groups (omega arith))
    ∙ same
    ∙ ap (map (λ g. map f (map plain_matcher_of g.items))) (search rules)
    ∙ mapped_twice (λ g. map plain_matcher_of g.items) (map f) groups.items in
    λ i. plain_matchers (c.in_ok-rename_list.ensures i) (each i))
    c.rename_groups.ensures
