use Rattle.std.proofs.Common.{◌∙◌, ap, arith, map}
use Rattle.std.proofs.lemmas.List.{with_items_is}
use Rattle.promql_label.specs.MatcherViews.{plain_matcher_of}
use Rattle.promql_rewrite.specs.Renaming.{renamed_matcher}
use Rattle.promql_rewrite.specs.Renamings.{renaming_of}
use Rattle.promql_rewrite.proofs.renamed.RenamedLists.{mapped_twice}
use Rattle.promql_ast.proofs.nodes.ChangedLists.{on_ok}
use Rattle.promql_rewrite.proofs.renaming.rename_list.Goals as goal

pub returns : goal.returns
returns c =
    let f = renamed_matcher (renaming_of c.args.renaming.now) in
    let matchers = c.args.matchers.now in
    on_ok c.rename_each.result _ _
    (λ same.
    ap (map plain_matcher_of) (with_items_is matchers c.rename_each.new.matchers (omega arith))
    ∙ same
    ∙ ap (map (λ m. f (plain_matcher_of m))) c.as_mut_slice.ensures.value
    ∙ mapped_twice plain_matcher_of f matchers.items)
    c.rename_each.ensures
