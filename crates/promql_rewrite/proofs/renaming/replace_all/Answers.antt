use Rattle.std.proofs.Common.{◌∙◌, ap, arith, map, string_bytes}
use Rattle.std.proofs.lemmas.List.{with_items_is}
use Rattle.promql_rewrite.specs.Renaming.{replaced}
use Rattle.promql_rewrite.proofs.renamed.RenamedLists.{mapped_twice}
use Rattle.promql_ast.proofs.nodes.ChangedLists.{on_ok}
use Rattle.promql_rewrite.proofs.renaming.replace_all.Goals as goal

pub returns : goal.returns
returns c =
    let f = replaced c.args.renaming.now.from.now c.args.renaming.now.to.now in
    let names = c.args.names.now in
    on_ok c.replace_each.result _ _
    (λ same.
    ap (map string_bytes) (with_items_is names c.replace_each.new.names (omega arith))
    ∙ same
    ∙ ap (map (λ s. f (string_bytes s))) c.as_mut_slice.ensures.value
    ∙ mapped_twice string_bytes f names.items)
    c.replace_each.ensures
