use Rattle.std.proofs.Common.{◌∙◌, ap, sym}
use Rattle.promql_ast.specs.View.{tree_of}
use Rattle.promql_ast.proofs.nodes.NodeParts.{tree_of_aggregate, tree_of_call}
use Rattle.promql_rewrite.specs.CollectedNames.{names_of, own_names}
use Rattle.promql_rewrite.proofs.names.AppendedNames.{joined_as, names_more, unchanged}
use Rattle.promql_ast.proofs.nodes.ChangedLists.{on_ok}
use Rattle.promql_rewrite.proofs.collecting.push_own.Goals as goal

pub returns-in-Aggregate : goal.returns-in-Aggregate
returns-in-Aggregate c =
    let found = c.args.found.now in
    on_ok c.push_clause.result _ _
    (λ more.
    joined_as (names_of found) _ _ _ (sym (ap own_names (ap tree_of c.in-Aggregate.is ∙ tree_of_aggregate c.in-Aggregate.e)))
    (names_more (names_of found) _ _ (unchanged _) more (unchanged _) (unchanged _)))
    c.push_clause.ensures

pub returns-in-Binary : goal.returns-in-Binary
returns-in-Binary c =
    let found = c.args.found.now in
    on_ok c.push_modifier.result _ _
    (λ more. joined_as (names_of found) _ _ _ (sym (ap own_names (ap tree_of c.in-Binary.is))) (names_more (names_of found) _ _ (unchanged _) more (unchanged _) (unchanged _)))
    c.push_modifier.ensures

pub returns-in-Call : goal.returns-in-Call
returns-in-Call c =
    let found = c.args.found.now in
    on_ok c.push_name.result _ _
    (λ more. joined_as (names_of found) _ _ _ (sym (ap own_names (ap tree_of c.in-Call.is ∙ tree_of_call c.in-Call.e))) (names_more (names_of found) _ _ (unchanged _) (unchanged _) more (unchanged _)))
    c.push_name.ensures
