use Rattle.std.proofs.Common.{◌∙◌}
use Rattle.std.proofs.lemmas.List.{map-id}
use Rattle.promql_ast.specs.View.{tree_of}
use Rattle.promql_rewrite.specs.Mapping.{selectors_of}
use Rattle.promql_rewrite.proofs.mapped.MappedLists.{maps_by, maps_tree, tree_fails, tree_well}
use Rattle.promql_rewrite.proofs.mapped.MappedTrees.{same_trees}
use Rattle.promql_rewrite.proofs.mapping.map_selectors.Goals as goal

pub returns-in-Ok-clause-selectors : goal.returns-in-Ok-clause-selectors
returns-in-Ok-clause-selectors g c = tree_well g.V.SelectorMapper.map_gives (tree_of c.args.expr) (tree_of c.map_expr.new.expr) c.args.mapper.now c.map_expr.new.mapper c.in-Ok.ensures.selectors

pub returns-in-Ok-clause-by_function : goal.returns-in-Ok-clause-by_function
returns-in-Ok-clause-by_function g c = λ f each.
    maps_by g.V.SelectorMapper.map_gives f each (selectors_of (tree_of c.args.expr)) (selectors_of (tree_of c.map_expr.new.expr)) c.args.mapper.now c.map_expr.new.mapper
    (maps_tree g.V.SelectorMapper.map_gives (tree_of c.args.expr) (tree_of c.map_expr.new.expr) c.args.mapper.now c.map_expr.new.mapper c.in-Ok.ensures.selectors)

pub returns-in-Ok-clause-unchanged : goal.returns-in-Ok-clause-unchanged
returns-in-Ok-clause-unchanged g c = λ each.
    same_trees (tree_of c.map_expr.new.expr) (tree_of c.args.expr) c.in-Ok.ensures.outline
    (maps_by g.V.SelectorMapper.map_gives (λ _ s. s) each (selectors_of (tree_of c.args.expr)) (selectors_of (tree_of c.map_expr.new.expr)) c.args.mapper.now c.map_expr.new.mapper
    (maps_tree g.V.SelectorMapper.map_gives (tree_of c.args.expr) (tree_of c.map_expr.new.expr) c.args.mapper.now c.map_expr.new.mapper c.in-Ok.ensures.selectors)
    ∙ map-id (selectors_of (tree_of c.args.expr)))

pub returns-in-Err-clause-fails : goal.returns-in-Err-clause-fails
returns-in-Err-clause-fails g c = tree_fails g.V.SelectorMapper.map_gives (tree_of c.args.expr) _ c.args.mapper.now c.map_expr.new.mapper c.in-Err.ensures.selectors
