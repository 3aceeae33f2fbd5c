use Rattle.std.proofs.Common.{◌≡◌, map, take}
use Rattle.promql_ast.specs.View.{tree_of}
use Rattle.promql_rewrite.specs.MappedSelectors.{MapsAll}
use Rattle.promql_rewrite.specs.Mapping.{outline}
use Rattle.promql_rewrite.proofs.mapped.MappedLists.{in_front}
use Rattle.promql_rewrite.proofs.mapping.+map.Given as goal

abbrev pub invariant-map_args-loop-i : goal.invariant-map_args-loop-i
invariant-map_args-loop-i g l = record {
  unvisited : goal.unvisited-map_args-loop-i g l;
  outlines : map (λ b. outline (tree_of b.value)) (take l.i l.args) ≡ map (λ b. outline (tree_of b.value)) (take l.i l.fn.args);
  mapped : MapsAll g.V.SelectorMapper.map_gives (in_front (λ b. tree_of b.value) l.kind l.others l.i l.fn.args) (in_front (λ b. tree_of b.value) l.kind l.others l.i l.args) l.fn.mapper l.mapper;
}

abbrev pub invariant-map_children-loop-i : goal.invariant-map_children-loop-i
invariant-map_children-loop-i g l = record {
  unvisited : goal.unvisited-map_children-loop-i g l;
  outlines : map (λ e. outline (tree_of e)) (take l.i l.children) ≡ map (λ e. outline (tree_of e)) (take l.i l.fn.children);
  mapped : MapsAll g.V.SelectorMapper.map_gives (in_front tree_of l.kind l.kind l.i l.fn.children) (in_front tree_of l.kind l.kind l.i l.children) l.fn.mapper l.mapper;
}
