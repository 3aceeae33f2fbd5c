use Rattle.std.proofs.Common.{◌≡◌, ◌∙◌, sym, ap, arith, map, rules, slice_index_or, string_bytes}
use Rattle.std.specs.Box.{with_value}
use Rattle.std.proofs.lemmas.List.{with_items_is}
use Rattle.promql_kind.specs.Functions.{signature_of}
use Rattle.promql_ast.specs.Tree.{call, extension}
use Rattle.promql_ast.specs.View.{option_tree, tree_of, trees}
use Rattle.promql_rewrite.specs.Mapping.{all_outlines, outline}
use Rattle.promql_rewrite.specs.MappedSelectors.{param_selectors, selectors_in}
use Rattle.promql_rewrite.proofs.mapped.MappedLists.{fails_here, fails_in, kind_later, maps_more, maps_then, outlined_trees}
use Rattle.promql_ast.proofs.nodes.ChangedLists.{on_ok, one_more}
use Rattle.promql_rewrite.proofs.mapping.+map.Goals as goal

pub map_aggregate-returns-in-Ok-clause-selectors : goal.map_aggregate-returns-in-Ok-clause-selectors
map_aggregate-returns-in-Ok-clause-selectors g t c =
    let param : tree_of c.deref_mut.result.now ≡ tree_of c.in-Some.param.value = search rules in
    maps_then g.V.SelectorMapper.map_gives _ _ _ _ _ _ _ _ _ _
    (ap (selectors_in c.args.kind) param ∙ sym (ap (λ p. param_selectors c.args.kind (option_tree p)) c.in-Some.is))
    (ap (λ e. selectors_in c.args.kind (tree_of e)) c.deref_mut-in-Ok.ensures.value)
    c.in-Ok.ensures.selectors c.map_expr-in-Ok.ensures.selectors

pub map_aggregate-returns-in-Err-clause-selectors : goal.map_aggregate-returns-in-Err-clause-selectors
map_aggregate-returns-in-Err-clause-selectors g t c =
    let param : tree_of c.deref_mut.result.now ≡ tree_of c.in-Some.param.value = search rules in
    fails_in g.V.SelectorMapper.map_gives _ _ _ _ _ _
    (ap (selectors_in c.args.kind) param ∙ sym (ap (λ p. param_selectors c.args.kind (option_tree p)) c.in-Some.is))
    c.in-Err.ensures.selectors

pub map_binary-returns-in-Ok-clause-selectors : goal.map_binary-returns-in-Ok-clause-selectors
map_binary-returns-in-Ok-clause-selectors g t c =
    maps_then g.V.SelectorMapper.map_gives _ _ _ _ _ _ _ _ _ _
    (ap (λ e. selectors_in c.args.kind (tree_of e)) c.deref_mut.ensures.value)
    (ap (λ e. selectors_in c.args.kind (tree_of e)) c.deref_mut-in-Ok.ensures.value)
    c.in-Ok.ensures.selectors c.map_expr-in-Ok.ensures.selectors

pub map_binary-returns-in-Err-clause-selectors : goal.map_binary-returns-in-Err-clause-selectors
map_binary-returns-in-Err-clause-selectors g t c =
    fails_in g.V.SelectorMapper.map_gives _ _ _ _ _ _ (ap (λ e. selectors_in c.args.kind (tree_of e)) c.deref_mut.ensures.value) c.in-Err.ensures.selectors

pub map_call-returns-clause-outline : goal.map_call-returns-clause-outline
map_call-returns-clause-outline g t c =
    let args = c.args.node.now.args.args in
    on_ok c.map_args.result _ _
    (λ same.
    ap (call (signature_of c.args.node.now.func))
    (ap (λ bs. all_outlines (trees (map (λ b. tree_of b.value) bs))) (with_items_is args c.map_args.new.args (omega arith))
    ∙ outlined_trees (λ b. tree_of b.value) c.map_args.new.args
    ∙ ap trees (same ∙ ap (map (λ b. outline (tree_of b.value))) c.as_mut_slice.ensures.value)
    ∙ sym (outlined_trees (λ b. tree_of b.value) args.items)))
    c.map_args.ensures.outline

pub map_extension-returns-clause-outline : goal.map_extension-returns-clause-outline
map_extension-returns-clause-outline g t c =
    let children = c.args.node.now.children in
    on_ok c.map_children.result _ _
    (λ same.
    ap (extension (string_bytes c.args.node.now.name) c.args.node.now.value_type)
    (ap (λ es. all_outlines (trees (map tree_of es))) (with_items_is children c.map_children.new.children (omega arith))
    ∙ outlined_trees tree_of c.map_children.new.children
    ∙ ap trees (same ∙ ap (map (λ e. outline (tree_of e))) c.as_mut_slice.ensures.value)
    ∙ sym (outlined_trees tree_of children.items)))
    c.map_children.ensures.outline

pub map_args-loop-i-preserved : goal.map_args-loop-i-preserved
map_args-loop-i-preserved g t c =
    let left = c.loop-i.invariant.unvisited.1 c.loop-i.i c.index-args-i.result (omega arith) in
    let new = with_value (slice_index_or c.loop-i.args c.loop-i.i c.index-args-i.result) c.map_expr.new.expr in
    record {
      unvisited = search rules;
      outlines =
          one_more (λ b. outline (tree_of b.value)) (λ b. outline (tree_of b.value)) c.loop-i.args c.args.args.now c.loop-i.i
          c.index-args-i.result new (search rules) c.loop-i.auto.args left
          (c.in-Ok.ensures.outline ∙ ap (λ e. outline (tree_of e)) c.deref_mut.ensures.value) c.loop-i.invariant.outlines;
      mapped =
          maps_more g.V.SelectorMapper.map_gives (λ b. tree_of b.value) c.args.kind c.args.others c.loop-i.args c.args.args.now c.loop-i.i _ _ c.loop-i.invariant.mapped
          c.index-args-i.result _ _ (tree_of c.deref_mut.result.now) (search rules) c.loop-i.auto.args (c.index-args-i.is ∙ left) c.kind_at.ensures (search rules) new c.in-Ok.ensures.selectors;
    }

pub map_args-returns-in-Err-clause-selectors : goal.map_args-returns-in-Err-clause-selectors
map_args-returns-in-Err-clause-selectors g t c =
    let left = c.loop-i.invariant.unvisited.1 c.loop-i.i c.index-args-i.result (omega arith) in
    fails_here g.V.SelectorMapper.map_gives (λ b. tree_of b.value) c.args.kind c.args.others c.loop-i.args c.args.args.now c.loop-i.i _ _ c.loop-i.invariant.mapped
    c.index-args-i.result _ _ (tree_of c.deref_mut.result.now) (search rules) c.loop-i.auto.args (c.index-args-i.is ∙ left) c.kind_at.ensures (search rules) _ c.in-Err.ensures.selectors

pub map_children-loop-i-preserved : goal.map_children-loop-i-preserved
map_children-loop-i-preserved g t c =
    let left = c.loop-i.invariant.unvisited.1 c.loop-i.i c.index-children-i.result (omega arith) in
    record {
      unvisited = search rules;
      outlines =
          one_more (λ e. outline (tree_of e)) (λ e. outline (tree_of e)) c.loop-i.children c.args.children.now c.loop-i.i
          c.index-children-i.result c.map_expr.new.expr (search rules) c.loop-i.auto.children left
          (search (rules, c.in-Ok.ensures.outline)) c.loop-i.invariant.outlines;
      mapped =
          maps_more g.V.SelectorMapper.map_gives tree_of c.args.kind c.args.kind c.loop-i.children c.args.children.now c.loop-i.i _ _ c.loop-i.invariant.mapped
          c.index-children-i.result _ _ (tree_of (slice_index_or c.loop-i.children c.loop-i.i c.index-children-i.result)) (search rules) c.loop-i.auto.children (c.index-children-i.is ∙ left) (sym (kind_later c.loop-i.i c.args.kind)) (search rules) c.map_expr.new.expr c.in-Ok.ensures.selectors;
    }

pub map_children-returns-in-Err-clause-selectors : goal.map_children-returns-in-Err-clause-selectors
map_children-returns-in-Err-clause-selectors g t c =
    let left = c.loop-i.invariant.unvisited.1 c.loop-i.i c.index-children-i.result (omega arith) in
    fails_here g.V.SelectorMapper.map_gives tree_of c.args.kind c.args.kind c.loop-i.children c.args.children.now c.loop-i.i _ _ c.loop-i.invariant.mapped
    c.index-children-i.result _ _ (tree_of (slice_index_or c.loop-i.children c.loop-i.i c.index-children-i.result)) (search rules) c.loop-i.auto.children (c.index-children-i.is ∙ left) (sym (kind_later c.loop-i.i c.args.kind)) (search rules) _ c.in-Err.ensures.selectors
