use Rattle.std.proofs.Common.{◌∙◌, sym, ap, arith, map, rules, slice_index_or, string_bytes}
use Rattle.std.specs.Box.{with_value}
use Rattle.std.proofs.lemmas.List.{with_items_is}
use Rattle.promql_kind.specs.Functions.{signature_of}
use Rattle.promql_ast.specs.Tree.{Tree, call, extension}
use Rattle.promql_ast.specs.Mapped.{mapped}
use Rattle.promql_ast.specs.View.{tree_of, trees}
use Rattle.promql_ast.proofs.nodes.ChangedLists.{all_done, on_ok, one_more}
use Rattle.promql_rewrite.proofs.renamed.RenamedLists.{mapped_trees}
use Rattle.promql_rewrite.proofs.changing.+change.Goals as goal

pub change_args-loop-i-preserved : goal.change_args-loop-i-preserved
change_args-loop-i-preserved g t c =
    let f : Tree → Tree = mapped (g.C.PartChange.selectors c.args.change.now) (g.C.PartChange.clauses c.args.change.now) (g.C.PartChange.matchings c.args.change.now) in
    record {
      unvisited = search rules;
      done =
          one_more (λ b. tree_of b.value) (λ b. f (tree_of b.value)) c.loop-i.args c.args.args.now c.loop-i.i
          c.index-args-i.result (with_value (slice_index_or c.loop-i.args c.loop-i.i c.index-args-i.result) c.change_parts.new.expr) (search rules) c.loop-i.auto.args
          (c.loop-i.invariant.unvisited.1 c.loop-i.i c.index-args-i.result (omega arith))
          (c.in_ok-change_parts.ensures ∙ ap (λ e. f (tree_of e)) c.deref_mut.ensures.value) c.loop-i.invariant.done;
    }

pub change_args-returns : goal.change_args-returns
change_args-returns g t c =
    let f : Tree → Tree = mapped (g.C.PartChange.selectors c.args.change.now) (g.C.PartChange.clauses c.args.change.now) (g.C.PartChange.matchings c.args.change.now) in
    all_done (λ b. tree_of b.value) (λ b. f (tree_of b.value)) c.loop-i.args c.args.args.now c.loop-i.i
    (omega (arith, c.loop-i.auto.args)) (omega arith) c.loop-i.invariant.done

pub change_children-loop-i-preserved : goal.change_children-loop-i-preserved
change_children-loop-i-preserved g t c =
    let f : Tree → Tree = mapped (g.C.PartChange.selectors c.args.change.now) (g.C.PartChange.clauses c.args.change.now) (g.C.PartChange.matchings c.args.change.now) in
    record {
      unvisited = search rules;
      done =
          one_more tree_of (λ e. f (tree_of e)) c.loop-i.children c.args.children.now c.loop-i.i
          c.index-children-i.result c.change_parts.new.expr (search rules) c.loop-i.auto.children
          (c.loop-i.invariant.unvisited.1 c.loop-i.i c.index-children-i.result (omega arith))
          (search (rules, c.in_ok-change_parts.ensures)) c.loop-i.invariant.done;
    }

pub change_children-returns : goal.change_children-returns
change_children-returns g t c =
    let f : Tree → Tree = mapped (g.C.PartChange.selectors c.args.change.now) (g.C.PartChange.clauses c.args.change.now) (g.C.PartChange.matchings c.args.change.now) in
    all_done tree_of (λ e. f (tree_of e)) c.loop-i.children c.args.children.now c.loop-i.i
    (omega (arith, c.loop-i.auto.children)) (omega arith) c.loop-i.invariant.done

pub change_call-returns : goal.change_call-returns
change_call-returns g t c =
    let f : Tree → Tree = mapped (g.C.PartChange.selectors c.args.change.now) (g.C.PartChange.clauses c.args.change.now) (g.C.PartChange.matchings c.args.change.now) in
    let s = signature_of c.args.node.now.func in
    let args = c.args.node.now.args.args in
    on_ok c.change_args.result _ _
    (λ same.
    ap (λ ts. call s (trees ts))
    (ap (map (λ b. tree_of b.value)) (with_items_is args c.change_args.new.args (omega arith)) ∙ same ∙ ap (map (λ b. f (tree_of b.value))) c.as_mut_slice.ensures.value)
    ∙ ap (call s) (sym (mapped_trees _ _ _ (λ b. tree_of b.value) args.items)))
    c.change_args.ensures

pub change_extension-returns : goal.change_extension-returns
change_extension-returns g t c =
    let f : Tree → Tree = mapped (g.C.PartChange.selectors c.args.change.now) (g.C.PartChange.clauses c.args.change.now) (g.C.PartChange.matchings c.args.change.now) in
    let children = c.args.node.now.children in
    on_ok c.change_children.result _ _
    (λ same.
    ap (λ ts. extension (string_bytes c.args.node.now.name) c.args.node.now.value_type (trees ts))
    (ap (map tree_of) (with_items_is children c.change_children.new.children (omega arith)) ∙ same ∙ ap (map (λ e. f (tree_of e))) c.as_mut_slice.ensures.value)
    ∙ ap (extension (string_bytes c.args.node.now.name) c.args.node.now.value_type) (sym (mapped_trees _ _ _ tree_of children.items)))
    c.change_children.ensures
