use Rattle.std.proofs.Common.{◌∙◌, sym, ap, arith, map, rules, slice_index_or, string_bytes}
use Rattle.std.specs.Box.{with_value}
use Rattle.std.proofs.lemmas.List.{with_items_is}
use Rattle.promql_kind.specs.Functions.{signature_of}
use Rattle.promql_ast.specs.Tree.{call, extension}
use Rattle.promql_ast.specs.View.{tree_of, trees}
use Rattle.promql_ast.proofs.nodes.ChangedLists.{all_done, one_more}
use Rattle.promql_when.specs.Pinned.{pinned}
use Rattle.promql_when.proofs.TreeLists.{pinned_trees}
use Rattle.promql_when.proofs.pinning.+pin.Goals as goal

pub pin_args-loop-i-preserved : goal.pin_args-loop-i-preserved
pin_args-loop-i-preserved t c = record {
  unvisited = search rules;
  done =
      one_more (λ b. tree_of b.value) (λ b. pinned c.args.ends.start c.args.ends.end (tree_of b.value)) c.loop-i.args c.args.args.now c.loop-i.i
      c.index-args-i.result (with_value (slice_index_or c.loop-i.args c.loop-i.i c.index-args-i.result) c.pin_expr.new.expr) (search rules) c.loop-i.auto.args
      (c.loop-i.invariant.unvisited.1 c.loop-i.i c.index-args-i.result (omega arith))
      (c.pin_expr.ensures ∙ ap (λ e. pinned c.args.ends.start c.args.ends.end (tree_of e)) c.deref_mut.ensures.value) c.loop-i.invariant.done;
}

pub pin_args-returns : goal.pin_args-returns
pin_args-returns t c =
    all_done (λ b. tree_of b.value) (λ b. pinned c.args.ends.start c.args.ends.end (tree_of b.value)) c.loop-i.args c.args.args.now c.loop-i.i
    (omega (arith, c.loop-i.auto.args)) (omega arith) c.loop-i.invariant.done

pub pin_children-loop-i-preserved : goal.pin_children-loop-i-preserved
pin_children-loop-i-preserved t c = record {
  unvisited = search rules;
  done =
      one_more tree_of (λ e. pinned c.args.ends.start c.args.ends.end (tree_of e)) c.loop-i.children c.args.children.now c.loop-i.i
      c.index-children-i.result c.pin_expr.new.expr (search rules) c.loop-i.auto.children
      (c.loop-i.invariant.unvisited.1 c.loop-i.i c.index-children-i.result (omega arith))
      c.pin_expr.ensures c.loop-i.invariant.done;
}

pub pin_children-returns : goal.pin_children-returns
pin_children-returns t c =
    all_done tree_of (λ e. pinned c.args.ends.start c.args.ends.end (tree_of e)) c.loop-i.children c.args.children.now c.loop-i.i
    (omega (arith, c.loop-i.auto.children)) (omega arith) c.loop-i.invariant.done

pub pin_call-returns : goal.pin_call-returns
pin_call-returns t c =
    let start = c.args.ends.start in
    let end = c.args.ends.end in
    let f = signature_of c.args.node.now.func in
    let args = c.args.node.now.args.args in
    ap (λ ts. call f (trees ts))
    (ap (map (λ b. tree_of b.value)) (with_items_is args c.pin_args.new.args (omega arith)) ∙ c.pin_args.ensures
    ∙ ap (map (λ b. pinned start end (tree_of b.value))) c.as_mut_slice.ensures.value)
    ∙ ap (call f) (sym (pinned_trees (λ b. tree_of b.value) start end args.items))

pub pin_extension-returns : goal.pin_extension-returns
pin_extension-returns t c =
    let start = c.args.ends.start in
    let end = c.args.ends.end in
    let node = c.args.node.now in
    ap (λ ts. extension (string_bytes node.name) node.value_type (trees ts))
    (ap (map tree_of) (with_items_is node.children c.pin_children.new.children (omega arith)) ∙ c.pin_children.ensures
    ∙ ap (map (λ e. pinned start end (tree_of e))) c.as_mut_slice.ensures.value)
    ∙ ap (extension (string_bytes node.name) node.value_type) (sym (pinned_trees tree_of start end node.children.items))
