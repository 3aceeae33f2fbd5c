use Rattle.std.proofs.Common.{◌∙◌, sym, ap, arith, map, rules, slice_index_or, string_bytes}
use Rattle.std.specs.Box.{with_value}
use Rattle.std.proofs.lemmas.List.{with_items_is}
use Rattle.promql_kind.specs.Functions.{signature_of}
use Rattle.promql_ast.specs.Tree.{call, extension}
use Rattle.promql_ast.specs.View.{tree_of, trees}
use Rattle.promql_rewrite.specs.Parenthesizing.{parenthesized}
use Rattle.promql_rewrite.proofs.parentheses.ParenRows.{parenthesized_trees}
use Rattle.promql_ast.proofs.nodes.ChangedLists.{all_done, on_ok, one_more}
use Rattle.promql_rewrite.proofs.parenthesizing.+parenthesize.Goals as goal

pub parenthesize_args-loop-i-preserved : goal.parenthesize_args-loop-i-preserved
parenthesize_args-loop-i-preserved t c = record {
  unvisited = search rules;
  done =
      one_more (λ b. tree_of b.value) (λ b. parenthesized (tree_of b.value)) c.loop-i.args c.args.args.now c.loop-i.i
      c.index-args-i.result (with_value (slice_index_or c.loop-i.args c.loop-i.i c.index-args-i.result) c.parenthesize.new.expr) (search rules) c.loop-i.auto.args
      (c.loop-i.invariant.unvisited.1 c.loop-i.i c.index-args-i.result (omega arith))
      (c.in_ok-parenthesize.ensures ∙ ap (λ e. parenthesized (tree_of e)) c.deref_mut.ensures.value) c.loop-i.invariant.done;
}

pub parenthesize_args-returns : goal.parenthesize_args-returns
parenthesize_args-returns t c =
    all_done (λ b. tree_of b.value) (λ b. parenthesized (tree_of b.value)) c.loop-i.args c.args.args.now c.loop-i.i
    (omega (arith, c.loop-i.auto.args)) (omega arith) c.loop-i.invariant.done

pub parenthesize_children-loop-i-preserved : goal.parenthesize_children-loop-i-preserved
parenthesize_children-loop-i-preserved t c = record {
  unvisited = search rules;
  done =
      one_more tree_of (λ e. parenthesized (tree_of e)) c.loop-i.children c.args.children.now c.loop-i.i
      c.index-children-i.result c.parenthesize.new.expr (search rules) c.loop-i.auto.children
      (c.loop-i.invariant.unvisited.1 c.loop-i.i c.index-children-i.result (omega arith))
      (search (rules, c.in_ok-parenthesize.ensures)) c.loop-i.invariant.done;
}

pub parenthesize_children-returns : goal.parenthesize_children-returns
parenthesize_children-returns t c =
    all_done tree_of (λ e. parenthesized (tree_of e)) c.loop-i.children c.args.children.now c.loop-i.i
    (omega (arith, c.loop-i.auto.children)) (omega arith) c.loop-i.invariant.done

pub parenthesize_call-returns : goal.parenthesize_call-returns
parenthesize_call-returns t c =
    let f = signature_of c.args.node.now.func in
    let args = c.args.node.now.args.args in
    on_ok c.parenthesize_args.result _ _
    (λ same.
    ap (λ ts. call f (trees ts))
    (ap (map (λ b. tree_of b.value)) (with_items_is args c.parenthesize_args.new.args (omega arith)) ∙ same ∙ ap (map (λ b. parenthesized (tree_of b.value))) c.as_mut_slice.ensures.value)
    ∙ ap (call f) (sym (parenthesized_trees (λ b. tree_of b.value) args.items)))
    c.parenthesize_args.ensures

pub parenthesize_extension-returns : goal.parenthesize_extension-returns
parenthesize_extension-returns t c =
    let children = c.args.node.now.children in
    on_ok c.parenthesize_children.result _ _
    (λ same.
    ap (λ ts. extension (string_bytes c.args.node.now.name) c.args.node.now.value_type (trees ts))
    (ap (map tree_of) (with_items_is children c.parenthesize_children.new.children (omega arith)) ∙ same ∙ ap (map (λ e. parenthesized (tree_of e))) c.as_mut_slice.ensures.value)
    ∙ ap (extension (string_bytes c.args.node.now.name) c.args.node.now.value_type) (sym (parenthesized_trees tree_of children.items)))
    c.parenthesize_children.ensures
