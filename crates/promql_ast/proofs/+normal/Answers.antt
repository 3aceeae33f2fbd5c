use Rattle.std.proofs.Common.{◌∙◌, sym, ap, arith, map, rules, slice_index_or, string_bytes}
use Rattle.std.specs.Box.{with_value}
use Rattle.std.proofs.lemmas.List.{with_items_is}
use Rattle.promql_kind.specs.Functions.{signature_of}
use Rattle.promql_ast.specs.Normal.{normal}
use Rattle.promql_ast.specs.Tree.{call, extension}
use Rattle.promql_ast.specs.View.{tree_of, trees}
use Rattle.promql_ast.proofs.nodes.ChangedLists.{all_done, on_ok, one_more}
use Rattle.promql_ast.proofs.nodes.NodeParts.{tree_of_call, tree_of_extension}
use Rattle.promql_ast.proofs.normal_form.NormalTrees.{normal_trees}
use Rattle.promql_ast.proofs.+normal.Goals as goal

pub normal::normalize_args-loop-i-preserved : goal.normal::normalize_args-loop-i-preserved
normal::normalize_args-loop-i-preserved t c = record {
  unvisited = search rules;
  done =
      one_more (λ b. tree_of b.value) (λ b. normal (tree_of b.value)) c.loop-i.args c.args.args.now c.loop-i.i
      c.index-args-i.result (with_value (slice_index_or c.loop-i.args c.loop-i.i c.index-args-i.result) c.normalize.new.self) (search rules) c.loop-i.auto.args
      (c.loop-i.invariant.unvisited.1 c.loop-i.i c.index-args-i.result (omega arith))
      (c.in_ok-normalize.ensures ∙ ap (λ e. normal (tree_of e)) c.deref_mut.ensures.value) c.loop-i.invariant.done;
}

pub normal::normalize_args-returns : goal.normal::normalize_args-returns
normal::normalize_args-returns t c =
    all_done (λ b. tree_of b.value) (λ b. normal (tree_of b.value)) c.loop-i.args c.args.args.now c.loop-i.i
    (omega (arith, c.loop-i.auto.args)) (omega arith) c.loop-i.invariant.done

pub normal::normalize_children-loop-i-preserved : goal.normal::normalize_children-loop-i-preserved
normal::normalize_children-loop-i-preserved t c = record {
  unvisited = search rules;
  done =
      one_more tree_of (λ e. normal (tree_of e)) c.loop-i.children c.args.children.now c.loop-i.i
      c.index-children-i.result c.normalize.new.self (search rules) c.loop-i.auto.children
      (c.loop-i.invariant.unvisited.1 c.loop-i.i c.index-children-i.result (omega arith))
      (search (rules, c.in_ok-normalize.ensures)) c.loop-i.invariant.done;
}

pub normal::normalize_children-returns : goal.normal::normalize_children-returns
normal::normalize_children-returns t c =
    all_done tree_of (λ e. normal (tree_of e)) c.loop-i.children c.args.children.now c.loop-i.i
    (omega (arith, c.loop-i.auto.children)) (omega arith) c.loop-i.invariant.done

pub normal::normalize_call-returns : goal.normal::normalize_call-returns
normal::normalize_call-returns t c =
    let f = signature_of c.args.node.now.func in
    let args = c.args.node.now.args.args in
    on_ok c.normalize_args.result _ _
    (λ same.
    ap (λ ts. call f (trees ts))
    (ap (map (λ b. tree_of b.value)) (with_items_is args c.normalize_args.new.args (omega arith)) ∙ same ∙ ap (map (λ b. normal (tree_of b.value))) c.as_mut_slice.ensures.value)
    ∙ ap (call f) (sym (normal_trees (λ b. tree_of b.value) args.items)))
    c.normalize_args.ensures

pub normal::normalize_extension-returns : goal.normal::normalize_extension-returns
normal::normalize_extension-returns t c =
    let children = c.args.node.now.children in
    on_ok c.normalize_children.result _ _
    (λ same.
    ap (λ ts. extension (string_bytes c.args.node.now.name) c.args.node.now.value_type (trees ts))
    (ap (map tree_of) (with_items_is children c.normalize_children.new.children (omega arith)) ∙ same ∙ ap (map (λ e. normal (tree_of e))) c.as_mut_slice.ensures.value)
    ∙ ap (extension (string_bytes c.args.node.now.name) c.args.node.now.value_type) (sym (normal_trees tree_of children.items)))
    c.normalize_children.ensures

pub expr::Expr::normalize-returns-in-Call : goal.expr::Expr::normalize-returns-in-Call
expr::Expr::normalize-returns-in-Call t c = on_ok c.normalize_call.result _ _ (λ same. grind (arith, tree_of_call, same)) c.normalize_call.ensures

pub expr::Expr::normalize-returns-in-Extension : goal.expr::Expr::normalize-returns-in-Extension
expr::Expr::normalize-returns-in-Extension t c =
    on_ok c.normalize_extension.result _ _ (λ same. grind (arith, tree_of_extension, same)) c.normalize_extension.ensures
