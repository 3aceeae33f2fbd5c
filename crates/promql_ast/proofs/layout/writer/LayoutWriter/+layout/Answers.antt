use Rattle.std.proofs.Common.{◌≡◌, ℕ, ◌+◌, ◌++◌, ◌∷◌, max, Bool, List, drop, map, codes, string_bytes, ap, sym, ◌∙◌, arith, Global}
use Rattle.std.specs.Slice.Iter.{iter_rest}
use Rattle.std.specs.declared.boxed.Box.{Box}
use Rattle.std.proofs.lemmas.Grind.{common_steps}
use Rattle.promql_text.specs.Texts.{Text}
use Rattle.promql_ast.specs.Decisions.{all_deepest_by, all_rest, deepest_by, layout_by, layouts_by, rest}
use Rattle.promql_ast.specs.NodeView.{tree_of_node}
use Rattle.promql_ast.specs.Nodes.{nodes}
use Rattle.promql_ast.specs.Tree.{Tree}
use Rattle.promql_ast.specs.View.{tree_of, trees, trees_of}
use Rattle.promql_ast.specs.declared.expr.Expr.{Expr}
use Rattle.promql_ast.proofs.nodes.ExpressionLists.{nodes_of_one, row_from, row_step, trees_next}
use Rattle.promql_ast.proofs.layout.writer.LayoutWriter.+layout.Goals as goal

pub write_args-write_layout-requires : goal.write_args-write_layout-requires
write_args-write_layout-requires t c =
    let f : Box Expr Global → Tree = λ x. tree_of x.value in
    let here : tree_of_node c.node.result ≡ f c.index-args-i.result = c.node.ensures ∙ ap tree_of c.deref.ensures in
    (omega (arith, c.decreases, ap nodes here, nodes_of_one f c.args.args.now c.loop-i.i c.index-args-i.result c.loop-i-test.true c.index-args-i.is), tt)

pub write_args-loop-i-preserved : goal.write_args-loop-i-preserved
write_args-loop-i-preserved t c =
    let xs = c.args.args.now in
    let i = c.loop-i.i in
    let y = c.index-args-i.result in
    let level : ℕ = c.args.level in
    let sep : Text = codes ",\n" in
    let f : Box Expr Global → Tree = λ x. tree_of x.value in
    let here : tree_of_node c.node.result ≡ f y = c.node.ensures ∙ ap tree_of c.deref.ensures in
    let next : map f (drop i xs) ≡ f y ∷ map f (drop (i + 1) xs) = trees_next f xs i y c.loop-i-test.true c.index-args-i.is in
    let cs : List Bool = iter_rest c.loop-i.self.decisions in
    let rests : iter_rest c.write_layout.new.self.decisions ≡ rest (f y) cs = c.in_ok-write_layout.ensures.rest ∙ ap (λ x. rest x cs) here in
    let deeper : all_deepest_by (trees_of (drop (i + 1) xs)) level (iter_rest c.write_layout.new.self.decisions) ≡ all_deepest_by (trees_of (drop (i + 1) xs)) level (rest (f y) cs) = ap (all_deepest_by (trees_of (drop (i + 1) xs)) level) rests in
    let deepest : all_deepest_by (trees_of (drop i xs)) level cs ≡ max (deepest_by (f y) level cs) (all_deepest_by (trees_of (drop (i + 1) xs)) level (rest (f y) cs)) = ap (λ ts. all_deepest_by (trees ts) level cs) next in
    record {
      text = ap (λ bs. string_bytes c.write_layout.new.self.out ++ row_from sep (i + 1) (layouts_by (trees_of (drop (i + 1) xs)) level bs)) rests
          ∙ row_step sep i (layout_by (f y) level cs) (layouts_by (trees_of (drop (i + 1) xs)) level (rest (f y) cs)) (string_bytes c.loop-i.self.out) (string_bytes c.push_comma.new.out) (string_bytes c.write_layout.new.self.out) c.in_ok-push_comma.ensures (c.in_ok-write_layout.ensures.text ∙ ap (λ x. string_bytes c.push_comma.new.out ++ layout_by x level cs) here)
          ∙ ap (λ ts. string_bytes c.loop-i.self.out ++ row_from sep i (layouts_by (trees ts) level cs)) (sym next) ∙ c.loop-i.invariant.text;
      rest = ap (all_rest (trees_of (drop (i + 1) xs))) rests ∙ ap (λ ts. all_rest (trees ts) cs) (sym next) ∙ c.loop-i.invariant.rest;
      wide = omega (arith, c.loop-i.invariant.wide, deeper, deepest);
      fits = omega (arith, c.loop-i.invariant.fits, deeper, deepest, c.in_ok-write_layout.ensures.fits, ap (λ x. deepest_by x level cs) here);
    }

-- ---- a node's parts, one after the other

pub write_lines-returns-in_ok-write_args-in-Call-clause-text : goal.write_lines-returns-in_ok-write_args-in-Call-clause-text
write_lines-returns-in_ok-write_args-in-Call-clause-text t c = grind (arith, common_steps)

pub write_lines-returns-in_ok-write_args-in-Call-clause-rest : goal.write_lines-returns-in_ok-write_args-in-Call-clause-rest
write_lines-returns-in_ok-write_args-in-Call-clause-rest t c = grind (arith, common_steps)

pub write_lines-returns-in_ok-write_args-in-Call-clause-fits : goal.write_lines-returns-in_ok-write_args-in-Call-clause-fits
write_lines-returns-in_ok-write_args-in-Call-clause-fits t c = grind (arith, common_steps)

pub write_lines-returns-in_ok-push_str-in-Binary-clause-text : goal.write_lines-returns-in_ok-push_str-in-Binary-clause-text
write_lines-returns-in_ok-push_str-in-Binary-clause-text t c = grind (arith, common_steps)

pub write_lines-returns-in_ok-push_str-in-Binary-clause-rest : goal.write_lines-returns-in_ok-push_str-in-Binary-clause-rest
write_lines-returns-in_ok-push_str-in-Binary-clause-rest t c = grind (arith, common_steps)

pub write_lines-returns-in_ok-push_str-in-Binary-clause-fits : goal.write_lines-returns-in_ok-push_str-in-Binary-clause-fits
write_lines-returns-in_ok-push_str-in-Binary-clause-fits t c = grind (arith, common_steps)

pub write_lines-returns-in_ok-write_layout-in-Paren-clause-text : goal.write_lines-returns-in_ok-write_layout-in-Paren-clause-text
write_lines-returns-in_ok-write_layout-in-Paren-clause-text t c = grind (arith, common_steps)

pub write_lines-returns-in_ok-write_layout-in-Paren-clause-rest : goal.write_lines-returns-in_ok-write_layout-in-Paren-clause-rest
write_lines-returns-in_ok-write_layout-in-Paren-clause-rest t c = grind (arith, common_steps)

pub write_lines-returns-in_ok-write_layout-in-Paren-clause-fits : goal.write_lines-returns-in_ok-write_layout-in-Paren-clause-fits
write_lines-returns-in_ok-write_layout-in-Paren-clause-fits t c = grind (arith, common_steps)

pub write_lines-returns-in_ok-write_layout-in-Aggregate-clause-text : goal.write_lines-returns-in_ok-write_layout-in-Aggregate-clause-text
write_lines-returns-in_ok-write_layout-in-Aggregate-clause-text t c = grind (arith, common_steps)

pub write_lines-returns-in_ok-write_layout-in-Aggregate-clause-rest : goal.write_lines-returns-in_ok-write_layout-in-Aggregate-clause-rest
write_lines-returns-in_ok-write_layout-in-Aggregate-clause-rest t c = grind (arith, common_steps)

pub write_lines-returns-in_ok-write_layout-in-Aggregate-clause-fits : goal.write_lines-returns-in_ok-write_layout-in-Aggregate-clause-fits
write_lines-returns-in_ok-write_layout-in-Aggregate-clause-fits t c = grind (arith, common_steps)

pub write_layout-returns-in_ok-push_without_indent-in-Unary-clause-text : goal.write_layout-returns-in_ok-push_without_indent-in-Unary-clause-text
write_layout-returns-in_ok-push_without_indent-in-Unary-clause-text t c = grind (arith, common_steps)

pub write_lines-returns-in_err-write_args-in-Call-clause-wide : goal.write_lines-returns-in_err-write_args-in-Call-clause-wide
write_lines-returns-in_err-write_args-in-Call-clause-wide t c = grind (arith, common_steps)

pub write_lines-returns-in_err-write_layout-in-Paren-clause-wide : goal.write_lines-returns-in_err-write_layout-in-Paren-clause-wide
write_lines-returns-in_err-write_layout-in-Paren-clause-wide t c = grind (arith, common_steps)

pub write_lines-write_args-requires : goal.write_lines-write_args-requires
write_lines-write_args-requires t c = grind (arith, common_steps)

pub write_lines-write_layout-requires : goal.write_lines-write_layout-requires
write_lines-write_layout-requires t c = grind (arith, common_steps)

pub write_lines-write_param-requires : goal.write_lines-write_param-requires
write_lines-write_param-requires t c = grind (arith, common_steps)

pub write_lines-write_layout-requires-in-Binary-2 : goal.write_lines-write_layout-requires-in-Binary-2
write_lines-write_layout-requires-in-Binary-2 t c = grind (arith, common_steps)

pub write_lines-returns-in_ok-push_str-in-Binary-clause-wide : goal.write_lines-returns-in_ok-push_str-in-Binary-clause-wide
write_lines-returns-in_ok-push_str-in-Binary-clause-wide t c = grind (arith, common_steps)

pub write_lines-write_layout-requires-in-Paren : goal.write_lines-write_layout-requires-in-Paren
write_lines-write_layout-requires-in-Paren t c = grind (arith, common_steps)

pub write_lines-returns-in_ok-write_layout-in-Paren-clause-wide : goal.write_lines-returns-in_ok-write_layout-in-Paren-clause-wide
write_lines-returns-in_ok-write_layout-in-Paren-clause-wide t c = grind (arith, common_steps)

pub write_lines-returns-in_ok-write_args-in-Call-clause-wide : goal.write_lines-returns-in_ok-write_args-in-Call-clause-wide
write_lines-returns-in_ok-write_args-in-Call-clause-wide t c = grind (arith, common_steps)

pub write_layout-returns-in_ok-push_without_indent-in-Unary-clause-wide : goal.write_layout-returns-in_ok-push_without_indent-in-Unary-clause-wide
write_layout-returns-in_ok-push_without_indent-in-Unary-clause-wide t c = grind (arith, common_steps)

pub write_layout-returns-in_ok-push_without_indent-in-Unary-clause-fits : goal.write_layout-returns-in_ok-push_without_indent-in-Unary-clause-fits
write_layout-returns-in_ok-push_without_indent-in-Unary-clause-fits t c = grind (arith, common_steps)

pub write_layout-returns-in_ok-write_layout-in-Subquery-clause-text : goal.write_layout-returns-in_ok-write_layout-in-Subquery-clause-text
write_layout-returns-in_ok-write_layout-in-Subquery-clause-text t c = grind (arith, common_steps)

pub write_param-returns-in_ok-push_str-in-Some-clause-text : goal.write_param-returns-in_ok-push_str-in-Some-clause-text
write_param-returns-in_ok-push_str-in-Some-clause-text t c = grind (arith, common_steps)

pub write_args-returns-in_err-write_layout-clause-wide : goal.write_args-returns-in_err-write_layout-clause-wide
write_args-returns-in_err-write_layout-clause-wide t c = grind (arith, common_steps)
