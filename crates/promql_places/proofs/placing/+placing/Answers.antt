use Rattle.std.proofs.Common.{◌∙◌, [], ap, refl, subst}
use Rattle.promql_ast.proofs.nodes.ChangedLists.{on_ok}
use Rattle.promql_ast.specs.View.{option_tree, tree_of}
use Rattle.promql_places.specs.CursorTokens.{Moved, kinds_left}
use Rattle.promql_places.specs.PartSteps as step
use Rattle.promql_places.specs.Passing.{Passes, begin, inside, lists_of, pass, pass_param, then_pass, then_skip, then_take}
use Rattle.promql_places.specs.declared.placing.Placing.{Placing}
use Rattle.promql_places.specs.Skipping.{skip_power_signs}
use Rattle.promql_places.proofs.PlaceSteps.{passed_all, passes_around, passes_none, passes_one, passes_skip, passes_take, passes_then}
use Rattle.promql_places.proofs.placing.+placing.Goals as goal

pub place_expr-returns : goal.place_expr-returns
place_expr-returns t c =
    let a = c.args.placing.now in
    let b = c.begin.new.self in
    let d = c.place_inside.new.placing in
    let own = c.place_inside.new.parts.items in
    let begun = c.in_ok-index.ensures in
    let passed : Passes (inside (tree_of c.args.expr.now) (kinds_left b.tokens)) b d [] own =
    subst (λ l. Passes (inside (tree_of c.args.expr.now) (kinds_left b.tokens)) b d l own) c.new-parts.ensures.items c.in_ok-place_inside.ensures in
    passes_around (inside (tree_of c.args.expr.now)) a b d c.set_parts.new.self c.in_ok-index.index own begun.index begun.tokens begun.place begun.parts passed
    (c.set_parts.ensures.tokens ∙ c.end_place.ensures.tokens)
    (λ before after place is index. ap (λ v. v.items) c.set_parts.ensures.places ∙ c.end_place.ensures.place before after place is index)
    (λ before after none is index. c.set_parts.ensures.parts before after none (ap (λ v. lists_of v.items) c.end_place.ensures.parts ∙ is) index)

pub place_aggregate-returns : goal.place_aggregate-returns
place_aggregate-returns t c =
    let a = c.args.placing.now in
    let node = c.args.node.now in
    let had = c.args.parts.now.items in
    let mid = c.take_aggregate.new.parts.items in
    let b : Placing = record a { tokens = c.take_aggregate.new.self } in
    let d = c.place_param.new.placing in
    let e = c.place_expr.new.placing in
    let f : Placing = record e { tokens = c.take_aggregate_end.new.self } in
    let first = passes_take (begin (kinds_left a.tokens)) step.aggregate a a b had had mid (passes_none a had) c.in_ok-take_aggregate.ensures (refl, refl) in
    let second = passes_then (then_take (begin (kinds_left a.tokens)) step.aggregate) (pass_param (option_tree node.param)) a b d had mid [] first c.in_ok-place_param.ensures in
    let third : Passes (pass (tree_of node.expr.value) (kinds_left d.tokens)) d e [] [] = subst (λ x. Passes (pass (tree_of x) (kinds_left d.tokens)) d e [] []) c.deref.ensures c.in_ok-place_expr.ensures in
    let all = passes_then (then_pass (then_take (begin (kinds_left a.tokens)) step.aggregate) (pass_param (option_tree node.param))) (pass (tree_of node.expr.value)) a d e had mid [] second third in
    on_ok c.take_aggregate_end.result _ _ (λ taken. passes_take _ step.aggregate_end a e f had mid c.take_aggregate_end.new.parts.items all taken (refl, refl)) c.take_aggregate_end.ensures

pub place_sides-returns : goal.place_sides-returns
place_sides-returns t c =
    let a = c.args.placing.now in
    let node = c.args.node.now in
    let had = c.args.parts.now.items in
    let has = c.take_operator.new.parts.items in
    let b : Placing = record a { tokens = c.skip_power_signs.new.self } in
    let d = c.place_expr.new.placing in
    let e : Placing = record d { tokens = c.take_operator.new.self } in
    let signs : Moved (skip_power_signs node.op (kinds_left a.tokens)) a.tokens b.tokens =
    subst (λ op. Moved (skip_power_signs op (kinds_left a.tokens)) a.tokens b.tokens) c.id.ensures c.skip_power_signs.ensures in
    let first = passes_skip (begin (kinds_left a.tokens)) (skip_power_signs node.op) a a b had had (passes_none a had) signs (refl, refl) in
    let left : Passes (pass (tree_of node.lhs.value) (kinds_left b.tokens)) b d [] [] = subst (λ x. Passes (pass (tree_of x) (kinds_left b.tokens)) b d [] []) c.deref.ensures c.in_ok-place_expr.ensures in
    let second = passes_then (then_skip (begin (kinds_left a.tokens)) (skip_power_signs node.op)) (pass (tree_of node.lhs.value)) a b d had had [] first left in
    let third = passes_take _ step.operator a d e had had has second c.in_ok-take_operator.ensures (refl, refl) in
    on_ok c.place_expr-2.result _ _
    (λ passed. passes_then _ (pass (tree_of node.rhs.value)) a e c.place_expr-2.new.placing had has [] third (subst (λ x. Passes (pass (tree_of x) (kinds_left e.tokens)) e c.place_expr-2.new.placing [] []) c.deref-2.ensures passed))
    c.place_expr-2.ensures

pub place_args-returns : goal.place_args-returns
place_args-returns t c = passed_all c.args.args.now c.args.placing.now c.loop-arg.placing c.loop-arg.arg-index c.loop-arg-test.false c.loop-arg.invariant

pub place_args-loop-arg-preserved : goal.place_args-loop-arg-preserved
place_args-loop-arg-preserved t c =
    let now = c.loop-arg.placing in
    passes_one c.args.args.now c.args.placing.now now c.place_expr.new.placing _ c.loop-arg.arg-index c.arg-item.result c.loop-arg-test.true c.arg-item.is
    (subst (λ x. Passes (pass (tree_of x) (kinds_left now.tokens)) now c.place_expr.new.placing [] []) c.deref.ensures c.in_ok-place_expr.ensures) c.bump.ensures (refl, refl) c.loop-arg.invariant
