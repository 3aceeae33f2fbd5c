use Rattle.std.proofs.Common.{[], None, option_map, refl}
use Rattle.std.specs.Prelude.{Err, Ok, if◌then◌else◌}
use Rattle.std.specs.Duration.{as_nanos}
use Rattle.promql_kind.specs.Functions.{signature_of}
use Rattle.promql_ast.specs.Shifts.{moment_of, shift_of}
use Rattle.promql_ast.specs.View.{children_of, option_tree, tree_of, trees_of}
use Rattle.promql_when.specs.ReachFound.{reaches_of}
use Rattle.promql_when.specs.Reached.{all_reach, any_reach_overflow, info_reach, info_reach_overflow, maybe_reach, maybe_reach_overflow, reach, reach_around, reach_overflow, subquery_reach_overflow}
use Rattle.promql_when.specs.Reads.{is_bare_info}
use Rattle.promql_when.specs.Windows.{millis}
use Rattle.promql_when.proofs.Walking.{all_walked, both_walked, first_failed, inner_walked, one_failed, one_more, one_more_fits, walked_as}
use Rattle.promql_when.proofs.reach.+reach.Goals as goal

pub reach_aggregate-returns-in-Ok : goal.reach_aggregate-returns-in-Ok
reach_aggregate-returns-in-Ok t c =
    let ts = c.args.times.now in
    let w = c.args.from in
    let node = c.args.node.now in
    both_walked c.reach_expr.result (reaches_of c.args.found.now.items) (reaches_of c.reach_param.new.found.items) (reaches_of c.reach_expr.new.found.items)
    (maybe_reach ts (option_tree node.param) w) (reach ts (tree_of node.expr.value) w) (maybe_reach_overflow ts (option_tree node.param) w) (reach_overflow ts (tree_of node.expr.value) w)
    c.in-Ok.ensures
    (walked_as (λ e. reach ts (tree_of e) w) (λ e. reach_overflow ts (tree_of e) w) c.deref.result.now node.expr.value c.reach_expr.result (reaches_of c.reach_param.new.found.items) (reaches_of c.reach_expr.new.found.items) c.deref.ensures c.reach_expr.ensures)

pub reach_aggregate-returns-in-Err : goal.reach_aggregate-returns-in-Err
reach_aggregate-returns-in-Err t c =
    let ts = c.args.times.now in
    let w = c.args.from in
    let node = c.args.node.now in
    first_failed c.in-Err.error (reaches_of c.args.found.now.items) (reaches_of c.reach_param.new.found.items) (reaches_of c.reach_param.new.found.items)
    (maybe_reach ts (option_tree node.param) w) (reach ts (tree_of node.expr.value) w)
    (maybe_reach_overflow ts (option_tree node.param) w) (reach_overflow ts (tree_of node.expr.value) w) c.in-Err.ensures

pub reach_binary-returns-in-Ok : goal.reach_binary-returns-in-Ok
reach_binary-returns-in-Ok t c =
    let ts = c.args.times.now in
    let w = c.args.from in
    let node = c.args.node.now in
    both_walked c.reach_expr-in-Ok.result (reaches_of c.args.found.now.items) (reaches_of c.reach_expr.new.found.items) (reaches_of c.reach_expr-in-Ok.new.found.items)
    (reach ts (tree_of node.lhs.value) w) (reach ts (tree_of node.rhs.value) w) (reach_overflow ts (tree_of node.lhs.value) w) (reach_overflow ts (tree_of node.rhs.value) w)
    (walked_as (λ e. reach ts (tree_of e) w) (λ e. reach_overflow ts (tree_of e) w) c.deref.result.now node.lhs.value (Ok tt) (reaches_of c.args.found.now.items) (reaches_of c.reach_expr.new.found.items) c.deref.ensures c.in-Ok.ensures)
    (walked_as (λ e. reach ts (tree_of e) w) (λ e. reach_overflow ts (tree_of e) w) c.deref-in-Ok.result.now node.rhs.value c.reach_expr-in-Ok.result (reaches_of c.reach_expr.new.found.items) (reaches_of c.reach_expr-in-Ok.new.found.items) c.deref-in-Ok.ensures c.reach_expr-in-Ok.ensures)

pub reach_binary-returns-in-Err : goal.reach_binary-returns-in-Err
reach_binary-returns-in-Err t c =
    let ts = c.args.times.now in
    let w = c.args.from in
    let node = c.args.node.now in
    first_failed c.in-Err.error (reaches_of c.args.found.now.items) (reaches_of c.reach_expr.new.found.items) (reaches_of c.reach_expr.new.found.items)
    (reach ts (tree_of node.lhs.value) w) (reach ts (tree_of node.rhs.value) w) (reach_overflow ts (tree_of node.lhs.value) w) (reach_overflow ts (tree_of node.rhs.value) w)
    (walked_as (λ e. reach ts (tree_of e) w) (λ e. reach_overflow ts (tree_of e) w) c.deref.result.now node.lhs.value (Err c.in-Err.error) (reaches_of c.args.found.now.items) (reaches_of c.reach_expr.new.found.items) c.deref.ensures c.in-Err.ensures)

pub reach_subquery-returns-in-Ok : goal.reach_subquery-returns-in-Ok
reach_subquery-returns-in-Ok t c =
    let ts = c.args.times.now in
    let w = c.args.from in
    let node = c.args.node.now in
    let inner = reach_around ts (option_map shift_of node.offset) (option_map moment_of node.at) (millis (as_nanos node.range)) 0 w in
    inner_walked (reach ts (tree_of node.expr.value)) (reach_overflow ts (tree_of node.expr.value)) c.in-Ok.inner inner c.reach_expr.result (reaches_of c.args.found.now.items) (reaches_of c.reach_expr.new.found.items)
    (subquery_reach_overflow ts (tree_of node.expr.value) (option_map shift_of node.offset) (option_map moment_of node.at) (as_nanos node.range) (option_map as_nanos node.step) w) c.in-Ok.ensures.inner c.in-Ok.ensures.fits
    (walked_as (λ e. reach ts (tree_of e) c.in-Ok.inner) (λ e. reach_overflow ts (tree_of e) c.in-Ok.inner) c.deref.result.now node.expr.value c.reach_expr.result (reaches_of c.args.found.now.items) (reaches_of c.reach_expr.new.found.items)
    c.deref.ensures c.reach_expr.ensures)

pub reach_subquery-returns-in-Err : goal.reach_subquery-returns-in-Err
reach_subquery-returns-in-Err t c =
    let ts = c.args.times.now in
    let w = c.args.from in
    let node = c.args.node.now in
    let inner = reach_around ts (option_map shift_of node.offset) (option_map moment_of node.at) (millis (as_nanos node.range)) 0 w in
    first_failed c.in-Err.error (reaches_of c.args.found.now.items) (reaches_of c.args.found.now.items) (reaches_of c.args.found.now.items) [] (reach ts (tree_of node.expr.value) inner)
    (subquery_reach_overflow ts (tree_of node.expr.value) (option_map shift_of node.offset) (option_map moment_of node.at) (as_nanos node.range) (option_map as_nanos node.step) w)
    (reach_overflow ts (tree_of node.expr.value) inner) c.in-Err.ensures.error

pub reach_call-returns-in-Ok : goal.reach_call-returns-in-Ok
reach_call-returns-in-Ok t c =
    let ts = c.args.times.now in
    let w = c.args.from in
    let node = c.args.node.now in
    let args = node.args.args.items in
    let bare = is_bare_info (signature_of node.func) (trees_of args) in
    both_walked c.reach_bare_info.result (reaches_of c.args.found.now.items) (reaches_of c.reach_args.new.found.items) (reaches_of c.reach_bare_info.new.found.items)
    (all_reach ts (trees_of args) w) (if bare then info_reach ts w else []) (any_reach_overflow ts (trees_of args) w) (if bare then info_reach_overflow ts (signature_of node.func) (trees_of args) w else None)
    (walked_as (λ bs. all_reach ts (trees_of bs) w) (λ bs. any_reach_overflow ts (trees_of bs) w) c.as_slice.result.now args (Ok tt) (reaches_of c.args.found.now.items) (reaches_of c.reach_args.new.found.items) c.as_slice.ensures.value c.in-Ok.ensures)
    c.reach_bare_info.ensures

pub reach_call-returns-in-Err : goal.reach_call-returns-in-Err
reach_call-returns-in-Err t c =
    let ts = c.args.times.now in
    let w = c.args.from in
    let node = c.args.node.now in
    let args = node.args.args.items in
    let bare = is_bare_info (signature_of node.func) (trees_of args) in
    first_failed c.in-Err.error (reaches_of c.args.found.now.items) (reaches_of c.reach_args.new.found.items) (reaches_of c.reach_args.new.found.items)
    (all_reach ts (trees_of args) w) (if bare then info_reach ts w else []) (any_reach_overflow ts (trees_of args) w) (if bare then info_reach_overflow ts (signature_of node.func) (trees_of args) w else None)
    (walked_as (λ bs. all_reach ts (trees_of bs) w) (λ bs. any_reach_overflow ts (trees_of bs) w) c.as_slice.result.now args (Err c.in-Err.error) (reaches_of c.args.found.now.items) (reaches_of c.reach_args.new.found.items) c.as_slice.ensures.value c.in-Err.ensures)

pub reach_args-returns-in-Err : goal.reach_args-returns-in-Err
reach_args-returns-in-Err t c =
    let ts = c.args.times.now in
    let w = c.args.from in
    one_failed (λ bs. all_reach ts (trees_of bs) w) (λ bs. any_reach_overflow ts (trees_of bs) w) c.args.args.now c.loop-arg.arg-index (reaches_of c.loop-arg.found.items) []
    (any_reach_overflow ts (trees_of c.args.args.now) w) c.in-Err.error c.arg-item.result (reach_overflow ts (tree_of c.arg-item.result.value) w)
    c.loop-arg-test.true c.arg-item.is refl
    (walked_as (λ e. reach ts (tree_of e) w) (λ e. reach_overflow ts (tree_of e) w) c.deref.result.now c.arg-item.result.value (Err c.in-Err.error) (reaches_of c.loop-arg.found.items) (reaches_of c.reach_expr.new.found.items) c.deref.ensures c.in-Err.ensures)
    c.loop-arg.invariant.fitting

pub reach_args-loop-arg-preserved : goal.reach_args-loop-arg-preserved
reach_args-loop-arg-preserved t c =
    let ts = c.args.times.now in
    let w = c.args.from in
    let walked = walked_as (λ e. reach ts (tree_of e) w) (λ e. reach_overflow ts (tree_of e) w) c.deref.result.now c.arg-item.result.value (Ok tt) (reaches_of c.loop-arg.found.items) (reaches_of c.reach_expr.new.found.items) c.deref.ensures c.in-Ok.ensures in
    record {
      listed =
          one_more (λ bs. all_reach ts (trees_of bs) w) (λ bs. any_reach_overflow ts (trees_of bs) w) c.args.args.now c.loop-arg.arg-index (reaches_of c.loop-arg.found.items) _ None
          c.arg-item.result (reach ts (tree_of c.arg-item.result.value) w) (reaches_of c.reach_expr.new.found.items) c.loop-arg-test.true c.arg-item.is refl walked.0 c.loop-arg.invariant.listed;
      fitting =
          one_more_fits (λ bs. all_reach ts (trees_of bs) w) (λ bs. any_reach_overflow ts (trees_of bs) w) c.args.args.now c.loop-arg.arg-index (reaches_of c.loop-arg.found.items) [] _
          c.arg-item.result (reach_overflow ts (tree_of c.arg-item.result.value) w) c.loop-arg-test.true c.arg-item.is refl walked.1 c.loop-arg.invariant.fitting;
    }

pub reach_args-returns : goal.reach_args-returns
reach_args-returns t c =
    let ts = c.args.times.now in
    let w = c.args.from in
    all_walked (λ bs. all_reach ts (trees_of bs) w) (λ bs. any_reach_overflow ts (trees_of bs) w) c.args.args.now c.loop-arg.arg-index (reaches_of c.loop-arg.found.items) _ _
    refl refl c.loop-arg-test.false c.loop-arg.invariant.listed c.loop-arg.invariant.fitting

pub reach_children-returns-in-Err : goal.reach_children-returns-in-Err
reach_children-returns-in-Err t c =
    let ts = c.args.times.now in
    let w = c.args.from in
    one_failed (λ es. all_reach ts (children_of es) w) (λ es. any_reach_overflow ts (children_of es) w) c.args.children.now c.loop-child.child-index (reaches_of c.loop-child.found.items) []
    (any_reach_overflow ts (children_of c.args.children.now) w) c.in-Err.error c.child-item.result (reach_overflow ts (tree_of c.child-item.result) w)
    c.loop-child-test.true c.child-item.is refl c.in-Err.ensures c.loop-child.invariant.fitting

pub reach_children-loop-child-preserved : goal.reach_children-loop-child-preserved
reach_children-loop-child-preserved t c =
    let ts = c.args.times.now in
    let w = c.args.from in
    record {
      listed =
          one_more (λ es. all_reach ts (children_of es) w) (λ es. any_reach_overflow ts (children_of es) w) c.args.children.now c.loop-child.child-index (reaches_of c.loop-child.found.items) _ None
          c.child-item.result (reach ts (tree_of c.child-item.result) w) (reaches_of c.reach_expr.new.found.items) c.loop-child-test.true c.child-item.is refl c.in-Ok.ensures.0
          c.loop-child.invariant.listed;
      fitting =
          one_more_fits (λ es. all_reach ts (children_of es) w) (λ es. any_reach_overflow ts (children_of es) w) c.args.children.now c.loop-child.child-index (reaches_of c.loop-child.found.items) [] _
          c.child-item.result (reach_overflow ts (tree_of c.child-item.result) w) c.loop-child-test.true c.child-item.is refl c.in-Ok.ensures.1 c.loop-child.invariant.fitting;
    }

pub reach_children-returns : goal.reach_children-returns
reach_children-returns t c =
    let ts = c.args.times.now in
    let w = c.args.from in
    all_walked (λ es. all_reach ts (children_of es) w) (λ es. any_reach_overflow ts (children_of es) w) c.args.children.now c.loop-child.child-index (reaches_of c.loop-child.found.items) _ _
    refl refl c.loop-child-test.false c.loop-child.invariant.listed c.loop-child.invariant.fitting
