use Rattle.std.proofs.Common.{[], None, option_map, refl}
use Rattle.std.specs.Prelude.{Err, Ok, if◌then◌else◌}
use Rattle.std.specs.Duration.{as_nanos}
use Rattle.promql_kind.specs.Functions.{signature_of}
use Rattle.promql_ast.specs.Shifts.{moment_of, shift_of}
use Rattle.promql_ast.specs.View.{children_of, option_tree, tree_of, trees_of}
use Rattle.promql_when.specs.Reads.{all_windows, any_overflow, info_overflow, info_windows, inner_window, is_bare_info, maybe_overflow, maybe_windows, overflow, subquery_overflow, windows}
use Rattle.promql_when.specs.Found.{found_of}
use Rattle.promql_when.proofs.Walking.{all_walked, both_walked, first_failed, inner_walked, one_failed, one_more, one_more_fits, walked_as}
use Rattle.promql_when.proofs.reading.+windows.Goals as goal

pub push_aggregate-returns-in-Ok : goal.push_aggregate-returns-in-Ok
push_aggregate-returns-in-Ok t c =
    let ts = c.args.times.now in
    let w = c.args.window in
    let node = c.args.node.now in
    both_walked c.push_expr.result (found_of c.args.found.now.items) (found_of c.push_param.new.found.items) (found_of c.push_expr.new.found.items)
    (maybe_windows ts (option_tree node.param) w) (windows ts (tree_of node.expr.value) w) (maybe_overflow ts (option_tree node.param) w) (overflow ts (tree_of node.expr.value) w)
    c.in-Ok.ensures
    (walked_as (λ e. windows ts (tree_of e) w) (λ e. overflow ts (tree_of e) w) c.deref.result.now node.expr.value c.push_expr.result (found_of c.push_param.new.found.items) (found_of c.push_expr.new.found.items) c.deref.ensures c.push_expr.ensures)

pub push_aggregate-returns-in-Err : goal.push_aggregate-returns-in-Err
push_aggregate-returns-in-Err t c =
    let ts = c.args.times.now in
    let w = c.args.window in
    let node = c.args.node.now in
    first_failed c.in-Err.error (found_of c.args.found.now.items) (found_of c.push_param.new.found.items) (found_of c.push_param.new.found.items)
    (maybe_windows ts (option_tree node.param) w) (windows ts (tree_of node.expr.value) w)
    (maybe_overflow ts (option_tree node.param) w) (overflow ts (tree_of node.expr.value) w) c.in-Err.ensures

pub push_binary-returns-in-Ok : goal.push_binary-returns-in-Ok
push_binary-returns-in-Ok t c =
    let ts = c.args.times.now in
    let w = c.args.window in
    let node = c.args.node.now in
    both_walked c.push_expr-in-Ok.result (found_of c.args.found.now.items) (found_of c.push_expr.new.found.items) (found_of c.push_expr-in-Ok.new.found.items)
    (windows ts (tree_of node.lhs.value) w) (windows ts (tree_of node.rhs.value) w) (overflow ts (tree_of node.lhs.value) w) (overflow ts (tree_of node.rhs.value) w)
    (walked_as (λ e. windows ts (tree_of e) w) (λ e. overflow ts (tree_of e) w) c.deref.result.now node.lhs.value (Ok tt) (found_of c.args.found.now.items) (found_of c.push_expr.new.found.items) c.deref.ensures c.in-Ok.ensures)
    (walked_as (λ e. windows ts (tree_of e) w) (λ e. overflow ts (tree_of e) w) c.deref-in-Ok.result.now node.rhs.value c.push_expr-in-Ok.result (found_of c.push_expr.new.found.items) (found_of c.push_expr-in-Ok.new.found.items) c.deref-in-Ok.ensures c.push_expr-in-Ok.ensures)

pub push_binary-returns-in-Err : goal.push_binary-returns-in-Err
push_binary-returns-in-Err t c =
    let ts = c.args.times.now in
    let w = c.args.window in
    let node = c.args.node.now in
    first_failed c.in-Err.error (found_of c.args.found.now.items) (found_of c.push_expr.new.found.items) (found_of c.push_expr.new.found.items)
    (windows ts (tree_of node.lhs.value) w) (windows ts (tree_of node.rhs.value) w) (overflow ts (tree_of node.lhs.value) w) (overflow ts (tree_of node.rhs.value) w)
    (walked_as (λ e. windows ts (tree_of e) w) (λ e. overflow ts (tree_of e) w) c.deref.result.now node.lhs.value (Err c.in-Err.error) (found_of c.args.found.now.items) (found_of c.push_expr.new.found.items) c.deref.ensures c.in-Err.ensures)

pub push_subquery-returns-in-Ok : goal.push_subquery-returns-in-Ok
push_subquery-returns-in-Ok t c =
    let ts = c.args.times.now in
    let w = c.args.window in
    let node = c.args.node.now in
    let inner = inner_window ts (option_map shift_of node.offset) (option_map moment_of node.at) (as_nanos node.range) (option_map as_nanos node.step) w in
    inner_walked (windows ts (tree_of node.expr.value)) (overflow ts (tree_of node.expr.value)) c.in-Ok.inner inner c.push_expr.result (found_of c.args.found.now.items) (found_of c.push_expr.new.found.items)
    (subquery_overflow ts (tree_of node.expr.value) (option_map shift_of node.offset) (option_map moment_of node.at) (as_nanos node.range) (option_map as_nanos node.step) w) c.in-Ok.ensures.inner c.in-Ok.ensures.fits
    (walked_as (λ e. windows ts (tree_of e) c.in-Ok.inner) (λ e. overflow ts (tree_of e) c.in-Ok.inner) c.deref.result.now node.expr.value c.push_expr.result (found_of c.args.found.now.items) (found_of c.push_expr.new.found.items)
    c.deref.ensures c.push_expr.ensures)

pub push_subquery-returns-in-Err : goal.push_subquery-returns-in-Err
push_subquery-returns-in-Err t c =
    let ts = c.args.times.now in
    let w = c.args.window in
    let node = c.args.node.now in
    let inner = inner_window ts (option_map shift_of node.offset) (option_map moment_of node.at) (as_nanos node.range) (option_map as_nanos node.step) w in
    first_failed c.in-Err.error (found_of c.args.found.now.items) (found_of c.args.found.now.items) (found_of c.args.found.now.items) [] (windows ts (tree_of node.expr.value) inner)
    (subquery_overflow ts (tree_of node.expr.value) (option_map shift_of node.offset) (option_map moment_of node.at) (as_nanos node.range) (option_map as_nanos node.step) w)
    (overflow ts (tree_of node.expr.value) inner) c.in-Err.ensures.error

pub push_call-returns-in-Ok : goal.push_call-returns-in-Ok
push_call-returns-in-Ok t c =
    let ts = c.args.times.now in
    let w = c.args.window in
    let node = c.args.node.now in
    let args = node.args.args.items in
    let bare = is_bare_info (signature_of node.func) (trees_of args) in
    both_walked c.push_bare_info.result (found_of c.args.found.now.items) (found_of c.push_args.new.found.items) (found_of c.push_bare_info.new.found.items)
    (all_windows ts (trees_of args) w) (if bare then info_windows ts w else []) (any_overflow ts (trees_of args) w) (if bare then info_overflow ts (signature_of node.func) (trees_of args) w else None)
    (walked_as (λ bs. all_windows ts (trees_of bs) w) (λ bs. any_overflow ts (trees_of bs) w) c.as_slice.result.now args (Ok tt) (found_of c.args.found.now.items) (found_of c.push_args.new.found.items) c.as_slice.ensures.value c.in-Ok.ensures)
    c.push_bare_info.ensures

pub push_call-returns-in-Err : goal.push_call-returns-in-Err
push_call-returns-in-Err t c =
    let ts = c.args.times.now in
    let w = c.args.window in
    let node = c.args.node.now in
    let args = node.args.args.items in
    let bare = is_bare_info (signature_of node.func) (trees_of args) in
    first_failed c.in-Err.error (found_of c.args.found.now.items) (found_of c.push_args.new.found.items) (found_of c.push_args.new.found.items)
    (all_windows ts (trees_of args) w) (if bare then info_windows ts w else []) (any_overflow ts (trees_of args) w) (if bare then info_overflow ts (signature_of node.func) (trees_of args) w else None)
    (walked_as (λ bs. all_windows ts (trees_of bs) w) (λ bs. any_overflow ts (trees_of bs) w) c.as_slice.result.now args (Err c.in-Err.error) (found_of c.args.found.now.items) (found_of c.push_args.new.found.items) c.as_slice.ensures.value c.in-Err.ensures)

pub push_args-returns-in-Err : goal.push_args-returns-in-Err
push_args-returns-in-Err t c =
    let ts = c.args.times.now in
    let w = c.args.window in
    one_failed (λ bs. all_windows ts (trees_of bs) w) (λ bs. any_overflow ts (trees_of bs) w) c.args.args.now c.loop-arg.arg-index (found_of c.loop-arg.found.items) []
    (any_overflow ts (trees_of c.args.args.now) w) c.in-Err.error c.arg-item.result (overflow ts (tree_of c.arg-item.result.value) w)
    c.loop-arg-test.true c.arg-item.is refl
    (walked_as (λ e. windows ts (tree_of e) w) (λ e. overflow ts (tree_of e) w) c.deref.result.now c.arg-item.result.value (Err c.in-Err.error) (found_of c.loop-arg.found.items) (found_of c.push_expr.new.found.items) c.deref.ensures c.in-Err.ensures)
    c.loop-arg.invariant.fitting

pub push_args-loop-arg-preserved : goal.push_args-loop-arg-preserved
push_args-loop-arg-preserved t c =
    let ts = c.args.times.now in
    let w = c.args.window in
    let walked = walked_as (λ e. windows ts (tree_of e) w) (λ e. overflow ts (tree_of e) w) c.deref.result.now c.arg-item.result.value (Ok tt) (found_of c.loop-arg.found.items) (found_of c.push_expr.new.found.items) c.deref.ensures c.in-Ok.ensures in
    record {
      listed =
          one_more (λ bs. all_windows ts (trees_of bs) w) (λ bs. any_overflow ts (trees_of bs) w) c.args.args.now c.loop-arg.arg-index (found_of c.loop-arg.found.items) _ None
          c.arg-item.result (windows ts (tree_of c.arg-item.result.value) w) (found_of c.push_expr.new.found.items) c.loop-arg-test.true c.arg-item.is refl walked.0 c.loop-arg.invariant.listed;
      fitting =
          one_more_fits (λ bs. all_windows ts (trees_of bs) w) (λ bs. any_overflow ts (trees_of bs) w) c.args.args.now c.loop-arg.arg-index (found_of c.loop-arg.found.items) [] _
          c.arg-item.result (overflow ts (tree_of c.arg-item.result.value) w) c.loop-arg-test.true c.arg-item.is refl walked.1 c.loop-arg.invariant.fitting;
    }

pub push_args-returns : goal.push_args-returns
push_args-returns t c =
    let ts = c.args.times.now in
    let w = c.args.window in
    all_walked (λ bs. all_windows ts (trees_of bs) w) (λ bs. any_overflow ts (trees_of bs) w) c.args.args.now c.loop-arg.arg-index (found_of c.loop-arg.found.items) _ _
    refl refl c.loop-arg-test.false c.loop-arg.invariant.listed c.loop-arg.invariant.fitting

pub push_children-returns-in-Err : goal.push_children-returns-in-Err
push_children-returns-in-Err t c =
    let ts = c.args.times.now in
    let w = c.args.window in
    one_failed (λ es. all_windows ts (children_of es) w) (λ es. any_overflow ts (children_of es) w) c.args.children.now c.loop-child.child-index (found_of c.loop-child.found.items) []
    (any_overflow ts (children_of c.args.children.now) w) c.in-Err.error c.child-item.result (overflow ts (tree_of c.child-item.result) w)
    c.loop-child-test.true c.child-item.is refl c.in-Err.ensures c.loop-child.invariant.fitting

pub push_children-loop-child-preserved : goal.push_children-loop-child-preserved
push_children-loop-child-preserved t c =
    let ts = c.args.times.now in
    let w = c.args.window in
    record {
      listed =
          one_more (λ es. all_windows ts (children_of es) w) (λ es. any_overflow ts (children_of es) w) c.args.children.now c.loop-child.child-index (found_of c.loop-child.found.items) _ None
          c.child-item.result (windows ts (tree_of c.child-item.result) w) (found_of c.push_expr.new.found.items) c.loop-child-test.true c.child-item.is refl c.in-Ok.ensures.0
          c.loop-child.invariant.listed;
      fitting =
          one_more_fits (λ es. all_windows ts (children_of es) w) (λ es. any_overflow ts (children_of es) w) c.args.children.now c.loop-child.child-index (found_of c.loop-child.found.items) [] _
          c.child-item.result (overflow ts (tree_of c.child-item.result) w) c.loop-child-test.true c.child-item.is refl c.in-Ok.ensures.1 c.loop-child.invariant.fitting;
    }

pub push_children-returns : goal.push_children-returns
push_children-returns t c =
    let ts = c.args.times.now in
    let w = c.args.window in
    all_walked (λ es. all_windows ts (children_of es) w) (λ es. any_overflow ts (children_of es) w) c.args.children.now c.loop-child.child-index (found_of c.loop-child.found.items) _ _
    refl refl c.loop-child-test.false c.loop-child.invariant.listed c.loop-child.invariant.fitting
