use Rattle.promql_from_json.proofs.ReadForms.{err_within}
use Rattle.std.proofs.Common.{codes, refl, Some}
use Rattle.promql_from_json.specs.FormMisfits.{by_row, node_named, one}
use Rattle.promql_from_json.specs.declared.from_error.Expected.TheVariants.{Length, RangeMode}
use Rattle.promql_from_json.proofs.MembersInOrder.{skipped}
use Rattle.promql_from_json.proofs.read_selectors.read_range.Goals as goal

pub returns-in_err-range-clause-place : goal.returns-in_err-range-clause-place
returns-in_err-range-clause-place c =
    err_within _ c.from_residual.result c.in_err-range.field-0.0 c.from_residual.ensures.1
    (λ n d left. c.in_err-range.ensures.place (node_named (codes "matrixSelector") n) d left refl)

pub returns-in-Err-clause-place : goal.returns-in-Err-clause-place
returns-in-Err-clause-place c = λ n d left.
    c.inside.ensures.place (node_named (codes "matrixSelector") n) (one Length) d _ (by_row (node_named (codes "matrixSelector") n) (one Length) _ (codes "range") refl) (c.in_ok-range.ensures.left (node_named (codes "matrixSelector") n) d left).0 (c.in-Err.ensures.place c.in-Err.ensures.err)

pub returns-in-Err-read_mode-clause-place : goal.returns-in-Err-read_mode-clause-place
returns-in-Err-read_mode-clause-place c = λ n d left.
    let some = rw c.in-Some.is at c.in_ok-mode.ensures.left in
    c.inside-in-Err-read_mode.ensures.place (node_named (codes "matrixSelector") n) (one RangeMode) d _ (by_row (node_named (codes "matrixSelector") n) (one RangeMode) _ (codes "rangeMode") refl)
    (some (node_named (codes "matrixSelector") n) d ((c.in_ok-range.ensures.left (node_named (codes "matrixSelector") n) d left).1 (Some (codes "rangeMode")) refl)).0 (c.in-Err-read_mode.ensures.place (c.in-Err-read_mode.ensures.not_smoothed, c.in-Err-read_mode.ensures.not_anchored))

pub returns-in-Ok-read_mode-clause-left : goal.returns-in-Ok-read_mode-clause-left
returns-in-Ok-read_mode-clause-left c = λ n d left.
    let some = rw c.in-Some.is at c.in_ok-mode.ensures.left in
    (some (node_named (codes "matrixSelector") n) d ((c.in_ok-range.ensures.left (node_named (codes "matrixSelector") n) d left).1 (Some (codes "rangeMode")) refl)).1 (Some (codes "startOrEnd")) refl

pub returns-in-None-clause-left : goal.returns-in-None-clause-left
returns-in-None-clause-left c = λ n d left.
    let same = rw c.in-None.is at c.in_ok-mode.ensures.same in
    let none = rw c.in-None.is at c.in_ok-mode.ensures.none in
    rw same (skipped (node_named (codes "matrixSelector") n) d _ (codes "rangeMode") (Some (codes "startOrEnd")) none ((c.in_ok-range.ensures.left (node_named (codes "matrixSelector") n) d left).1 (Some (codes "rangeMode")) refl) refl)
