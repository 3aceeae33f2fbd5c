use Rattle.std.proofs.Common.{Some, codes}
use Rattle.promql_from_json.proofs.ReadForms.{err_within, no_begin}
use Rattle.promql_from_json.specs.FormMisfits.{by_row, list_of, matcher, one, or_null}
use Rattle.promql_from_json.specs.declared.from_error.Expected.TheVariants.{List as ListThere, Millis, Text}
use Rattle.promql_from_json.proofs.read_selectors.read_begin.Goals as goal

pub returns-in_err-matchers-clause-err : goal.returns-in_err-matchers-clause-err
returns-in_err-matchers-clause-err c =
    err_within _ c.from_residual.result c.in_err-matchers.field-0.0 c.from_residual.ensures.1
    (λ other s name d ms fine apart h. no_begin _ (c.in_err-matchers.ensures.err other) s _ h)

pub returns-in_err-matchers-clause-place : goal.returns-in_err-matchers-clause-place
returns-in_err-matchers-clause-place c =
    err_within _ c.from_residual.result c.in_err-matchers.field-0.0 c.from_residual.ensures.1
    (λ f d begins left. c.in_err-matchers.ensures.place f d left begins.0)

pub returns-in-Err-clause-place : goal.returns-in-Err-clause-place
returns-in-Err-clause-place c = λ f d begins left. c.inside.ensures.place f (one Millis) d _ (by_row f (one Millis) d (codes "offset") begins.4) (c.in_ok-matchers.ensures.left f d left begins.0).2 c.in-Err.ensures.place

pub returns-in-Err-read_name-clause-place : goal.returns-in-Err-read_name-clause-place
returns-in-Err-read_name-clause-place c = λ f d begins left. c.inside-in-Err-read_name.ensures.place f (or_null (one Text)) d _ (by_row f (or_null (one Text)) d (codes "name") begins.3) (c.in_ok-matchers.ensures.left f d left begins.0).1 c.in-Err-read_name.ensures.place

pub returns-in-Err-read_group-clause-place : goal.returns-in-Err-read_group-clause-place
returns-in-Err-read_group-clause-place c = λ f d begins left. c.inside-in-Err-read_group.ensures.place f (list_of ListThere matcher) d _ (by_row f (list_of ListThere matcher) d (codes "matchers") begins.2) (c.in_ok-matchers.ensures.left f d left begins.0).0 c.in-Err-read_group.ensures.place

pub returns-in_err-or_matchers-clause-place : goal.returns-in_err-or_matchers-clause-place
returns-in_err-or_matchers-clause-place c =
    err_within _ c.from_residual-in_err-or_matchers.result c.in_err-or_matchers.field-0.0 c.from_residual-in_err-or_matchers.ensures.1
    (λ f d begins left. c.in_err-or_matchers.ensures.place f d ((c.in_ok-matchers.ensures.left f d left begins.0).3 (Some (codes "or_matchers")) begins.1) begins.5)

pub returns-clause-left : goal.returns-clause-left
returns-clause-left c = λ f d begins left. c.in_ok-or_matchers.ensures.left f d ((c.in_ok-matchers.ensures.left f d left begins.0).3 (Some (codes "or_matchers")) begins.1)
