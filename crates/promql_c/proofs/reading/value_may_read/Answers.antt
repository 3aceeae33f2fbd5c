use Rattle.serde_json.specs.View.{view}
use Rattle.promql_ast.specs.View.{tree_of}
use Rattle.promql_when.specs.MayRead.{may_read}
use Rattle.promql_c.specs.SeriesText.{series_in}
use Rattle.promql_c.proofs.SeriesAnswers.{told}
use Rattle.promql_c.proofs.reading.value_may_read.Goals as goal

pub returns-in_ok-may_read-in-Some : goal.returns-in_ok-may_read-in-Some
returns-in_ok-may_read-in-Some c =
    told (λ series. may_read series (tree_of c.args.expr.now)) c.in_ok-labels.field-0 c.in-Some.labels c.as_slice.result.now (series_in (view c.args.value.now))
    c.in_ok-may_read-in-Some.field-0 c.in_ok-labels.ensures c.in-Some.is c.as_slice.ensures.value c.in_ok-may_read-in-Some.ensures
