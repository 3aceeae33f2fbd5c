use Rattle.std.proofs.Common.{◌≡◌, subst}
use Rattle.std.specs.Prelude.{IfOk, option_map}
use Rattle.serde_json.specs.View.{view}
use Rattle.promql_ast.specs.View.{tree_of}
use Rattle.promql_when.specs.MayRead.{may_read}
use Rattle.promql_c.specs.SeriesText.{series_in}
use Rattle.promql_c.proofs.SeriesAnswers.{gives}
use Rattle.promql_c.proofs.reading.text_of_may_read.Goals as goal

pub returns-in-Ok-Some : goal.returns-in-Ok-Some
returns-in-Ok-Some c =
    let t = tree_of c.args.expr.now in let d = view c.in-Ok.value in
    let one = rw c.in-Ok-Some.is at c.in-Ok-Some.field-0-is in
    gives c.args.labels.now t d c.in-Ok-Some.field-0 c.in-Ok-Some.may c.bool_text.result c.in-Ok.ensures.ok
    (subst (λ answer. IfOk answer (λ found. found ≡ option_map (λ series. may_read series t) (series_in d))) c.in-Ok-Some.is c.value_may_read-may.ensures)
    one c.bool_text.ensures.ok c.bool_text.ensures.err
