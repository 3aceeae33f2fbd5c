use Rattle.std.proofs.Common.{◌∙◌, ap, Some, codes}
use Rattle.promql_from_json.specs.FormMisfits.{by_row, one, word}
use Rattle.promql_from_json.specs.declared.from_error.Expected.TheVariants.{StartOrEnd}
use Rattle.promql_from_json.proofs.read_selectors.read_at.Goals as goal

pub returns-in-Err-clause-place : goal.returns-in-Err-clause-place
returns-in-Err-clause-place c = λ f d word time start has.
    c.inside.ensures.place f (one StartOrEnd) d _ (by_row f (one StartOrEnd) d (codes "startOrEnd") word) start (c.in-Err.ensures.place c.in-Err.ensures.err)

pub returns-in-Err-read_timestamp-clause-place : goal.returns-in-Err-read_timestamp-clause-place
returns-in-Err-read_timestamp-clause-place c = λ f d word time start has.
    let asked = c.in-Err-read_timestamp.ensures.place f d time (start ∙ ap Some c.in-Ok.ensures.start) in
    c.inside-in-Err-read_timestamp.ensures.place f asked.0 d _ asked.1 has asked.2
