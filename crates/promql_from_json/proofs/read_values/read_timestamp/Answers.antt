use Rattle.std.proofs.Common.{◌≢◌, codes, rules}
use Rattle.promql_from_json.specs.FormMisfits.{by_row, by_start_or_end, one, or_null}
use Rattle.promql_from_json.specs.declared.from_error.Expected.TheVariants.{Millis, NoTimestamp}
use Rattle.promql_from_json.proofs.ReadForms.{err_within}
use Rattle.promql_from_json.proofs.ErrorPlaces.{one_here, nullable, moment_word, no_time, no_other_time, none_ok, on_err}
use Rattle.serde_json.specs.declared.value.Value.{the_lemmas}
use Rattle.promql_ast.specs.Shifts.{moment_of}
use Rattle.serde_json.specs.Data.{null}
use Rattle.serde_json.specs.View.{view}
use Rattle.promql_from_json.proofs.read_values.read_timestamp.Goals as goal

pub returns-in_default : goal.returns-in_default
returns-in_default c =
    let full : view c.args.value.now ≢ null = search (rules, the_lemmas, c.in_default.not-Null-0) in
    let word = moment_word (moment_of c.in_default.field-0-1) (rw c.in_default.is-1 at c.requires) in
    record {
      same = tt;
      time = tt;
      err = λ at fine same. no_time _ _ at full (rw c.in_default.is-1 word) same;
      place = λ f d time start. (one NoTimestamp, by_start_or_end f d _ time start (rw c.in_default.is-1 word), c.here.ensures (one NoTimestamp) _ (one_here NoTimestamp _ full));
    }

pub returns-in_err-read_i64-in_default-None : goal.returns-in_err-read_i64-in_default-None
returns-in_err-read_i64-in_default-None c =
    let full : view c.args.value.now ≢ null = search (rules, the_lemmas, c.in_default-None.not-Null-0) in
    record {
      same = none_ok _ c.from_residual.result c.from_residual.ensures.0;
      time = none_ok _ c.from_residual.result c.from_residual.ensures.0;
      err = on_err _ c.from_residual.result (λ at fine same. no_other_time _ at full c.in_err-read_i64-in_default-None.ensures.err fine (rw c.in_default-None.is-1 at same));
      place = err_within _ c.from_residual.result c.in_err-read_i64-in_default-None.field-0.0 c.from_residual.ensures.1
          (λ f d time start. (
            or_null (one Millis),
            by_row f (or_null (one Millis)) d (codes "timestamp") time,
            nullable (one Millis) _ _ full (c.in_err-read_i64-in_default-None.ensures.place c.in_err-read_i64-in_default-None.ensures.err),
          ));
    }
