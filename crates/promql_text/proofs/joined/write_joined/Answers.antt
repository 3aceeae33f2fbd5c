use Rattle.std.specs.Fmt.{formatter_spec}
use Rattle.promql_text.proofs.writing.Joins.{writes_what_it_displays}
use Rattle.promql_text.proofs.writing.AllOptions.{writes_what_it_styles}
use Rattle.promql_text.proofs.joined.write_joined.Goals as goal

pub returns : goal.returns
returns g c = record {
  writes = λ text is. c.write_joined_by.ensures.writes text (λ item before r after writes.
      writes_what_it_displays g.W.Write.write_str_gives before.now r _ (text item.now) after.now (is item.now) writes.0);
  styled = λ text is. c.write_joined_by.ensures.styled text (λ item before r after writes.
      writes_what_it_styles g.W.Write.write_str_gives before.now after.now r _ (text item.now) (is item.now (formatter_spec before.now)) writes.1);
}
