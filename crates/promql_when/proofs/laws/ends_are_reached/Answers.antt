use Rattle.promql_when.proofs.AskedTimes.{asked_ends, asked_order}
use Rattle.promql_when.proofs.ReachedEnds.{first_reached, last_reached}
use Rattle.promql_when.proofs.laws.ends_are_reached.Goals as goal

pub returns : goal.returns
returns c = record {
  first = λ ts t w is some is_asked. first_reached is_asked ts t w (asked_order ts w is) some;
  last = λ ts t w is some is_asked. last_reached is_asked ts t w (asked_order ts w is) some;
  asked = asked_ends;
}
