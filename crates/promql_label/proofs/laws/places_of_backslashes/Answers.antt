use Rattle.promql_label.proofs.regex_answers.EscapedPlaces.{by_backslashes, by_places}
use Rattle.promql_label.proofs.laws.places_of_backslashes.Goals as goal

pub returns : goal.returns
returns c = record { bytes = by_backslashes; places = by_places }
