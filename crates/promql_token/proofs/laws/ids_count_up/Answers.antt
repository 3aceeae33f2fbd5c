use Rattle.std.proofs.Common.{◌≡◌, ◌∙◌, get_or, map, refl, ap}
use Rattle.promql_token.specs.TokenTables.{texts}
use Rattle.promql_token.specs.WordRanks.{count_up}
use Rattle.promql_token.proofs.words.WordRankTable.{counted}
use Rattle.promql_token.proofs.laws.ids_count_up.Goals as goal

they_count : map (λ row. row.0) texts ≡ count_up 0 86
they_count = refl

pub returns : goal.returns
returns c = λ k below. ap (λ ids. get_or ids k 0) they_count ∙ counted 86 k below
