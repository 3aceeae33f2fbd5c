use Rattle.std.proofs.Common.{◌≡◌, ◌∙◌, get_or, map, refl, ap}
use Rattle.promql_grammar.specs.declared.token_kinds.TheConstants.{TOKEN_KINDS}
use Rattle.promql_token.specs.WordRanks.{count_up}
use Rattle.promql_token.proofs.words.WordRankTable.{counted}
use Rattle.promql_grammar.proofs.KindUses.{kind_by_list}
use Rattle.promql_grammar.proofs.laws.kinds_by_id.Goals as goal

they_count : map (λ row. row.0) TOKEN_KINDS ≡ count_up 0 86
they_count = refl

pub returns-clause-ids : goal.returns-clause-ids
returns-clause-ids c = λ k below. ap (λ ids. get_or ids k 0) they_count ∙ counted 86 k below

pub returns-clause-kind : goal.returns-clause-kind
returns-clause-kind c = kind_by_list
