use Rattle.std.proofs.Common.{subst}
use Rattle.promql_grammar.proofs.Sound.{Good, expression_sound}
use Rattle.promql_grammar.proofs.Unique.{whole}
use Rattle.promql_grammar.proofs.laws.parsing_is_sound_and_complete.Goals as goal

pub returns : goal.returns
returns c = record {
  complete = whole;
  formed = λ n ts rest d is. (subst (Good n 0 ts) is ((expression_sound n).by 0 ts)).formed;
  low = λ n ts rest d is. (subst (Good n 0 ts) is ((expression_sound n).by 0 ts)).low;
  spells = λ n ts rest d is. (subst (Good n 0 ts) is ((expression_sound n).by 0 ts)).spells;
  too_deep = λ n ts is. subst (Good n 0 ts) is ((expression_sound n).by 0 ts);
}
