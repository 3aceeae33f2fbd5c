use Rattle.std.proofs.Common.{◌≡◌, refl}
use Rattle.promql_token.specs.Ids.{text_of}
use Rattle.promql_label.specs.PlainMatchers.{Operator, equal, not_equal, matches, matches_not, operator_text}
use Rattle.promql_label.specs.ReadMatchers.{operator_id}
use Rattle.promql_label.proofs.laws.operators_print_as_their_tokens.Goals as goal

same_text : (op : Operator) → operator_text op ≡ text_of (operator_id op)
same_text equal = refl
same_text not_equal = refl
same_text (matches w) = refl
same_text (matches_not w) = refl

pub returns : goal.returns
returns c = same_text
