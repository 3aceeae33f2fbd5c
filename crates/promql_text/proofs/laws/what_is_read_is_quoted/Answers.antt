use Rattle.promql_text.proofs.quoting.TextsRead.{text_is_quoted}
use Rattle.promql_text.proofs.laws.what_is_read_is_quoted.Goals as goal

pub returns : goal.returns
returns c = text_is_quoted
