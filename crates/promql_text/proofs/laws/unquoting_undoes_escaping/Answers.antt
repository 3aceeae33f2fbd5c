use Rattle.promql_text.proofs.quoting.Quotes.{unquoted_text-quoted}
use Rattle.promql_text.proofs.laws.unquoting_undoes_escaping.Goals as goal

pub returns : goal.returns
returns c = unquoted_text-quoted
