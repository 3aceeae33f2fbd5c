use Rattle.std.proofs.Common.{◌≡◌, drop}
use Rattle.std.specs.List.{list_all}
use Rattle.promql_text.specs.QuoteReaders.{is_plain_byte}
use Rattle.promql_text.proofs.quote.is_plain.Given as goal

abbrev pub invariant-loop-b : goal.invariant-loop-b
invariant-loop-b l = list_all (is_plain_byte l.quote) l.body ≡ list_all (is_plain_byte l.quote) (drop l.b-index l.body)
