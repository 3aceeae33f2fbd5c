use Rattle.promql_rewrite.proofs.readback.ParsedPrintable.{parsed_printable}
use Rattle.promql_rewrite.proofs.readback.PrintableByNodes.{printable_apart}
use Rattle.promql_rewrite.proofs.laws.parsed_trees_are_printable.Goals as goal

pub returns : goal.returns
returns c = λ g source t h. printable_apart g t (parsed_printable g c.checked_trees_are_typed.ensures source t h)
