use Rattle.promql_rewrite.proofs.readback.PrintableByNodes.{printable_joined}
use Rattle.promql_rewrite.proofs.readback.PrintableTexts.{printable_line, printable_lines}
use Rattle.promql_rewrite.proofs.laws.printable_trees_read_back.Goals as goal

pub returns : goal.returns
returns c = record {
  line = λ g t h. printable_line g t (printable_joined g t h);
  lines = λ g t h. printable_lines g t (printable_joined g t h);
}
