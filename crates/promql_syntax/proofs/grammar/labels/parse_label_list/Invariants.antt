use Rattle.std.proofs.Common.{◌≤◌, length}
use Rattle.promql_grammar.specs.SymbolsLeft.{CountsTaken, symbols_left}
use Rattle.promql_label.specs.Labels.{labels_of}
use Rattle.promql_syntax.specs.BuildErrors.{view_result}
use Rattle.promql_syntax.proofs.parsing.LabelLists.{Naming}
use Rattle.promql_syntax.proofs.grammar.labels.parse_label_list.Given as goal

abbrev pub invariant-loop-kind : goal.invariant-loop-kind
invariant-loop-kind l = record {
  short : length (symbols_left l.tokens) ≤ length (symbols_left l.fn.tokens);
  counts : CountsTaken l.fn.tokens l.tokens;
  goes : Naming (symbols_left l.fn.tokens) (symbols_left l.tokens) (view_result labels_of l.labels);
}

abbrev pub decreases-loop-kind : goal.decreases-loop-kind
decreases-loop-kind l = length (symbols_left l.tokens)
