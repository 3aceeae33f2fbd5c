use Rattle.std.proofs.Common.{◌≤◌, length}
use Rattle.promql_grammar.specs.SymbolsLeft.{CountsTaken, symbols_left}
use Rattle.promql_label.specs.MatcherViews.{plain_matchers_of}
use Rattle.promql_syntax.specs.BuildErrors.{view_result}
use Rattle.promql_syntax.proofs.parsing.MatcherLists.{Selecting}
use Rattle.promql_syntax.proofs.grammar.selector.parse_braces.Given as goal

abbrev pub invariant-loop-matchers : goal.invariant-loop-matchers
invariant-loop-matchers l = record {
  short : length (symbols_left l.tokens) ≤ length (symbols_left l.fn.tokens);
  counts : CountsTaken l.fn.tokens l.tokens;
  goes : Selecting l.builds (symbols_left l.fn.tokens) (symbols_left l.tokens) (view_result plain_matchers_of l.matchers) l.by_or;
}

abbrev pub decreases-loop-matchers : goal.decreases-loop-matchers
decreases-loop-matchers l = length (symbols_left l.tokens)
