use Rattle.std.proofs.Common.{◌≡◌, ◌+◌, ◌*◌, ◌≤◌, true, length}
use Rattle.promql_grammar.specs.Parsing.{parse_expression}
use Rattle.promql_grammar.specs.Symbols.{begins}
use Rattle.promql_grammar.specs.SymbolsLeft.{CountsTaken, symbols_left, token_count}
use Rattle.promql_syntax.proofs.parsing.Climbing.{Climbing}
use Rattle.promql_syntax.proofs.parsing.Collecting.{Collecting}
use Rattle.promql_syntax.proofs.grammar.+parser.Given as goal

abbrev pub decreases-expression::parse_expression : goal.decreases-expression::parse_expression
decreases-expression::parse_expression l = 6 * l.max_height

abbrev pub decreases-call::parse_arguments : goal.decreases-call::parse_arguments
decreases-call::parse_arguments l = 6 * l.max_height + 1

abbrev pub decreases-call::parse_call : goal.decreases-call::parse_call
decreases-call::parse_call l = 6 * l.max_height + 2

abbrev pub decreases-aggregate::parse_aggregate : goal.decreases-aggregate::parse_aggregate
decreases-aggregate::parse_aggregate l = 6 * l.max_height + 2

abbrev pub decreases-expression::parse_postfix_base : goal.decreases-expression::parse_postfix_base
decreases-expression::parse_postfix_base l = 6 * l.max_height + 3

abbrev pub decreases-expression::parse_unary : goal.decreases-expression::parse_unary
decreases-expression::parse_unary l = 6 * l.max_height + 4

abbrev pub invariant-expression::parse_expression-loop-op : goal.invariant-expression::parse_expression-loop-op
invariant-expression::parse_expression-loop-op l = record {
  low : l.left.height ≤ l.max_height;
  under : l.max_height ≡ l.below + 1;
  short : length (symbols_left l.tokens) ≤ length (symbols_left l.fn.tokens);
  begun : begins (symbols_left l.fn.tokens) ≡ true;
  counts : CountsTaken l.fn.tokens l.tokens;
  goes : Climbing l.builds (token_count l.fn.tokens) l.max_height l.below l.min_precedence (symbols_left l.fn.tokens) l.left (symbols_left l.tokens);
}

abbrev pub decreases-expression::parse_expression-loop-op : goal.decreases-expression::parse_expression-loop-op
decreases-expression::parse_expression-loop-op l = length (symbols_left l.tokens)

abbrev pub invariant-call::parse_arguments-loop-alloc : goal.invariant-call::parse_arguments-loop-alloc
invariant-call::parse_arguments-loop-alloc l = record {
  low : l.args.height ≤ l.max_height;
  short : length (symbols_left l.tokens) ≤ length (symbols_left l.fn.tokens);
  counts : CountsTaken l.fn.tokens l.tokens;
  goes : Collecting l.builds (token_count l.fn.tokens) (parse_expression l.max_height) (symbols_left l.fn.tokens) l.args (symbols_left l.tokens);
}

abbrev pub decreases-call::parse_arguments-loop-alloc : goal.decreases-call::parse_arguments-loop-alloc
decreases-call::parse_arguments-loop-alloc l = length (symbols_left l.tokens)
