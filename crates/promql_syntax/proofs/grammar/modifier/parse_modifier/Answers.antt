use Rattle.promql_grammar.specs.SymbolsLeft.{symbols_left}
use Rattle.promql_syntax.proofs.parsing.ModifierReading.{modifier_part}
use Rattle.promql_syntax.proofs.grammar.modifier.parse_modifier.Goals as goal

pub returns-clause-gives : goal.returns-clause-gives
returns-clause-gives c = modifier_part (symbols_left c.args.tokens.now) (symbols_left c.eat_bool-return_bool.new.tokens) (symbols_left c.parse_matching.new.tokens) (symbols_left c.parse_fills.new.tokens) _ _ _ _ c.eat_bool-return_bool.ensures.gives c.in_ok-matching.ensures.gives c.in_ok-fills.ensures.gives c.build_modifier.ensures
