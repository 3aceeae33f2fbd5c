use Rattle.promql_grammar.specs.SymbolsLeft.{symbols_left}
use Rattle.promql_syntax.proofs.parsing.ModifierReading.{flag_read, flag_short}
use Rattle.promql_syntax.proofs.grammar.modifier.eat_bool.Goals as goal

pub returns-clause-gives : goal.returns-clause-gives
returns-clause-gives c = flag_read c.eat.result (symbols_left c.args.tokens.now) _ c.eat.ensures.gives c.eat.ensures.stays

pub returns-clause-short : goal.returns-clause-short
returns-clause-short c = flag_short c.eat.result (symbols_left c.args.tokens.now) _ c.eat.ensures.gives c.eat.ensures.stays
