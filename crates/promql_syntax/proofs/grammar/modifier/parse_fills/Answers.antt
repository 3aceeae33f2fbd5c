use Rattle.promql_grammar.specs.declared.token_kinds.TokenKind.TheVariants as kind
use Rattle.promql_grammar.specs.SymbolsLeft.{symbols_left}
use Rattle.promql_grammar.proofs.Eating.{at_word}
use Rattle.promql_syntax.proofs.parsing.ModifierReading.{left_filled, right_filled}
use Rattle.promql_syntax.proofs.grammar.modifier.parse_fills.Goals as goal

pub returns-in_ok-left-in-FillLeft-clause-gives : goal.returns-in_ok-left-in-FillLeft-clause-gives
returns-in_ok-left-in-FillLeft-clause-gives c =
    let value = c.in_ok-left-in-FillLeft.ensures.gives in
    let text = c.in-Some.field-0-1.now in
    let ts = symbols_left c.args.tokens.now in
    let us = symbols_left c.bump-in-FillLeft.new.self in
    let vs = symbols_left c.parse_fill_value-in-FillLeft.new.tokens in
    let read = left_filled ts us vs text value.part (at_word ts us c.in-Some.kind kind.FillLeft text c.in-Some.ensures c.in-FillLeft.is c.bump-in-FillLeft.ensures.drops) value.is in
    rw read (c.parse_fill_right.ensures.gives text value.part value.built)

pub returns-in_ok-right-in-FillRight-clause-gives :
    goal.returns-in_ok-right-in-FillRight-clause-gives
returns-in_ok-right-in-FillRight-clause-gives c =
    let value = c.in_ok-right-in-FillRight.ensures.gives in
    let text = c.in-Some.field-0-1.now in
    let ts = symbols_left c.args.tokens.now in
    let us = symbols_left c.bump-in-FillRight.new.self in
    let vs = symbols_left c.parse_fill_value-in-FillRight.new.tokens in
    let read = right_filled ts us vs text value.part (at_word ts us c.in-Some.kind kind.FillRight text c.in-Some.ensures c.in-FillRight.is c.bump-in-FillRight.ensures.drops) value.is in
    rw read (c.parse_fill_left.ensures.gives text value.part value.built)
