use Rattle.std.specs.Prelude.{true, false}
use Rattle.std.proofs.lemmas.Result.{err_from_is_err_and}
use Rattle.promql_grammar.specs.declared.token_kinds.TokenKind.TheVariants as kind
use Rattle.promql_grammar.specs.SymbolsLeft.{symbols_left}
use Rattle.promql_grammar.proofs.Eating.{at_word}
use Rattle.promql_syntax.proofs.parsing.ModifierReading.{group_left_read, group_right_read, group_fails, group_part}
use Rattle.promql_syntax.proofs.grammar.modifier.parse_group.Goals as goal

pub returns-in_err-labels-in-GroupLeft-clause-gives :
    goal.returns-in_err-labels-in-GroupLeft-clause-gives
returns-in_err-labels-in-GroupLeft-clause-gives c =
    let same = err_from_is_err_and c.from_residual.result c.from_residual.ensures.1 in
    let ts = symbols_left c.args.tokens.now in
    let us = symbols_left c.bump.new.self in
    let text = c.in-Some.field-0-1.now in
    let read = group_left_read ts us text (at_word ts us c.in-Some.kind kind.GroupLeft text c.in-Some.ensures c.in-GroupLeft.is c.bump.ensures.drops) in
    rw (same.1, same.2) (group_fails ts us true text read _ c.in_err-labels-in-GroupLeft.ensures.gives)

pub returns-in_err-labels-in-GroupRight-clause-gives :
    goal.returns-in_err-labels-in-GroupRight-clause-gives
returns-in_err-labels-in-GroupRight-clause-gives c =
    let same = err_from_is_err_and c.from_residual-in_err-labels-in-GroupRight.result c.from_residual-in_err-labels-in-GroupRight.ensures.1 in
    let ts = symbols_left c.args.tokens.now in
    let us = symbols_left c.bump-in-GroupRight.new.self in
    let text = c.in-Some.field-0-1.now in
    let read = group_right_read ts us text (at_word ts us c.in-Some.kind kind.GroupRight text c.in-Some.ensures c.in-GroupRight.is c.bump-in-GroupRight.ensures.drops) in
    rw (same.1, same.2) (group_fails ts us false text read _ c.in_err-labels-in-GroupRight.ensures.gives)

pub returns-in_ok-labels-in-GroupLeft-clause-gives :
    goal.returns-in_ok-labels-in-GroupLeft-clause-gives
returns-in_ok-labels-in-GroupLeft-clause-gives c =
    let ts = symbols_left c.args.tokens.now in
    let us = symbols_left c.bump.new.self in
    let text = c.in-Some.field-0-1.now in
    let read = group_left_read ts us text (at_word ts us c.in-Some.kind kind.GroupLeft text c.in-Some.ensures c.in-GroupLeft.is c.bump.ensures.drops) in
    group_part ts us true text read _ _ _ c.in_ok-labels-in-GroupLeft.ensures.gives c.build_group_left.ensures

pub returns-in_ok-labels-in-GroupRight-clause-gives :
    goal.returns-in_ok-labels-in-GroupRight-clause-gives
returns-in_ok-labels-in-GroupRight-clause-gives c =
    let ts = symbols_left c.args.tokens.now in
    let us = symbols_left c.bump-in-GroupRight.new.self in
    let text = c.in-Some.field-0-1.now in
    let read = group_right_read ts us text (at_word ts us c.in-Some.kind kind.GroupRight text c.in-Some.ensures c.in-GroupRight.is c.bump-in-GroupRight.ensures.drops) in
    group_part ts us false text read _ _ _ c.in_ok-labels-in-GroupRight.ensures.gives c.build_group_right.ensures
