use Rattle.std.proofs.Common.{◌≡◌, sym}
use Rattle.std.specs.Prelude.{None, Ok}
use Rattle.promql_grammar.specs.Parsing.{parse_postfix}
use Rattle.promql_grammar.specs.SymbolsLeft.{symbols_left}
use Rattle.promql_syntax.proofs.parsing.Postfixing.{no_postfix_at, no_postfix_left, no_postfixes}
use Rattle.promql_syntax.proofs.grammar.expression.parse_postfixes.Goals as goal
use Rattle.promql_syntax.proofs.grammar.expression.parse_postfixes.Goals.{in_default-via-in-Some+else-starts_postfix, in_default-via-in_default}

none_comes : (c : goal.In_default) → parse_postfix (symbols_left c.args.tokens.now) ≡ Ok (None, symbols_left c.args.tokens.now)
none_comes c = elim c.in_default.branch [
  | in_default-via-in-Some+else-starts_postfix w ↦ no_postfix_at _ _ w.in-Some.kind _ w.in-Some.ensures (sym w.if-starts_postfix.ensures)
  | in_default-via-in_default w ↦ no_postfix_left _ w.in_default.ensures
]

pub returns-in_default-clause-gives : goal.returns-in_default-clause-gives
returns-in_default-clause-gives c = λ n d k total built enough. no_postfixes n k c.args.max_height d (symbols_left c.args.tokens.now) c.args.base built enough (none_comes c)
