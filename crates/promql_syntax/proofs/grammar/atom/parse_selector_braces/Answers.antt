use Rattle.promql_grammar.specs.SymbolsLeft.{symbols_left}
use Rattle.promql_syntax.proofs.parsing.AtomBases.{selected_base}
use Rattle.promql_syntax.proofs.grammar.atom.parse_selector_braces.Goals as goal

pub returns-clause-gives : goal.returns-clause-gives
returns-clause-gives c = λ kind. selected_base kind c.args.name.now (symbols_left c.args.tokens.now) _ _ _ _ c.in_ok-matchers.ensures.gives c.in_ok-build_selector.ensures.built c.in_ok-build_selector.ensures.low
