use Rattle.std.proofs.Common.{refl}
use Rattle.promql_grammar.specs.Parsing.{parse_selector}
use Rattle.promql_grammar.specs.SymbolsLeft.{symbols_left}
use Rattle.promql_syntax.proofs.parsing.Bases.{bases_same}
use Rattle.promql_syntax.proofs.parsing.AtomBases.{bare_base, named_selected}
use Rattle.promql_syntax.proofs.grammar.atom.parse_selector.Goals as goal

pub returns-then-eat-clause-gives : goal.returns-then-eat-clause-gives
returns-then-eat-clause-gives c =
    bases_same _ _ _ _ _ _ c.if-eat.ensures.counts (λ k n. parse_selector k n c.args.kind c.args.name.now (symbols_left c.args.tokens.now))
    (λ k n. named_selected k n c.args.kind c.args.name.now _ _ c.requires c.if-eat.ensures.gives.first) (c.parse_selector_braces.ensures.gives c.args.kind)

pub returns-clause-gives : goal.returns-clause-gives
returns-clause-gives c =
    rw (c.if-eat.ensures.stays refl) (bare_base c.args.kind c.args.name.now _ _ _ c.requires c.if-eat.ensures.gives c.in_ok-build_name.ensures.built c.in_ok-build_name.ensures.low)
