use Rattle.std.proofs.Common.{sym, drop}
use Rattle.promql_grammar.specs.SymbolsLeft.{symbols_left}
use Rattle.promql_syntax.specs.Atoms.{parse_named}
use Rattle.promql_syntax.proofs.parsing.AtomBases.{named_selector, not_named}
use Rattle.promql_syntax.proofs.parsing.Bases.{bases_same}
use Rattle.promql_syntax.proofs.grammar.atom.parse_named.Goals as goal

pub returns-then-not-may_be_name-clause-gives : goal.returns-then-not-may_be_name-clause-gives
returns-then-not-may_be_name-clause-gives c = not_named c.args.kind c.args.name.now _ _ (sym c.if-not-may_be_name.ensures) c.requires

pub returns-clause-gives : goal.returns-clause-gives
returns-clause-gives c =
    bases_same _ _ _ _ _ _ c.bump.ensures.counts (λ k n. parse_named k n c.args.kind c.args.name.now (drop 1 (symbols_left c.args.tokens.now)))
    (λ k n. named_selector c.args.kind c.args.name.now _ _ k n (sym c.if-not-may_be_name.ensures) c.bump.ensures.drops) c.parse_selector.ensures.gives
