use Rattle.std.proofs.Common.{ap, refl, ◌∙◌, drop}
use Rattle.promql_grammar.specs.Symbols.{begins}
use Rattle.promql_grammar.specs.SymbolsLeft.{symbols_left}
use Rattle.promql_syntax.specs.Atoms.{parse_atom}
use Rattle.promql_syntax.proofs.parsing.Bases.{bases_same}
use Rattle.promql_syntax.proofs.parsing.AtomBases.{number_base, duration_base, string_base, nameless_base, leaf_named}
use Rattle.promql_syntax.proofs.parsing.FirstTokens.{name_begins}
use Rattle.promql_syntax.proofs.grammar.atom.parse_atom.Goals as goal

pub returns-in_ok-build_number-in-Number-clause-gives : goal.returns-in_ok-build_number-in-Number-clause-gives
returns-in_ok-build_number-in-Number-clause-gives c =
    rw c.bump.ensures.drops (number_base c.args.kind c.args.text.now (drop 1 (symbols_left c.args.tokens.now)) _ _ c.in-Number.is c.in_ok-build_number-in-Number.ensures.built c.in_ok-build_number-in-Number.ensures.low)

pub returns-in_ok-build_duration-in-Duration-clause-gives : goal.returns-in_ok-build_duration-in-Duration-clause-gives
returns-in_ok-build_duration-in-Duration-clause-gives c =
    rw c.bump-in-Duration.ensures.drops (duration_base c.args.kind c.args.text.now (drop 1 (symbols_left c.args.tokens.now)) _ _ c.in-Duration.is c.in_ok-build_duration-in-Duration.ensures.built c.in_ok-build_duration-in-Duration.ensures.low)

pub returns-in_ok-build_string-in-String-clause-gives : goal.returns-in_ok-build_string-in-String-clause-gives
returns-in_ok-build_string-in-String-clause-gives c =
    rw c.bump-in-String.ensures.drops (string_base c.args.kind c.args.text.now (drop 1 (symbols_left c.args.tokens.now)) _ _ c.in-String.is c.in_ok-build_string-in-String.ensures.built c.in_ok-build_string-in-String.ensures.low)

pub returns-in_ok-build_braces-in-LeftBrace-clause-gives : goal.returns-in_ok-build_braces-in-LeftBrace-clause-gives
returns-in_ok-build_braces-in-LeftBrace-clause-gives c =
    nameless_base c.args.kind c.args.text.now (drop 1 (symbols_left c.args.tokens.now)) _ _ _ _ c.in-LeftBrace.is (rw c.bump-in-LeftBrace.ensures.drops at c.in_ok-matchers-in-LeftBrace.ensures.gives)
    c.in_ok-build_braces-in-LeftBrace.ensures.built c.in_ok-build_braces-in-LeftBrace.ensures.low

pub returns-in_default : goal.returns-in_default
returns-in_default c = record {
  gives = bases_same _ _ _ _ _ _ (λ fits. refl) (λ k n. parse_atom k n c.args.kind c.args.text.now (drop 1 (symbols_left c.args.tokens.now)))
      (λ k n. leaf_named k n c.args.kind c.args.text.now _ c.in_default.not-Number c.in_default.not-Duration c.in_default.not-String c.in_default.not-LeftBrace) c.parse_named.ensures.gives;
  low = c.parse_named.ensures.low;
  short = c.parse_named.ensures.short;
  counts = c.parse_named.ensures.counts;
  memory = λ is. ap begins c.requires ∙ name_begins c.args.kind c.args.text.now _ (c.parse_named.ensures.memory is);
}
