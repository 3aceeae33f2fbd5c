use Rattle.std.proofs.Common.{None, Ok, Some, ap, refl, false, ◌∙◌}
use Rattle.promql_grammar.specs.GrammarParts as part
use Rattle.promql_grammar.specs.Results.{◌then◌}
use Rattle.promql_grammar.specs.SymbolsLeft.{symbols_left}
use Rattle.promql_kind.specs.Modifiers.{fills}
use Rattle.promql_syntax.proofs.parsing.ModifierReading.{right_alone}
use Rattle.promql_syntax.proofs.grammar.modifier.parse_fill_left.Goals as goal

pub returns-then-not-eat-clause-gives : goal.returns-then-not-eat-clause-gives
returns-then-not-eat-clause-gives c = λ t v filled. record {
  part = part.one false t v;
  is = right_alone t v (symbols_left c.args.tokens.now) (symbols_left c.eat.new.self) c.if-not-eat.ensures.gives (c.if-not-eat.ensures.stays refl);
  built = c.build_fill_right.ensures ∙ ap (λ r. r then λ n. Ok (fills (Some n) None)) filled;
}
