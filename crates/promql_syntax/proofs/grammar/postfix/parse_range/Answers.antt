use Rattle.promql_grammar.specs.declared.token_kinds.TokenKind.TheVariants as kind
use Rattle.promql_grammar.proofs.Eating.{at_word}
use Rattle.promql_syntax.proofs.parsing.PartSteps.{colon_given}
use Rattle.promql_syntax.proofs.grammar.postfix.parse_range.Goals as goal

pub returns-in-Colon-clause-gives : goal.returns-in-Colon-clause-gives
returns-in-Colon-clause-gives c = λ n.
    let range = c.in_ok-range.ensures.gives in
    colon_given n _ _ _ _ range.part _ range.is (at_word _ _ c.in-Some.kind kind.Colon _ c.in-Some.ensures c.in-Colon.is c.bump-in-Colon.ensures.drops) (c.parse_step.ensures.gives n range.part range.built)
