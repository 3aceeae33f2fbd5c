use Rattle.std.proofs.Common.{◌≡◌, ◌∙◌, ap, List, ◌∷◌}
use Rattle.std.specs.Prelude.{Ok}
use Rattle.std.proofs.lemmas.Result.{err_from_is_err_and}
use Rattle.promql_text.specs.Texts.{Text}
use Rattle.promql_grammar.specs.declared.token_kinds.TokenKind.TheVariants as kind
use Rattle.promql_grammar.specs.GrammarParts.{Signed}
use Rattle.promql_grammar.specs.Parsing.{eat_sign, parse_fill_value, parse_fill_value_end}
use Rattle.promql_grammar.specs.Results.{◌then◌}
use Rattle.promql_grammar.specs.Symbols.{Symbol, punct}
use Rattle.promql_grammar.specs.PartTokens.{parse_signed_number}
use Rattle.promql_syntax.proofs.parsing.PartSteps.{number_then, value_fails, value_open}
use Rattle.promql_syntax.proofs.grammar.modifier.parse_fill_value.Goals as goal

-- a number with its sign, in parentheses
value_read : (ts us vs rest : List Symbol) (p : Signed × Text) → ts ≡ punct kind.LeftParen ∷ us → parse_signed_number us ≡ Ok (p, vs) → vs ≡ punct kind.RightParen ∷ rest
    → parse_fill_value ts ≡ Ok ((p.0, p.1), rest)
value_read ts us vs rest p opens reads closes =
    ap parse_fill_value opens ∙ number_then (eat_sign us) (λ s n rest. parse_fill_value_end s n rest)
    ∙ ap (λ o. o then λ x. parse_fill_value_end x.0.0 x.0.1 x.1) reads ∙ ap (parse_fill_value_end p.0 p.1) closes

pub returns-in_err-expect-2-clause-gives :
    goal.returns-in_err-expect-2-clause-gives
returns-in_err-expect-2-clause-gives c =
    let same = err_from_is_err_and c.from_residual-in_err-expect-2.result c.from_residual-in_err-expect-2.ensures.1 in
    let fails = c.in_err-expect-2.ensures.fails in
    let number = c.in_ok-number.ensures.gives in
    rw (same.1, same.2, fails.0, c.in_err-expect-2.ensures.stays) (value_open _ _ _ number.part c.in_ok-expect.ensures.gives.first number.is fails.1)

pub returns-in_err-number-clause-gives :
    goal.returns-in_err-number-clause-gives
returns-in_err-number-clause-gives c =
    let same = err_from_is_err_and c.from_residual-in_err-number.result c.from_residual-in_err-number.ensures.1 in
    rw (same.1, same.2) (value_fails _ _ _ c.in_ok-expect.ensures.gives.first c.in_err-number.ensures.gives)

pub returns-clause-gives : goal.returns-clause-gives
returns-clause-gives c =
    let number = c.in_ok-number.ensures.gives in
    record {
      part = (number.part.0, number.part.1);
      is = value_read _ _ _ _ number.part c.in_ok-expect.ensures.gives.first number.is c.in_ok-expect-2.ensures.gives.first;
      built = number.built;
    }
