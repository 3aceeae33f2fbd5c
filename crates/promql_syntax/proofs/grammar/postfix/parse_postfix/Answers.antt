use Rattle.std.proofs.Common.{◌≡◌, ◌∙◌, ap, List, ◌∷◌, Some}
use Rattle.std.specs.Prelude.{Ok}
use Rattle.std.proofs.lemmas.Result.{err_from_is_err_and}
use Rattle.promql_text.specs.Texts.{Text}
use Rattle.promql_grammar.specs.declared.token_kinds.TokenKind.TheVariants as kind
use Rattle.promql_grammar.specs.GrammarParts.{Signed, Time, offset}
use Rattle.promql_grammar.specs.Parsing.{eat_sign, parse_postfix}
use Rattle.promql_grammar.specs.Results.{◌then◌}
use Rattle.promql_grammar.specs.Symbols.{Symbol, symbol}
use Rattle.promql_grammar.specs.SymbolsLeft.{symbols_left}
use Rattle.promql_grammar.specs.PartTokens.{parse_offset}
use Rattle.promql_syntax.specs.Postfixes.{by_shift}
use Rattle.promql_grammar.proofs.Eating.{at_word}
use Rattle.promql_syntax.proofs.parsing.PartSteps.{offset_fails, time_then}
use Rattle.promql_syntax.proofs.parsing.ResultSteps.{fails_same}
use Rattle.promql_syntax.proofs.grammar.postfix.parse_postfix.Goals as goal

-- a time with its sign follows `offset`
offset_read : (t : Text) (ts us rest : List Symbol) (p : Signed × Time) → ts ≡ symbol kind.Offset t ∷ us → parse_offset us ≡ Ok (p, rest) → parse_postfix ts ≡ Ok (Some (offset t p.0 p.1), rest)
offset_read t ts us rest p front reads =
    ap parse_postfix front ∙ time_then (eat_sign us) (λ s u rest. Ok (Some (offset t s u), rest)) ∙ ap (λ o. o then λ x. Ok (Some (offset t x.0.0 x.0.1), x.1)) reads

pub returns-in_err-offset-in-Offset-clause-gives : goal.returns-in_err-offset-in-Offset-clause-gives
returns-in_err-offset-in-Offset-clause-gives c =
    let same = err_from_is_err_and c.from_residual-in_err-offset-in-Offset.result c.from_residual-in_err-offset-in-Offset.ensures.1 in
    let ts = symbols_left c.args.tokens.now in
    let us = symbols_left c.bump-in-Offset.new.self in
    let text = c.in-Some.field-0-1.now in
    let front = at_word ts us c.in-Some.kind kind.Offset text c.in-Some.ensures c.in-Offset.is c.bump-in-Offset.ensures.drops in
    rw (same.1, same.2) (offset_fails _ text ts us front c.in_err-offset-in-Offset.ensures.gives)

pub returns-in_ok-offset-in-Offset-clause-gives : goal.returns-in_ok-offset-in-Offset-clause-gives
returns-in_ok-offset-in-Offset-clause-gives c =
    let ts = symbols_left c.args.tokens.now in
    let us = symbols_left c.bump-in-Offset.new.self in
    let text = c.in-Some.field-0-1.now in
    let front = at_word ts us c.in-Some.kind kind.Offset text c.in-Some.ensures c.in-Offset.is c.bump-in-Offset.ensures.drops in
    let read = c.in_ok-offset-in-Offset.ensures.gives in
    record {
      part = offset text read.part.0 read.part.1;
      is = offset_read text ts us _ read.part front read.is;
      built = record {
        value = c.same_height.ensures.value ∙ c.build_offset.ensures ∙ ap (λ r. r then λ x. Ok (by_shift x)) read.built;
        adds = c.same_height.ensures.height;
        moment = λ fits. tt;
      };
    }

pub returns-in_err-parse_range-in-LeftBracket-clause-gives : goal.returns-in_err-parse_range-in-LeftBracket-clause-gives
returns-in_err-parse_range-in-LeftBracket-clause-gives c =
    let same = err_from_is_err_and c.from_residual.result c.from_residual.ensures.1 in
    let front = at_word (symbols_left c.args.tokens.now) _ c.in-Some.kind kind.LeftBracket c.in-Some.field-0-1.now c.in-Some.ensures c.in-LeftBracket.is c.bump.ensures.drops in
    rw (same.1, same.2) (fails_same _ _ _ (ap parse_postfix front) (c.in_err-parse_range-in-LeftBracket.ensures.gives 0))
