use Rattle.std.proofs.Common.{◌∙◌, ap, sym, subst, drop, None, Ok}
use Rattle.promql_grammar.specs.Parsing.{parse_match_operator}
use Rattle.promql_grammar.specs.SymbolsLeft.{symbols_left}
use Rattle.promql_grammar.specs.MatcherTokens.{IsMatchOperator}
use Rattle.promql_grammar.proofs.MatcherTokens.{match_operator, no_match_operator}
use Rattle.promql_grammar.proofs.matcher_tokens.eat_match_operator.Goals as goal

pub returns-in_default-match_operator-clause-gives : goal.returns-in_default-match_operator-clause-gives
returns-in_default-match_operator-clause-gives c =
    let front = c.in-Some.ensures in
    let rest = drop 1 (symbols_left c.args.tokens.now) in
    ap parse_match_operator front ∙ no_match_operator c.in-Some.kind c.in-Some.field-0-1.now rest (c.in_default-match_operator.ensures c.in-Some.field-0-1.now) ∙ ap (λ ts. Ok (None, ts)) (sym front)

pub returns-clause-gives : goal.returns-clause-gives
returns-clause-gives c =
    let front = c.in-Some.ensures in
    let rest = drop 1 (symbols_left c.args.tokens.now) in
    let operator = c.in-Some-match_operator.operator in
    let read = match_operator c.in-Some.kind c.in-Some.field-0-1.now rest operator (c.in-Some-match_operator.ensures c.in-Some.field-0-1.now) in
    rw c.bump.ensures.drops (subst (λ ts. IsMatchOperator operator rest (parse_match_operator ts)) (sym front) read)
