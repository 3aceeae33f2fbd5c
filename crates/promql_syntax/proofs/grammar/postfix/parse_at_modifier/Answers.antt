use Rattle.std.proofs.Common.{arith}
use Rattle.std.proofs.lemmas.Result.{err_from_is_err_and}
use Rattle.promql_grammar.specs.SymbolsLeft.{token_count}
use Rattle.promql_syntax.proofs.parsing.PartSteps.{moment_placed, number_fails, number_held}
use Rattle.promql_syntax.proofs.grammar.postfix.parse_at_modifier.Goals as goal

pub returns-in_ok-build_at_modifier-in_default-kind : goal.returns-in_ok-build_at_modifier-in_default-kind
returns-in_ok-build_at_modifier-in_default-kind c =
    let counts = c.in_ok-seconds-in_default-kind.ensures.counts in
    record {
      gives = number_held (token_count c.args.tokens.now) _ _ _ c.in-Some.kind _ _ _ c.same_height.result c.in-Some.ensures c.in_default-kind.not-Start c.in_default-kind.not-End c.in_ok-seconds-in_default-kind.ensures.gives c.in_ok-build_at_modifier-in_default-kind.ensures.value c.same_height.ensures.value c.same_height.ensures.height
          (λ s text viewed taken fits. moment_placed (token_count c.args.tokens.now) _ c.index-start.result c.index.result s text _ _ _ _ c.same_height.ensures.is c.tokens-place.ensures viewed c.in_ok-build_at_modifier-in_default-kind.ensures.place
          (omega (arith, taken, c.index-start.ensures)) (omega (arith, counts fits, c.index.ensures)));
      short = c.in_ok-seconds-in_default-kind.ensures.short;
      counts = counts;
    }

pub returns-in_err-seconds-in_default-kind : goal.returns-in_err-seconds-in_default-kind
returns-in_err-seconds-in_default-kind c =
    let same = err_from_is_err_and c.from_residual.result c.from_residual.ensures.1 in
    record {
      gives = rw (same.1, same.2) (number_fails _ _ _ c.in-Some.kind _ c.in-Some.ensures c.in_default-kind.not-Start c.in_default-kind.not-End c.in_err-seconds-in_default-kind.ensures.gives);
      short = rw same.1 tt;
      counts = rw same.1 tt;
    }
