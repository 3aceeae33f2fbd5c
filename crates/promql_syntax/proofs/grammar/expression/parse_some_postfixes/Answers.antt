use Rattle.std.proofs.Common.{◌≡◌, ◌∙◌, ◌+◌, ◌<◌, ◌^◌, length, refl, sym, subst, arith}
use Rattle.std.proofs.lemmas.Result.{err_from_is_err_and}
use Rattle.promql_grammar.specs.GrammarParts.{yield_postfix}
use Rattle.promql_grammar.specs.SymbolsLeft.{symbols_left, token_count}
use Rattle.promql_syntax.proofs.parsing.Bases.{counted_on, postfix_length}
use Rattle.promql_syntax.proofs.parsing.Postfixing.{recount_postfix, postfixing_first, postfixing_ends, postfixing_fails, postfixing_deep, postfixing_on, added_low}
use Rattle.promql_syntax.proofs.grammar.expression.parse_some_postfixes.Goals as goal

pub loop-parsed-init : goal.loop-parsed-init
loop-parsed-init c = record {
  low = c.requires.low_base;
  short = omega arith;
  counts = λ fits. refl;
  start = c.index-postfix_start.ensures;
  goes = λ n d k total built enough. postfixing_first n k c.args.max_height d (symbols_left c.args.tokens.now) c.args.base built enough;
}

pub returns-in_err-postfix-clause-gives : goal.returns-in_err-postfix-clause-gives
returns-in_err-postfix-clause-gives c = λ n d k total built enough.
    let same = err_from_is_err_and c.from_residual.result c.from_residual.ensures.1 in
    rw (same.1, same.2) (postfixing_fails n k c.args.max_height d _ _ _ (c.loop-parsed.invariant.goes n d k total built enough) _ c.in_err-postfix.ensures.gives)

pub overflow_add-parsed : goal.overflow_add-parsed
overflow_add-parsed c =
    let read = rw c.in-Some.is at c.in_ok-postfix.ensures.gives in
    let adds = (read.built).adds in
    let low = c.loop-parsed.invariant.low in
    let bound = c.requires.max_height in
    omega (arith, added_low read.part)

pub returns-then-max_height-parsed-clause-gives : goal.returns-then-max_height-parsed-clause-gives
returns-then-max_height-parsed-clause-gives c = λ n d k total built enough.
    let read = rw c.in-Some.is at c.in_ok-postfix.ensures.gives in
    postfixing_deep n k c.args.max_height d _ _ _ (c.loop-parsed.invariant.goes n d k total built enough) _ (rw c.in-Some.is at c.in_ok-postfix.ensures.taken) c.in-Some.postfix read.part read.is (recount_postfix n _ _ c.in-Some.postfix read.part (counted_on n _ _ total c.loop-parsed.invariant.counts) read.built) c.if-max_height-parsed.true

pub loop-parsed-preserved : goal.loop-parsed-preserved
loop-parsed-preserved c =
    let read = rw c.in-Some.is at c.in_ok-postfix.ensures.gives in
    let shorter = rw c.in-Some.is at c.in_ok-postfix.ensures.taken in
    let so_far = c.loop-parsed.invariant in
    record {
      low = let low = c.in_ok-parsed.ensures.low in let fits = c.if-max_height-parsed.false in omega arith;
      short = let short = c.loop-parsed.invariant.short in omega arith;
      counts = counted_on _ _ _ so_far.counts c.in_ok-postfix.ensures.counts;
      start = c.postfix-extent.ensures.end ∙ c.index.ensures;
      goes = λ n d k total built enough.
          let counted = counted_on n _ _ total so_far.counts in
          postfixing_on n k c.args.max_height d _ _ _ (so_far.goes n d k total built enough) _ shorter c.in-Some.postfix read.part read.is (recount_postfix n _ _ c.in-Some.postfix read.part counted read.built) _ c.if-max_height-parsed.false
          (λ e base is. c.in_ok-parsed.ensures.built _ n _ e read.part (λ fits.
          let same : token_count c.loop-parsed.tokens ≡ n = counted fits in
          let later : token_count c.parse_postfix.new.tokens ≡ token_count c.loop-parsed.tokens = c.in_ok-postfix.ensures.counts (subst (λ j. j < 2 ^ 64) (sym same) fits) in
          let taken : length (symbols_left c.loop-parsed.tokens) ≡ length (yield_postfix read.part) + length (symbols_left c.parse_postfix.new.tokens) = postfix_length _ _ read.part read.is in
          (omega (arith, c.postfix-extent.ensures.start, so_far.start), omega (arith, c.postfix-extent.ensures.end, c.index.ensures))) base is);
    }

pub returns-clause-gives : goal.returns-clause-gives
returns-clause-gives c = λ n d k total built enough. postfixing_ends n k c.args.max_height d _ _ _ (c.loop-parsed.invariant.goes n d k total built enough) _ (rw c.in_default.is at c.in_ok-postfix.ensures.gives)

pub returns-clause-low : goal.returns-clause-low
returns-clause-low c = c.loop-parsed.invariant.low

pub returns-clause-short : goal.returns-clause-short
returns-clause-short c = let short = c.loop-parsed.invariant.short in let shorter = c.in_ok-postfix.ensures.short in omega arith

pub returns-clause-counts : goal.returns-clause-counts
returns-clause-counts c = counted_on _ _ _ c.loop-parsed.invariant.counts c.in_ok-postfix.ensures.counts
