use Rattle.std.proofs.Common.{◌≡◌, ◌<◌, true, ap, sym, subst, refl, arith, length, Ok, false}
use Rattle.std.proofs.lemmas.Result.{err_from_is_err_and}
use Rattle.promql_grammar.specs.SymbolsLeft.{symbols_left}
use Rattle.promql_syntax.proofs.parsing.Bases.{counted_on}
use Rattle.promql_syntax.proofs.parsing.MatcherLists.{Selecting, selecting_starts, selecting_none, selecting_fails, selecting_last, selecting_more}
use Rattle.promql_syntax.proofs.grammar.selector.parse_braces.Goals as goal

pub loop-matchers-init : goal.loop-matchers-init
loop-matchers-init c =
    let stays = c.if-eat.ensures.stays refl in
    let all = symbols_left c.args.tokens.now in
    record {
      short = omega (arith, ap length stays);
      counts = c.if-eat.ensures.counts;
      goes = rw stays (subst (λ cs. Selecting c.args.builds all all (Ok cs) false) (sym c.empty.ensures) (selecting_starts c.args.builds all c.if-eat.ensures.gives));
    }

pub returns-in_err-item-clause-gives : goal.returns-in_err-item-clause-gives
returns-in_err-item-clause-gives c =
    let same = err_from_is_err_and c.from_residual.result c.from_residual.ensures.1 in
    rw (same.1, same.2) (selecting_none _ _ _ _ _ c.loop-matchers.invariant.goes _ c.in_err-item.ensures.gives)

pub returns-in_err-next_by_or-clause-gives : goal.returns-in_err-next_by_or-clause-gives
returns-in_err-next_by_or-clause-gives c =
    let same = err_from_is_err_and c.from_residual-in_err-next_by_or.result c.from_residual-in_err-next_by_or.ensures.1 in
    let read = c.in_ok-item.ensures.gives in
    let some : 0 < length (symbols_left c.loop-matchers.tokens) = let short = c.in_ok-item.ensures.short in omega arith in
    rw (same.1, same.2) (selecting_fails _ _ _ _ _ c.loop-matchers.invariant.goes read.part _ _ some read.is c.in_err-next_by_or.ensures.gives)

pub loop-matchers-preserved : goal.loop-matchers-preserved
loop-matchers-preserved c =
    let so_far = c.loop-matchers.invariant in
    let read = c.in_ok-item.ensures.gives in
    let ends = rw c.in-Some.is at c.in_ok-next_by_or.ensures.gives in
    let added = λ (on : c.args.builds ≡ true). c.in_ok-append_item.ensures on read.part so_far.goes.separator read.same so_far.goes.same in
    record {
      short = let before = so_far.short in let shorter = c.in_ok-item.ensures.short in let shortest = c.in_ok-next_by_or.ensures.short in omega arith;
      counts = counted_on _ _ _ c.loop-matchers.invariant.counts (counted_on _ _ _ c.in_ok-item.ensures.counts c.in_ok-next_by_or.ensures.counts);
      goes = selecting_more _ _ _ _ _ so_far.goes read.part _ _ _ _ read.is ends c.in_ok-item.ensures.short c.in_ok-next_by_or.ensures.short added;
    }

pub returns-in-None-clause-gives : goal.returns-in-None-clause-gives
returns-in-None-clause-gives c =
    let so_far = c.loop-matchers.invariant in
    let read = c.in_ok-item.ensures.gives in
    let ends = rw c.in-None.is at c.in_ok-next_by_or.ensures.gives in
    let added = λ (on : c.args.builds ≡ true). c.in_ok-append_item.ensures on read.part so_far.goes.separator read.same so_far.goes.same in
    let some : 0 < length (symbols_left c.loop-matchers.tokens) = let short = c.in_ok-item.ensures.short in omega arith in
    selecting_last _ _ _ _ _ so_far.goes read.part _ _ _ read.is some ends added

pub returns-in-None-clause-counts : goal.returns-in-None-clause-counts
returns-in-None-clause-counts c = counted_on _ _ _ c.loop-matchers.invariant.counts (counted_on _ _ _ c.in_ok-item.ensures.counts c.in_ok-next_by_or.ensures.counts)
