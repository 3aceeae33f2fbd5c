use Rattle.std.proofs.lemmas.Result.{err_from_is_err_and}
use Rattle.std.proofs.Common.{ap, sym, subst, refl, arith, length, map, string_bytes, List, Ok}
use Rattle.promql_text.specs.Texts.{Text}
use Rattle.promql_grammar.specs.SymbolsLeft.{symbols_left}
use Rattle.promql_syntax.proofs.parsing.Bases.{counted_on}
use Rattle.promql_syntax.proofs.parsing.LabelLists.{Naming, naming_starts, naming_none, naming_last, naming_more, naming_fails}
use Rattle.promql_syntax.proofs.grammar.labels.parse_label_list.Goals as goal

pub loop-kind-init : goal.loop-kind-init
loop-kind-init c =
    let stays = c.if-eat.ensures.stays refl in
    let all = symbols_left c.args.tokens.now in
    let empty = sym (ap (map string_bytes) c.new.ensures.items) in
    record {
      short = omega (arith, ap length stays);
      counts = c.if-eat.ensures.counts;
      goes = rw stays (subst (λ (ls : List Text). Naming all all (Ok ls)) empty (naming_starts all c.if-eat.ensures.gives));
    }

pub returns-then-branch-clause-gives : goal.returns-then-branch-clause-gives
returns-then-branch-clause-gives c =
    let ends = rw c.if-branch.true at c.in_ok-parse_label_end.ensures.gives in
    naming_last _ _ _ c.loop-kind.invariant.goes _ _ _ _ _ c.in-Some.ensures.gives ends c.in_ok-labels.ensures

pub loop-kind-preserved : goal.loop-kind-preserved
loop-kind-preserved c =
    let ends = rw c.if-branch.false at c.in_ok-parse_label_end.ensures.gives in
    let takes = c.in-Some.ensures.gives in
    record {
      short = let before = c.loop-kind.invariant.short in let after = c.in_ok-parse_label_end.ensures.short in omega (arith, ap length takes.first);
      counts = counted_on _ _ _ c.loop-kind.invariant.counts (counted_on _ _ _ c.in-Some.ensures.counts c.in_ok-parse_label_end.ensures.counts);
      goes = naming_more _ _ _ c.loop-kind.invariant.goes _ _ _ _ _ takes ends c.in_ok-labels.ensures;
    }

pub returns-clause-gives : goal.returns-clause-gives
returns-clause-gives c = rw c.in_default.ensures.gives.0 (naming_none _ _ _ c.loop-kind.invariant.goes c.in_default.ensures.gives.1)

pub returns-in_err-parse_label_end-clause-gives : goal.returns-in_err-parse_label_end-clause-gives
returns-in_err-parse_label_end-clause-gives c =
    let same = err_from_is_err_and c.from_residual-in_err-parse_label_end.result c.from_residual-in_err-parse_label_end.ensures.1 in
    rw (same.1, same.2) (naming_fails _ _ _ c.loop-kind.invariant.goes _ _ _ _ c.in-Some.ensures.gives c.in_err-parse_label_end.ensures.gives)

pub returns-then-branch-clause-counts : goal.returns-then-branch-clause-counts
returns-then-branch-clause-counts c = counted_on _ _ _ c.loop-kind.invariant.counts (counted_on _ _ _ c.in-Some.ensures.counts c.in_ok-parse_label_end.ensures.counts)
