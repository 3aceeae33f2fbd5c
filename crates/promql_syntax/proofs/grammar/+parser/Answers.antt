use Rattle.std.proofs.Common.{◌≡◌, ◌+◌, ◌-◌, ◌≤◌, ◌∙◌, ap, sym, refl, arith, drop, length}
use Rattle.std.proofs.lemmas.Result.{err_from_is_err_and}
use Rattle.promql_grammar.specs.declared.token_kinds.TokenKind.TheVariants as kind
use Rattle.promql_grammar.specs.Grammar as grammar
use Rattle.promql_grammar.specs.Grammar.{yield}
use Rattle.promql_grammar.specs.GrammarParts.{yield_modifier}
use Rattle.promql_grammar.specs.Parsing.{parse_arguments, parse_expression, parse_unary, parse_call, parse_aggregate, parse_selector}
use Rattle.promql_grammar.specs.SymbolsLeft.{symbols_left, token_count}
use Rattle.promql_grammar.proofs.Eating.{at_word}
use Rattle.promql_syntax.proofs.parsing.FirstTokens.{called_first, called_none, leaf_first, base_begins, given_begins}
use Rattle.promql_syntax.proofs.parsing.Bases.{bases_same, counted_on, expression_length, modifier_length, recounted, recounted_args, recounted_base, postfixed_given, sign_fails, sign_given, paren_open, paren_base, call_fails, call_base, aggregated_none, after_fails, after_clause_fails, after_base, before_fails, before_open, before_arguments_fail, before_base}
use Rattle.promql_syntax.proofs.parsing.Climbing.{expression_zero, expression_fails, climbing_first, climbing_stops, climbing_deep, climbing_unmodified, climbing_fails, climbing_on}
use Rattle.promql_syntax.proofs.parsing.Collecting.{arguments_fail, collecting_first, collecting_fails, collecting_on, collecting_none, collecting_ends}
use Rattle.promql_syntax.proofs.grammar.+parser.Goals as goal

-- ---- expressions

pub expression::parse_expression-returns-then-max_height-eq0-clause-gives : goal.expression::parse_expression-returns-then-max_height-eq0-clause-gives
expression::parse_expression-returns-then-max_height-eq0-clause-gives t c = expression_zero _ _ _ c.if-max_height-eq0.true

pub expression::parse_expression-returns-in_err-left-clause-gives : goal.expression::parse_expression-returns-in_err-left-clause-gives
expression::parse_expression-returns-in_err-left-clause-gives t c =
    let same = err_from_is_err_and c.from_residual.result c.from_residual.ensures.1 in
    let under : c.args.max_height ≡ (c.args.max_height - 1) + 1 = let some = c.if-max_height-eq0.false in omega arith in
    rw (same.1, same.2) (expression_fails _ _ _ _ _ under (c.in_err-left.ensures.gives _ (omega arith)))

pub expression::parse_expression-loop-op-init : goal.expression::parse_expression-loop-op-init
expression::parse_expression-loop-op-init t c =
    let under : c.args.max_height ≡ (c.args.max_height - 1) + 1 = let some = c.if-max_height-eq0.false in omega arith in
    let gives = c.in_ok-left.ensures.gives (length (symbols_left c.args.tokens.now)) (omega arith) in
    record {
      low = let low = c.in_ok-left.ensures.low in omega arith;
      under = under;
      short = c.in_ok-left.ensures.short;
      counts = c.in_ok-left.ensures.counts;
      begun = given_begins (parse_expression (c.args.max_height - 1)) _ _ (symbols_left c.args.tokens.now) _ _ gives;
      goes = climbing_first _ _ _ _ _ _ _ under gives c.in_ok-left.ensures.short;
    }

pub expression::parse_expression-returns-clause-gives : goal.expression::parse_expression-returns-clause-gives
expression::parse_expression-returns-clause-gives t c = rw c.in_default.ensures.stays (climbing_stops _ _ _ _ _ _ _ c.loop-op.invariant.goes c.in_default.ensures.gives)

pub expression::parse_expression-returns-then-below-left-clause-gives : goal.expression::parse_expression-returns-then-below-left-clause-gives
expression::parse_expression-returns-then-below-left-clause-gives t c =
    climbing_deep _ _ _ _ _ _ _ c.loop-op.invariant.goes _ _ c.in-Some.ensures.gives c.if-below-left.true

pub expression::parse_expression-returns-in_err-modifier-clause-gives : goal.expression::parse_expression-returns-in_err-modifier-clause-gives
expression::parse_expression-returns-in_err-modifier-clause-gives t c =
    let same = err_from_is_err_and c.from_residual-in_err-modifier.result c.from_residual-in_err-modifier.ensures.1 in
    rw (same.1, same.2) (climbing_unmodified _ _ _ _ _ _ _ c.loop-op.invariant.goes _ _ c.in-Some.ensures.gives _ (let low = c.if-below-left.false in omega arith) c.in_err-modifier.ensures.gives)

pub expression::parse_expression-returns-in_err-right-clause-gives : goal.expression::parse_expression-returns-in_err-right-clause-gives
expression::parse_expression-returns-in_err-right-clause-gives t c =
    let same = err_from_is_err_and c.from_residual-in_err-right.result c.from_residual-in_err-right.ensures.1 in
    let modifier = c.in_ok-modifier.ensures.gives in
    rw (same.1, same.2) (climbing_fails _ _ _ _ _ _ _ c.loop-op.invariant.goes _ _ c.in-Some.ensures.gives modifier.part _ modifier.is _ (let low = c.if-below-left.false in omega arith) (rw c.right_precedence.ensures at c.in_err-right.ensures.gives))

pub expression::parse_expression-loop-op-preserved : goal.expression::parse_expression-loop-op-preserved
expression::parse_expression-loop-op-preserved t c =
    let so_far = c.loop-op.invariant in
    let takes = c.in-Some.ensures.gives in
    let low_left : c.loop-op.left.height ≤ c.args.max_height - 1 = let high = c.if-below-left.false in omega arith in
    let modifier = c.in_ok-modifier.ensures.gives in
    let n = token_count c.args.tokens.now in
    let to_operator = counted_on n _ _ so_far.counts c.in-Some.ensures.counts in
    let to_right = counted_on n _ _ to_operator c.in_ok-modifier.ensures.counts in
    let given = recounted n _ _ _ _ to_right (rw (c.right_precedence.ensures, c.goes_on-right_builds.ensures) at c.in_ok-right.ensures.gives) in
    record {
      low = let under = so_far.under in let right = c.in_ok-right.ensures.low in let made = c.in_ok-left-2.ensures.low in omega arith;
      under = so_far.under;
      short = let one = c.in_ok-modifier.ensures.short in let short = c.in_ok-right.ensures.short in let before = so_far.short in omega (arith, ap length takes.first);
      begun = so_far.begun;
      counts = counted_on _ _ _ so_far.counts (counted_on _ _ _ c.in-Some.ensures.counts (counted_on _ _ _ c.in_ok-modifier.ensures.counts c.in_ok-right.ensures.counts));
      goes = climbing_on n _ _ _ _ _ _ so_far.goes _ _ takes modifier.part _ modifier.is _ _ _ low_left given
          (λ text l left right. c.in_ok-left-2.ensures.built _ n _ text modifier.part l given.derivation (λ fits.
          let first : token_count c.eat_operator.new.tokens ≡ n = to_operator fits in
          let next : token_count c.parse_optional_modifier.new.tokens ≡ n = to_right fits in
          let modifier_taken : length (symbols_left c.eat_operator.new.tokens) ≡ length (yield_modifier modifier.part) + length (symbols_left c.parse_optional_modifier.new.tokens) = modifier_length _ _ modifier.part modifier.is in
          let right_taken : length (symbols_left c.parse_optional_modifier.new.tokens) ≡ length (yield given.derivation) + length (symbols_left c.parse_expression.new.tokens) = expression_length _ _ _ _ given.derivation given.is in
          (omega (arith, c.index-modifier_start.ensures), omega (arith, c.index-right_start.ensures)))
          modifier.built left right);
    }

-- ---- forms without a binary operator outside

pub expression::parse_unary-returns-in_err-operand-clause-gives : goal.expression::parse_unary-returns-in_err-operand-clause-gives
expression::parse_unary-returns-in_err-operand-clause-gives t c = λ k enough.
    let same = err_from_is_err_and c.from_residual.result c.from_residual.ensures.1 in
    rw (same.1, same.2) (sign_fails (parse_expression c.args.max_height) k (c.args.max_height + 1) c.in-Some.op _ _ _ c.in-Some.ensures.gives c.in_err-operand.ensures.gives)

pub expression::parse_unary-returns-in-Some-clause-gives : goal.expression::parse_unary-returns-in-Some-clause-gives
expression::parse_unary-returns-in-Some-clause-gives t c = λ k enough.
    sign_given (token_count c.args.tokens.now) (parse_expression c.args.max_height) k (c.args.max_height + 1) c.in-Some.op _ _ _ _ _ c.in-Some.ensures.gives (recounted _ _ _ _ _ c.in-Some.ensures.counts c.in_ok-operand.ensures.gives) (c.in_ok-build_unary.ensures.built _ _ _)

pub expression::parse_unary-returns-in_err-base-clause-gives : goal.expression::parse_unary-returns-in_err-base-clause-gives
expression::parse_unary-returns-in_err-base-clause-gives t c = λ k enough.
    let same = err_from_is_err_and c.from_residual-in_err-base.result c.from_residual-in_err-base.ensures.1 in
    rw (same.1, same.2) (rw c.in_default.ensures.stays at (c.in_err-base.ensures.gives k (c.args.max_height + 1)))

pub expression::parse_unary-returns-clause-gives : goal.expression::parse_unary-returns-clause-gives
expression::parse_unary-returns-clause-gives t c = λ k enough.
    postfixed_given (token_count c.args.tokens.now) _ c.in_ok-base.base _ _ (λ k n. parse_unary (parse_expression c.args.max_height) k n (symbols_left c.args.tokens.now)) k (c.args.max_height + 1)
    (rw c.in_default.ensures.stays at (recounted_base (token_count c.args.tokens.now) _ _ _ _ c.in_default.ensures.counts c.in_ok-base.ensures.gives)) (let short = c.in_ok-base.ensures.short in let same = c.in_default.ensures.stays in omega (arith, ap length same))
    (λ d j built more. c.parse_postfixes.ensures.gives (token_count c.args.tokens.now) d j (counted_on _ _ _ c.in_default.ensures.counts c.in_ok-base.ensures.counts) built more)

pub expression::parse_unary-returns-clause-memory : goal.expression::parse_unary-returns-clause-memory
expression::parse_unary-returns-clause-memory t c = λ is. base_begins (parse_expression c.args.max_height) (symbols_left c.args.tokens.now) _ c.in_ok-base.base (rw c.in_default.ensures.stays at c.in_ok-base.ensures.gives)

-- ---- bases

pub expression::parse_postfix_base-returns-then-may_be_called-clause-gives : goal.expression::parse_postfix_base-returns-then-may_be_called-clause-gives
expression::parse_postfix_base-returns-then-may_be_called-clause-gives t c =
    bases_same _ _ _ _ _ _ (λ fits. refl) (λ k n. parse_unary (parse_expression c.args.max_height) k n (symbols_left c.args.tokens.now))
    (λ k n. ap (parse_unary (parse_expression c.args.max_height) k n) c.in-Some.ensures ∙ called_first (parse_expression c.args.max_height) k n c.in-Some.kind c.in-Some.text.now _ (sym c.if-may_be_called.ensures)) c.parse_call.ensures.gives

pub expression::parse_postfix_base-returns-in_err-expect-in-LeftParen-clause-gives : goal.expression::parse_postfix_base-returns-in_err-expect-in-LeftParen-clause-gives
expression::parse_postfix_base-returns-in_err-expect-in-LeftParen-clause-gives t c =
    let same = err_from_is_err_and c.from_residual-in_err-expect-in-LeftParen.result c.from_residual-in_err-expect-in-LeftParen.ensures.1 in
    let fails = c.in_err-expect-in-LeftParen.ensures.fails in
    let stays = c.in_err-expect-in-LeftParen.ensures.stays in
    rw (same.1, same.2, fails.0, stays) (paren_open (parse_expression c.args.max_height) c.in-Some.text.now _ _ (at_word _ _ c.in-Some.kind kind.LeftParen c.in-Some.text.now c.in-Some.ensures c.in-LeftParen.is c.bump.ensures.drops) c.in_ok-inner-in-LeftParen.inner _ c.in_ok-inner-in-LeftParen.ensures.gives fails.1)

pub expression::parse_postfix_base-returns-in_ok-build_paren-in-LeftParen-clause-gives : goal.expression::parse_postfix_base-returns-in_ok-build_paren-in-LeftParen-clause-gives
expression::parse_postfix_base-returns-in_ok-build_paren-in-LeftParen-clause-gives t c =
    paren_base (parse_expression c.args.max_height) c.in-Some.text.now _ _ (at_word _ _ c.in-Some.kind kind.LeftParen c.in-Some.text.now c.in-Some.ensures c.in-LeftParen.is c.bump.ensures.drops) (token_count c.args.tokens.now) c.in_ok-inner-in-LeftParen.inner _ _ _
    (recounted _ _ _ _ _ c.bump.ensures.counts c.in_ok-inner-in-LeftParen.ensures.gives) c.in_ok-expect-in-LeftParen.ensures.gives.first (c.in_ok-build_paren-in-LeftParen.ensures.built _ _ _)

pub expression::parse_postfix_base-returns-in-Aggregator-clause-gives : goal.expression::parse_postfix_base-returns-in-Aggregator-clause-gives
expression::parse_postfix_base-returns-in-Aggregator-clause-gives t c =
    bases_same _ _ _ _ _ _ c.bump-in-Aggregator.ensures.counts (λ k n. parse_unary (parse_expression c.args.max_height) k n (symbols_left c.args.tokens.now))
    (λ k n. ap (parse_unary (parse_expression c.args.max_height) k n) (at_word _ _ c.in-Some.kind (kind.Aggregator c.in-Aggregator.op) c.in-Some.text.now c.in-Some.ensures c.in-Aggregator.is c.bump-in-Aggregator.ensures.drops)) c.parse_aggregate.ensures.gives

pub expression::parse_postfix_base-returns-in_default-kind-clause-gives : goal.expression::parse_postfix_base-returns-in_default-kind-clause-gives
expression::parse_postfix_base-returns-in_default-kind-clause-gives t c =
    bases_same _ _ _ _ _ _ (λ fits. refl) (λ k n. parse_unary (parse_expression c.args.max_height) k n (symbols_left c.args.tokens.now))
    (λ k n. ap (parse_unary (parse_expression c.args.max_height) k n) c.in-Some.ensures ∙ leaf_first (parse_expression c.args.max_height) k n c.in-Some.kind c.in-Some.text.now _ (sym c.if-may_be_called.ensures)
    c.in_default-kind.not-LeftParen c.in_default-kind.not-Aggregator (rw c.in-Some.ensures at c.requires.unsigned)) c.parse_atom.ensures.gives

-- ---- calls

pub call::parse_call-returns-then-not-eat-clause-gives : goal.call::parse_call-returns-then-not-eat-clause-gives
call::parse_call-returns-then-not-eat-clause-gives t c =
    bases_same _ _ _ _ _ _ (counted_on _ _ _ c.bump.ensures.counts c.if-not-eat.ensures.counts) (λ k n. parse_call (parse_expression c.args.max_height) k n c.args.kind c.args.name.now (drop 1 (symbols_left c.args.tokens.now)))
    (λ k n. ap (parse_call (parse_expression c.args.max_height) k n c.args.kind c.args.name.now) (sym c.bump.ensures.drops) ∙ called_none (parse_expression c.args.max_height) k n c.args.kind c.args.name.now _ c.if-not-eat.ensures.gives
    ∙ ap (parse_selector k n c.args.kind c.args.name.now) (sym (c.if-not-eat.ensures.stays refl))) c.parse_selector.ensures.gives

pub call::parse_call-returns-in_err-args-clause-gives : goal.call::parse_call-returns-in_err-args-clause-gives
call::parse_call-returns-in_err-args-clause-gives t c =
    let same = err_from_is_err_and c.from_residual.result c.from_residual.ensures.1 in
    rw (same.1, same.2) (call_fails (parse_expression c.args.max_height) c.args.kind c.args.name.now _ _ (sym c.bump.ensures.drops ∙ c.if-not-eat.ensures.gives.first) _ c.in_err-args.ensures.gives)

pub call::parse_call-returns-clause-gives : goal.call::parse_call-returns-clause-gives
call::parse_call-returns-clause-gives t c =
    let n = token_count c.args.tokens.now in
    let given = recounted_args n _ _ _ _ _ (counted_on n _ _ c.bump.ensures.counts c.if-not-eat.ensures.counts) c.in_ok-args.ensures.gives in
    let front = c.if-not-eat.ensures.gives.first in
    call_base (parse_expression c.args.max_height) c.args.kind c.args.name.now _ _ (sym c.bump.ensures.drops ∙ front) n c.in_ok-args.args _ _ given
    (c.in_ok-build_call.ensures.built _ n _ c.args.kind given.derivations (λ fits. omega (arith, ap length c.requires.1.1.1.1, ap length c.bump.ensures.drops, ap length front, given.taken, c.index-start.ensures, c.atom-extent.ensures)))

pub call::parse_arguments-returns-in_err-first-clause-gives : goal.call::parse_arguments-returns-in_err-first-clause-gives
call::parse_arguments-returns-in_err-first-clause-gives t c =
    let same = err_from_is_err_and c.from_residual.result c.from_residual.ensures.1 in
    rw (same.1, same.2) (arguments_fail (parse_expression c.args.max_height) _ _ c.if-eat.ensures.gives (rw (c.if-eat.ensures.stays refl) at c.in_err-first.ensures.gives))

pub call::parse_arguments-returns-then-eat-clause-gives : goal.call::parse_arguments-returns-then-eat-clause-gives
call::parse_arguments-returns-then-eat-clause-gives t c = record {
  derivations = grammar.none;
  is = ap (parse_arguments (parse_expression c.args.max_height)) c.if-eat.ensures.gives.first;
  taken = omega (arith, ap length c.if-eat.ensures.gives.first);
  built = c.empty_arguments-args.ensures.built _ _ _;
}

pub call::parse_arguments-loop-alloc-init : goal.call::parse_arguments-loop-alloc-init
call::parse_arguments-loop-alloc-init t c =
    let stays = c.if-eat.ensures.stays refl in
    record {
      low = let parse_unary = c.in_ok-first.ensures.low in let made = c.in_ok-args.ensures.low in let none = c.empty_arguments-args.ensures.low in omega arith;
      short = let short = c.in_ok-first.ensures.short in omega (arith, ap length stays);
      counts = counted_on _ _ _ c.if-eat.ensures.counts c.in_ok-first.ensures.counts;
      goes =
          let given = rw stays at (recounted (token_count c.args.tokens.now) _ _ _ _ c.if-eat.ensures.counts c.in_ok-first.ensures.gives) in
          collecting_first (token_count c.args.tokens.now) (parse_expression c.args.max_height) _ _ c.empty_arguments-args.result _ c.in_ok-first.first c.if-eat.ensures.gives given
          (expression_length _ _ _ _ given.derivation given.is) (λ k. c.empty_arguments-args.ensures.built _ _ k) (c.in_ok-args.ensures.built _ _ _);
    }

pub call::parse_arguments-loop-alloc-preserved : goal.call::parse_arguments-loop-alloc-preserved
call::parse_arguments-loop-alloc-preserved t c =
    let so_far = c.loop-alloc.invariant in
    let front = c.loop-alloc-test.ensures.gives.first in
    record {
      low = let next = c.in_ok-next.ensures.low in let made = c.in_ok-args-2.ensures.low in let before = so_far.low in omega arith;
      short = let short = c.in_ok-next.ensures.short in let before = so_far.short in omega (arith, ap length front);
      counts = counted_on _ _ _ so_far.counts (counted_on _ _ _ c.loop-alloc-test.ensures.counts c.in_ok-next.ensures.counts);
      goes =
          let given = recounted (token_count c.args.tokens.now) _ _ _ _ (counted_on _ _ _ so_far.counts c.loop-alloc-test.ensures.counts) (rw c.goes_on-next_builds.ensures at c.in_ok-next.ensures.gives) in
          collecting_on (token_count c.args.tokens.now) (parse_expression c.args.max_height) _ _ c.loop-alloc.args so_far.goes _ _ _ c.in_ok-next.next front given
          (expression_length _ _ _ _ given.derivation given.is) (c.in_ok-args-2.ensures.built _ _ _);
    }

pub call::parse_arguments-returns-in_err-next-clause-gives : goal.call::parse_arguments-returns-in_err-next-clause-gives
call::parse_arguments-returns-in_err-next-clause-gives t c =
    let same = err_from_is_err_and c.from_residual-in_err-next.result c.from_residual-in_err-next.ensures.1 in
    rw (same.1, same.2) (collecting_fails _ (parse_expression c.args.max_height) _ _ c.loop-alloc.args c.loop-alloc.invariant.goes _ _ c.loop-alloc-test.ensures.gives.first c.in_err-next.ensures.gives)

pub call::parse_arguments-returns-in_err-expect-clause-gives : goal.call::parse_arguments-returns-in_err-expect-clause-gives
call::parse_arguments-returns-in_err-expect-clause-gives t c =
    let same = err_from_is_err_and c.from_residual-in_err-expect.result c.from_residual-in_err-expect.ensures.1 in
    let fails = c.in_err-expect.ensures.fails in
    let stays = c.in_err-expect.ensures.stays ∙ c.loop-alloc-test.ensures.stays refl in
    rw (same.1, same.2, fails.0, stays) (collecting_none _ (parse_expression c.args.max_height) _ _ c.loop-alloc.args c.loop-alloc.invariant.goes c.loop-alloc-test.ensures.gives (rw (c.loop-alloc-test.ensures.stays refl) at fails.1))

pub call::parse_arguments-returns-clause-gives : goal.call::parse_arguments-returns-clause-gives
call::parse_arguments-returns-clause-gives t c =
    collecting_ends _ (parse_expression c.args.max_height) _ _ c.loop-alloc.args c.loop-alloc.invariant.goes _ (sym (c.loop-alloc-test.ensures.stays refl) ∙ c.in_ok-expect.ensures.gives.first)

-- ---- aggregations

pub aggregate::parse_aggregate-returns-in_err-args-clause-gives : goal.aggregate::parse_aggregate-returns-in_err-args-clause-gives
aggregate::parse_aggregate-returns-in_err-args-clause-gives t c =
    let same = err_from_is_err_and c.from_residual.result c.from_residual.ensures.1 in
    rw (same.1, same.2) (after_fails (parse_expression c.args.max_height) c.args.op c.args.name.now _ _ c.if-eat.ensures.gives.first _ c.in_err-args.ensures.gives)

pub aggregate::parse_aggregate-returns-in_err-grouping-clause-gives : goal.aggregate::parse_aggregate-returns-in_err-grouping-clause-gives
aggregate::parse_aggregate-returns-in_err-grouping-clause-gives t c =
    let same = err_from_is_err_and c.from_residual-in_err-grouping.result c.from_residual-in_err-grouping.ensures.1 in
    rw (same.1, same.2) (after_clause_fails (parse_expression c.args.max_height) c.args.op c.args.name.now _ _ c.if-eat.ensures.gives.first c.in_ok-args.args _ c.in_ok-args.ensures.gives _ c.in_err-grouping.ensures.gives)

pub aggregate::parse_aggregate-returns-then-eat-clause-gives : goal.aggregate::parse_aggregate-returns-then-eat-clause-gives
aggregate::parse_aggregate-returns-then-eat-clause-gives t c =
    after_base (parse_expression c.args.max_height) c.args.op c.args.name.now _ _ c.if-eat.ensures.gives.first c.in_ok-args.args _ (recounted_args _ _ _ _ _ _ c.if-eat.ensures.counts c.in_ok-args.ensures.gives) c.in_ok-grouping.grouping _ _ c.in_ok-grouping.ensures.gives (c.in_ok-build_aggregate.ensures.built _ _ _)

pub aggregate::parse_aggregate-returns-then-not-starts_grouping-clause-gives : goal.aggregate::parse_aggregate-returns-then-not-starts_grouping-clause-gives
aggregate::parse_aggregate-returns-then-not-starts_grouping-clause-gives t c =
    let stays = c.if-eat.ensures.stays refl in
    bases_same _ _ _ _ _ _ c.if-eat.ensures.counts (λ k n. parse_aggregate (parse_expression c.args.max_height) k n c.args.op c.args.name.now (symbols_left c.args.tokens.now))
    (λ k n. aggregated_none (parse_expression c.args.max_height) k n c.args.op c.args.name.now _ c.if-eat.ensures.gives (rw stays at c.if-not-starts_grouping.ensures) ∙ ap (parse_selector k n (kind.Aggregator c.args.op) c.args.name.now) (sym stays)) c.parse_selector.ensures.gives

pub aggregate::parse_aggregate-returns-in_err-grouping-2-clause-gives : goal.aggregate::parse_aggregate-returns-in_err-grouping-2-clause-gives
aggregate::parse_aggregate-returns-in_err-grouping-2-clause-gives t c =
    let same = err_from_is_err_and c.from_residual-in_err-grouping-2.result c.from_residual-in_err-grouping-2.ensures.1 in
    let stays = c.if-eat.ensures.stays refl in
    rw (same.1, same.2) (before_fails (parse_expression c.args.max_height) c.args.op c.args.name.now _ _ (rw stays at c.if-not-starts_grouping.ensures) (rw stays at c.in_err-grouping-2.ensures.gives))

pub aggregate::parse_aggregate-returns-in_err-expect-clause-gives : goal.aggregate::parse_aggregate-returns-in_err-expect-clause-gives
aggregate::parse_aggregate-returns-in_err-expect-clause-gives t c =
    let same = err_from_is_err_and c.from_residual-in_err-expect.result c.from_residual-in_err-expect.ensures.1 in
    let fails = c.in_err-expect.ensures.fails in
    let stays = c.if-eat.ensures.stays refl in
    let left = c.in_err-expect.ensures.stays in
    rw (same.1, same.2, fails.0, left) (before_open (parse_expression c.args.max_height) c.args.op c.args.name.now _ _ (rw stays at c.if-not-starts_grouping.ensures) c.in_ok-grouping-2.grouping (rw stays at c.in_ok-grouping-2.ensures.gives) fails.1)

pub aggregate::parse_aggregate-returns-in_err-args-2-clause-gives : goal.aggregate::parse_aggregate-returns-in_err-args-2-clause-gives
aggregate::parse_aggregate-returns-in_err-args-2-clause-gives t c =
    let same = err_from_is_err_and c.from_residual-in_err-args-2.result c.from_residual-in_err-args-2.ensures.1 in
    let stays = c.if-eat.ensures.stays refl in
    rw (same.1, same.2) (before_arguments_fail (parse_expression c.args.max_height) c.args.op c.args.name.now _ _ (rw stays at c.if-not-starts_grouping.ensures) c.in_ok-grouping-2.grouping (rw stays at c.in_ok-grouping-2.ensures.gives) _ c.in_ok-expect.ensures.gives.first _ c.in_err-args-2.ensures.gives)

pub aggregate::parse_aggregate-returns-clause-gives : goal.aggregate::parse_aggregate-returns-clause-gives
aggregate::parse_aggregate-returns-clause-gives t c =
    let stays = c.if-eat.ensures.stays refl in
    before_base (parse_expression c.args.max_height) c.args.op c.args.name.now _ _ (rw stays at c.if-not-starts_grouping.ensures) c.in_ok-grouping-2.grouping (rw stays at c.in_ok-grouping-2.ensures.gives) _ c.in_ok-expect.ensures.gives.first (token_count c.args.tokens.now) c.in_ok-args-2.args _ _
    (recounted_args _ _ _ _ _ _ (counted_on _ _ _ c.if-eat.ensures.counts (counted_on _ _ _ c.in_ok-grouping-2.ensures.counts c.in_ok-expect.ensures.counts)) c.in_ok-args-2.ensures.gives) (c.in_ok-build_aggregate-2.ensures.built _ _ _)

-- ---- how many tokens are taken

pub call::parse_arguments-returns-clause-counts : goal.call::parse_arguments-returns-clause-counts
call::parse_arguments-returns-clause-counts t c = counted_on _ _ _ c.loop-alloc.invariant.counts (counted_on _ _ _ c.loop-alloc-test.ensures.counts c.in_ok-expect.ensures.counts)

pub expression::parse_expression-returns-clause-counts : goal.expression::parse_expression-returns-clause-counts
expression::parse_expression-returns-clause-counts t c = counted_on _ _ _ c.loop-op.invariant.counts c.in_default.ensures.counts
