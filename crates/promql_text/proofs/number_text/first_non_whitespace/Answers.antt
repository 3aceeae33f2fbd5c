use Rattle.std.proofs.Common.{arith, ◌∙◌, sym}
use Rattle.std.specs.Str.Iter.{chars_rest}
use Rattle.std.proofs.lemmas.Str.{IsUtf8-past_char}
use Rattle.promql_text.proofs.numerals.WhitespaceLemmas.{kept_char, kept_white, kept_end, kept_short}
use Rattle.promql_text.proofs.number_text.first_non_whitespace.Goals as goal

pub returns-then-not-is_whitespace-clause-value : goal.returns-then-not-is_whitespace-clause-value
returns-then-not-is_whitespace-clause-value c =
    rw c.as_str.ensures
    (sym c.loop-c.invariant.0 ∙ kept_char (chars_rest c.loop-c.chars) (chars_rest c.next.new.self) c.in-Some.c c.loop-c.invariant.1 c.in-Some.ensures.steps.0 (sym c.is_whitespace.ensures ∙ c.if-not-is_whitespace.true))

pub returns-then-not-is_whitespace-clause-small : goal.returns-then-not-is_whitespace-clause-small
returns-then-not-is_whitespace-clause-small c = let short = kept_short c.args.text.now c.utf8.text in omega (arith, short)

pub loop-c-preserved : goal.loop-c-preserved
loop-c-preserved c = (
  sym (kept_white (chars_rest c.loop-c.chars) (chars_rest c.next.new.self) c.in-Some.c c.loop-c.invariant.1 c.in-Some.ensures.steps.0 (sym c.is_whitespace.ensures ∙ c.if-not-is_whitespace.false)) ∙ c.loop-c.invariant.0,
  IsUtf8-past_char (chars_rest c.loop-c.chars) (chars_rest c.next.new.self) c.in-Some.c c.loop-c.invariant.1 c.in-Some.ensures.steps.0,
)

pub returns-clause-value : goal.returns-clause-value
returns-clause-value c = sym c.loop-c.invariant.0 ∙ kept_end (chars_rest c.loop-c.chars) c.in_default.ensures.steps.0.0

pub returns-clause-small : goal.returns-clause-small
returns-clause-small c = let short = kept_short c.args.text.now c.utf8.text in omega (arith, short)
