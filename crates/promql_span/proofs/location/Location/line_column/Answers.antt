use Rattle.std.proofs.Common.{◌≡◌, ◌+◌, ◌∙◌, false, true, ap, arith, length, subst, sym}
use Rattle.std.specs.List.{after_last, count_by}
use Rattle.std.specs.Str.{IsUtf8, chars}
use Rattle.std.specs.Str.Iter.{chars_rest}
use Rattle.std.proofs.lemmas.Bool.{eq-eqb, ne_eqb}
use Rattle.promql_span.specs.Locations.{characters_before, is_line_feed, location_of}
use Rattle.promql_span.proofs.Columns.{column_fed, column_from, column_on, column_whole, length_sum, next_size, no_column, no_line, one, passed_feed, passed_other, some_size, text_after}
use Rattle.promql_span.proofs.location.Location.line_column.Goals as goal

pub loop-c-init : goal.loop-c-init
loop-c-init c =
    let all : chars_rest c.into_iter-c-iterator.result ≡ c.text_before.result.now = cc in
    let cs = characters_before (chars c.args.text.now) c.args.offset in
    let before : chars (chars_rest c.into_iter-c-iterator.result) ≡ cs = ap chars all ∙ c.text_before.ensures.value in
    record {
      line = ap (λ l. 1 + count_by is_line_feed l) before;
      column = ap (column_from one 1) before ∙ column_whole one cs ∙ ap (λ n. 1 + n) (length_sum (after_last is_line_feed cs));
      text = subst IsUtf8 (sym all) c.text_before.utf8;
      line_fits = let short = c.text_before.ensures.short in omega (arith, ap length all);
      column_fits = let short = c.text_before.ensures.short in omega (arith, ap length all);
    }

pub loop-c-preserved-then-c-eq10 : goal.loop-c-preserved-then-c-eq10
loop-c-preserved-then-c-eq10 c =
    let s = chars_rest c.loop-c.c-iterator in
    let rest = chars_rest c.next.new.self in
    let split = c.in-Some.ensures.steps.0 in
    let text = c.loop-c.invariant.text in
    let feed : is_line_feed c.in-Some.c ≡ true = eq-eqb c.in-Some.c 10 c.if-c-eq10.true in
    record {
      line = omega (arith, c.loop-c.invariant.line, passed_feed s rest c.in-Some.c text split feed);
      column = column_fed one c.loop-c.location.column s rest c.in-Some.c text split feed ∙ c.loop-c.invariant.column;
      text = text_after s rest c.in-Some.c text split;
      line_fits = omega (arith, c.loop-c.invariant.line_fits, next_size s rest c.in-Some.c text split, some_size c.in-Some.c);
      column_fits = omega (arith, c.loop-c.invariant.line_fits, next_size s rest c.in-Some.c text split, some_size c.in-Some.c);
    }

pub loop-c-preserved : goal.loop-c-preserved
loop-c-preserved c =
    let s = chars_rest c.loop-c.c-iterator in
    let rest = chars_rest c.next.new.self in
    let split = c.in-Some.ensures.steps.0 in
    let text = c.loop-c.invariant.text in
    let other : is_line_feed c.in-Some.c ≡ false = ne_eqb c.in-Some.c 10 c.if-c-eq10.false in
    record {
      line = omega (arith, c.loop-c.invariant.line, passed_other s rest c.in-Some.c text split other);
      column = column_on one c.loop-c.location.column s rest c.in-Some.c text split other ∙ c.loop-c.invariant.column;
      text = text_after s rest c.in-Some.c text split;
      line_fits = omega (arith, c.loop-c.invariant.line_fits, next_size s rest c.in-Some.c text split);
      column_fits = omega (arith, c.loop-c.invariant.column_fits, next_size s rest c.in-Some.c text split, some_size c.in-Some.c);
    }

pub returns : goal.returns
returns c =
    let now = c.loop-c.invariant in
    let none = c.in-None.ensures.steps.0.0 in
    let left = chars_rest c.loop-c.c-iterator in
    let place = location_of c.args.text.now c.args.offset in
    let line : c.loop-c.location.line ≡ place.line = omega (arith, now.line, no_line left none) in
    let column : c.loop-c.location.column ≡ place.column = sym (no_column one c.loop-c.location.column left none) ∙ now.column in
    λ i. record { line = line i; column = column i }
