use Rattle.std.proofs.Common.{◌≡◌, ◌+◌, ◌∙◌, false, true, ap, arith, length, subst, sym}
use Rattle.std.specs.Str.{IsUtf8, chars}
use Rattle.std.specs.Str.Iter.{chars_rest}
use Rattle.std.proofs.lemmas.Bool.{eq-eqb, ne_eqb}
use Rattle.promql_span.specs.Locations.{characters_before, is_line_feed}
use Rattle.promql_span.proofs.Columns.{column_fed, column_from, column_on, column_whole, len_utf16, len_utf16-is, len_utf16-le, next_size, no_column, some_size, text_after}
use Rattle.promql_span.proofs.location.Location.column_utf16.Goals as goal

pub loop-c-init : goal.loop-c-init
loop-c-init c =
    let all : chars_rest c.into_iter-c-iterator.result ≡ c.text_before.result.now = cc in
    let cs = characters_before (chars c.args.text.now) c.args.offset in
    let before : chars (chars_rest c.into_iter-c-iterator.result) ≡ cs = ap chars all ∙ c.text_before.ensures.value in
    record {
      column = ap (column_from len_utf16 1) before ∙ column_whole len_utf16 cs;
      text = subst IsUtf8 (sym all) c.text_before.utf8;
      fits = let short = c.text_before.ensures.short in omega (arith, ap length all);
      rest_fits = let short = c.text_before.ensures.short in omega (arith, ap length all);
    }

pub loop-c-preserved-then-c-eq10 : goal.loop-c-preserved-then-c-eq10
loop-c-preserved-then-c-eq10 c =
    let s = chars_rest c.loop-c.c-iterator in
    let rest = chars_rest c.next.new.self in
    let split = c.in-Some.ensures.steps.0 in
    let text = c.loop-c.invariant.text in
    let feed : is_line_feed c.in-Some.c ≡ true = eq-eqb c.in-Some.c 10 c.if-c-eq10.true in
    record {
      column = column_fed len_utf16 c.loop-c.column s rest c.in-Some.c text split feed ∙ c.loop-c.invariant.column;
      text = text_after s rest c.in-Some.c text split;
      fits = omega (arith, c.loop-c.invariant.rest_fits, next_size s rest c.in-Some.c text split, some_size c.in-Some.c);
      rest_fits = omega (arith, c.loop-c.invariant.rest_fits, next_size s rest c.in-Some.c text split);
    }

pub loop-c-preserved : goal.loop-c-preserved
loop-c-preserved c =
    let s = chars_rest c.loop-c.c-iterator in
    let rest = chars_rest c.next.new.self in
    let split = c.in-Some.ensures.steps.0 in
    let text = c.loop-c.invariant.text in
    let other : is_line_feed c.in-Some.c ≡ false = ne_eqb c.in-Some.c 10 c.if-c-eq10.false in
    let units = len_utf16-is c.in-Some.c c.len_utf16-column.result c.len_utf16-column.ensures.bmp c.len_utf16-column.ensures.surrogate_pair in
    record {
      column = ap (λ n. column_from len_utf16 (c.loop-c.column + n) (chars rest)) units ∙ column_on len_utf16 c.loop-c.column s rest c.in-Some.c text split other ∙ c.loop-c.invariant.column;
      text = text_after s rest c.in-Some.c text split;
      fits = omega (arith, c.loop-c.invariant.fits, next_size s rest c.in-Some.c text split, units, len_utf16-le c.in-Some.c);
      rest_fits = omega (arith, c.loop-c.invariant.rest_fits, next_size s rest c.in-Some.c text split);
    }

pub returns : goal.returns
returns c = sym (no_column len_utf16 c.loop-c.column (chars_rest c.loop-c.c-iterator) c.in-None.ensures.steps.0.0) ∙ c.loop-c.invariant.column
