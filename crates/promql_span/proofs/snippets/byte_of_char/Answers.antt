use Rattle.std.proofs.Common.{◌≡◌, ◌+◌, ◌∙◌, ap, drop, subst, sym}
use Rattle.std.specs.Char.{encode_utf8}
use Rattle.std.specs.Prelude.{◌++◌}
use Rattle.std.specs.Str.{IsCharBoundary, IsUtf8, chars}
use Rattle.std.specs.Str.Iter.{chars_rest}
use Rattle.std.proofs.lemmas.Bool.{ne_eqb}
use Rattle.std.proofs.lemmas.Str.{IsCharBoundary-past_char, IsCharBoundary-start, IsUtf8-past_char, chars_past_char, drop_past_char}
use Rattle.promql_span.proofs.LineParts.{front_taken, none_left, one_less}
use Rattle.promql_span.proofs.snippets.byte_of_char.Goals as goal

pub loop-c-init : goal.loop-c-init
loop-c-init c =
    let s = c.args.text.now in
    let all : chars_rest c.into_iter-c-iterator.result ≡ s = cc in
    record { text = subst IsUtf8 (sym all) c.utf8.text; rest = sym all; place = IsCharBoundary-start s c.utf8.text; back = ap (λ l. drop c.args.index (chars l)) all }

pub loop-c-preserved : goal.loop-c-preserved
loop-c-preserved c =
    let s = c.args.text.now in
    let at = c.loop-c.at in
    let now = c.loop-c.invariant in
    let left = chars_rest c.loop-c.c-iterator in
    let rest = chars_rest c.next.new.self in
    let split = c.in-Some.ensures.steps.0 in
    let size = c.len_utf8-at.ensures.value in
    let here : drop at s ≡ encode_utf8 c.in-Some.c ++ rest = now.rest ∙ split in
    record {
      text = IsUtf8-past_char left rest c.in-Some.c now.text split;
      rest = ap (λ n. drop (at + n) s) size ∙ drop_past_char s rest at c.in-Some.c here;
      place = subst (λ n. IsCharBoundary s (at + n)) (sym size) (IsCharBoundary-past_char s rest at c.in-Some.c now.place.0 (subst IsUtf8 (sym now.rest) now.text) here);
      back = sym (one_less c.loop-c.left c.in-Some.c (chars rest) (ne_eqb c.loop-c.left 0 c.if-left-eq0.false)) ∙ ap (drop c.loop-c.left) (sym (chars_past_char left rest c.in-Some.c now.text split)) ∙ now.back;
    }

pub returns-then-left-eq0-clause-front : goal.returns-then-left-eq0-clause-front
returns-then-left-eq0-clause-front c =
    let now = c.loop-c.invariant in
    front_taken c.args.text.now c.loop-c.at c.args.index c.utf8.text now.place
    (ap chars now.rest ∙ sym (ap (λ n. drop n (chars (chars_rest c.loop-c.c-iterator))) c.if-left-eq0.true) ∙ now.back)

pub returns-clause-back : goal.returns-clause-back
returns-clause-back c =
    let now = c.loop-c.invariant in
    ap chars now.rest ∙ none_left c.loop-c.left (chars_rest c.loop-c.c-iterator) c.in-None.ensures.steps.0.0 ∙ now.back

pub returns-clause-front : goal.returns-clause-front
returns-clause-front c = front_taken c.args.text.now c.loop-c.at c.args.index c.utf8.text c.loop-c.invariant.place (returns-clause-back c)
