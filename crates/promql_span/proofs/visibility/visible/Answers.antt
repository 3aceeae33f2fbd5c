use Rattle.std.proofs.Common.{◌++◌, ◌∙◌, ap, append-nil, append_assoc, string_bytes, sym}
use Rattle.std.specs.Prelude.{encode_utf8_all}
use Rattle.std.specs.Str.{chars}
use Rattle.std.specs.Str.Iter.{chars_rest}
use Rattle.std.proofs.lemmas.Str.{IsUtf8-past_char, chars_past_char}
use Rattle.promql_span.specs.Visible.{visible, visible_char}
use Rattle.promql_span.proofs.LineParts.{no_chars}
use Rattle.promql_span.proofs.VisibleTexts.{shown_more}
use Rattle.promql_span.proofs.visibility.visible.Goals as goal

pub loop-c-preserved : goal.loop-c-preserved
loop-c-preserved c =
    let now = c.loop-c.invariant in
    let left = chars_rest c.loop-c.c-iterator in
    let rest = chars_rest c.next.new.self in
    let split = c.in-Some.ensures.steps.0 in
    let before = string_bytes c.loop-c.shown in
    let here = encode_utf8_all (visible_char c.in-Some.c) in
    let later = encode_utf8_all (visible (chars rest)) in
    record {
      text = IsUtf8-past_char left rest c.in-Some.c now.text split;
      bytes =
          ap (λ l. l ++ later) c.in_ok-push_visible.ensures ∙ append_assoc before here later
          ∙ ap (λ l. before ++ l) (sym (shown_more c.in-Some.c (chars rest)))
          ∙ ap (λ l. before ++ encode_utf8_all (visible l)) (sym (chars_past_char left rest c.in-Some.c now.text split)) ∙ now.bytes;
    }

pub returns : goal.returns
returns c =
    let out = string_bytes c.loop-c.shown in
    sym (ap (λ l. out ++ encode_utf8_all (visible l)) (no_chars (chars_rest c.loop-c.c-iterator) c.in-None.ensures.steps.0.0) ∙ append-nil out) ∙ c.loop-c.invariant.bytes
