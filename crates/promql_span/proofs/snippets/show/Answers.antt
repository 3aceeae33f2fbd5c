use Rattle.std.proofs.Common.{◌≡◌, ◌+◌, ◌-◌, ◌++◌, ◌∷◌, ◌∙◌, [], ap, arith, drop, length, map, min, replicate, string_bytes, subst, sym, take}
use Rattle.std.specs.Char.{encode_utf8}
use Rattle.std.specs.Prelude.{encode_utf8_all}
use Rattle.std.specs.Str.{IsUtf8, chars}
use Rattle.std.proofs.lemmas.List.{take-append-drop}
use Rattle.std.proofs.lemmas.Str.{IsUtf8-append, chars-append}
use Rattle.promql_span.specs.Snippets.{blank}
use Rattle.promql_span.specs.Visible.{visible}
use Rattle.promql_span.proofs.LineParts.{appended, chars_fit, shown_is, snippet_bytes}
use Rattle.promql_span.proofs.VisibleTexts.{chars_shown, shown_together}
use Rattle.promql_span.proofs.snippets.show.Goals as goal

pub returns : goal.returns
returns c =
    let left = chars c.args.left.now in
    let right = chars c.args.right.now in
    let before = c.split_at.result.1.now in
    let after = c.split_at-2.result.0.now in
    let inside = c.split_at-3.result.0.now in
    let beyond = c.split_at-3.result.1.now in
    let before_shown = string_bytes c.in_ok-before.before in
    let inside_shown = string_bytes c.in_ok-inside.inside in
    let beyond_shown = string_bytes c.in_ok-beyond.beyond in
    let skipped : c.min-skipped.result ≡ min (length left - 50) (length left + length right - 100) =
    omega (arith, chars_fit c.args.left.now c.utf8.left, chars_fit c.args.right.now c.utf8.right, c.char_count-count.ensures, c.char_count.ensures, c.saturating_add-width.ensures, c.saturating_sub.ensures, c.saturating_sub-2.ensures, c.min-skipped.ensures) in
    let before_is : chars before ≡ drop (min (length left - 50) (length left + length right - 100)) left = ap chars c.split_at.ensures.back ∙ c.byte_of_char.ensures.back ∙ ap (λ n. drop n left) skipped in
    let room : c.saturating_sub-room.result ≡ 100 - length (chars before) = omega (arith, c.char_count-2.ensures, c.saturating_sub-room.ensures) in
    let after_is : chars after ≡ take (100 - length (chars before)) right = ap chars c.split_at-2.ensures.front ∙ c.byte_of_char-2.ensures.front ∙ ap (λ n. take n right) room in
    let inside_is : chars inside ≡ take c.args.marked (chars after) = ap chars c.split_at-3.ensures.front ∙ c.byte_of_char-3.ensures.front in
    let beyond_is : chars beyond ≡ drop c.args.marked (chars after) = ap chars c.split_at-3.ensures.back ∙ c.byte_of_char-3.ensures.back in
    let text : IsUtf8 before_shown = subst IsUtf8 c.as_str.ensures.value c.as_str.utf8 in
    let text_inside : IsUtf8 inside_shown = subst IsUtf8 c.as_str-2.ensures.value c.as_str-2.utf8 in
    let text_beyond : IsUtf8 beyond_shown = subst IsUtf8 c.as_str-3.ensures.value c.as_str-3.utf8 in
    let before_chars : chars before_shown ≡ visible (chars before) = chars_shown before before_shown text c.in_ok-before.ensures in
    let inside_chars : chars inside_shown ≡ visible (take c.args.marked (chars after)) = chars_shown inside inside_shown text_inside c.in_ok-inside.ensures ∙ ap visible inside_is in
    let beyond_chars : chars beyond_shown ≡ visible (drop c.args.marked (chars after)) = chars_shown beyond beyond_shown text_beyond c.in_ok-beyond.ensures ∙ ap visible beyond_is in
    let after_chars : chars (inside_shown ++ beyond_shown) ≡ visible (chars after) =
    chars-append inside_shown beyond_shown text_inside ∙ (λ i. inside_chars i ++ beyond_chars i)
    ∙ sym (shown_together (take c.args.marked (chars after)) (drop c.args.marked (chars after))) ∙ ap visible (take-append-drop c.args.marked (chars after)) in
    let marked : c.char_count-3.result ≡ length (visible (take c.args.marked (chars after))) = c.char_count-3.ensures ∙ ap (λ t. length (chars t)) c.as_str-5.ensures.value ∙ ap length inside_chars in
    let feed : encode_utf8 10 ≡ 10 ∷ [] = c.push.ensures.ascii (omega arith) in
    let out0 = string_bytes c.new-shown.result in
    let out1 = string_bytes c.push_str.new.self in
    let out2 = string_bytes c.push_str-2.new.self in
    let out3 = string_bytes c.push_str-3.new.self in
    let out4 = string_bytes c.push.new.self in
    let whole = appended out0 out1 out2 out3 out4 (string_bytes c.push_blank.new.out) (string_bytes c.push_mark.new.out) before_shown inside_shown beyond_shown (map blank (chars before_shown)) (94 ∷ replicate (c.char_count-3.result - 1) 126)
    c.new-shown.ensures.bytes
    (c.in_ok-push_str.ensures.bytes ∙ ap (λ l. out0 ++ l) c.as_str.ensures.value)
    (c.in_ok-push_str-2.ensures.bytes ∙ ap (λ l. out1 ++ l) c.as_str-2.ensures.value)
    (c.in_ok-push_str-3.ensures.bytes ∙ ap (λ l. out2 ++ l) c.as_str-3.ensures.value)
    (c.in_ok-push.ensures.bytes ∙ ap (λ l. out3 ++ l) feed)
    (c.in_ok-push_blank.ensures ∙ ap (λ l. out4 ++ map blank (chars l)) c.as_str-4.ensures.value)
    c.in_ok-push_mark.ensures in
    whole
    ∙ sym (snippet_bytes before_shown (inside_shown ++ beyond_shown) (c.char_count-3.result - 1) text (IsUtf8-append inside_shown beyond_shown text_inside text_beyond))
    ∙ (λ i. encode_utf8_all (before_chars i ++ (after_chars i ++ 10 ∷ (map blank (before_chars i) ++ 94 ∷ replicate (marked i - 1) 126))))
    ∙ ap encode_utf8_all (shown_is left right (chars before) (chars after) c.args.marked before_is after_is)
