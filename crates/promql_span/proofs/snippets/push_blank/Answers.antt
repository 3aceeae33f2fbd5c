use Rattle.std.proofs.Common.{◌≡◌, ◌++◌, ◌∷◌, [], ◌∙◌, ap, append-nil, append_assoc, map, string_bytes, sym}
use Rattle.std.specs.Char.{encode_utf8}
use Rattle.std.specs.Str.{chars}
use Rattle.std.specs.Str.Iter.{chars_rest}
use Rattle.std.proofs.lemmas.Str.{IsUtf8-past_char, chars_past_char, encode_ascii}
use Rattle.promql_span.specs.Snippets.{blank}
use Rattle.promql_span.proofs.LineParts.{blank_small, no_chars}
use Rattle.promql_span.proofs.snippets.push_blank.Goals as goal

pub loop-c-preserved : goal.loop-c-preserved
loop-c-preserved c =
    let now = c.loop-c.invariant in
    let left = chars_rest c.loop-c.c-iterator in
    let rest = chars_rest c.next.new.self in
    let split = c.in-Some.ensures.steps.0 in
    let b = blank c.in-Some.c in
    let before = string_bytes c.loop-c.out in
    let byte : encode_utf8 c.blank.result ≡ b ∷ [] = ap encode_utf8 c.blank.ensures ∙ encode_ascii b (blank_small c.in-Some.c) in
    record {
      text = IsUtf8-past_char left rest c.in-Some.c now.text split;
      bytes =
          ap (λ l. l ++ map blank (chars rest)) (c.in_ok-push.ensures.bytes ∙ ap (λ l. before ++ l) byte) ∙ append_assoc before (b ∷ []) (map blank (chars rest))
          ∙ ap (λ l. before ++ map blank l) (sym (chars_past_char left rest c.in-Some.c now.text split)) ∙ now.bytes;
    }

pub returns : goal.returns
returns c =
    let out = string_bytes c.loop-c.out in
    sym (ap (λ l. out ++ map blank l) (no_chars (chars_rest c.loop-c.c-iterator) c.in-None.ensures.steps.0.0) ∙ append-nil out) ∙ c.loop-c.invariant.bytes
