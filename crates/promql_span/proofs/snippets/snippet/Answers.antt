use Rattle.std.proofs.Common.{◌≡◌, ◌-◌, ◌∙◌, IfOk, ap, drop, length, string_bytes, subst}
use Rattle.std.specs.Prelude.{◌==◌, encode_utf8_all}
use Rattle.std.specs.List.{after_last, before_first}
use Rattle.std.specs.Str.{chars}
use Rattle.promql_text.specs.Texts.{code}
use Rattle.promql_span.specs.Locations.{characters_before, is_line_feed}
use Rattle.promql_span.specs.Snippets.{snippet_of, snippet_text}
use Rattle.promql_span.proofs.LineParts.{chars_after}
use Rattle.promql_span.proofs.snippets.snippet.Goals as goal

pub returns : goal.returns
returns c =
    let s = c.args.text.now in
    let cs = chars s in
    let front = c.text_before-front in
    let before : chars front.result.now ≡ characters_before cs c.args.span.start = front.ensures.value in
    let rest = chars_after s front.result.now c.range_from-rest.result.now front.ensures.front c.range_from-rest.ensures.value front.utf8 ∙ ap (λ l. drop (length l) cs) before in
    let left = c.after_line_feed.ensures ∙ ap (after_last is_line_feed) before in
    let right = c.up_to-2.ensures ∙ ap (before_first (λ d. d == code "\r")) (c.up_to.ensures ∙ ap (before_first is_line_feed) rest) in
    let through = c.char_count.ensures ∙ ap length c.text_before.ensures.value in
    let skipped = c.char_count-2.ensures ∙ ap length before in
    let marked = c.saturating_sub-marked.ensures ∙ (λ i. through i - skipped i) in
    let whole : snippet_of (chars c.after_line_feed.result.now) (chars c.up_to-2.result.now) c.saturating_sub-marked.result ≡ snippet_text cs c.args.span = λ i. snippet_of (left i) (right i) (marked i) in
    subst (λ t. IfOk c.show.result (λ shown. string_bytes shown ≡ encode_utf8_all t)) whole c.show.ensures
