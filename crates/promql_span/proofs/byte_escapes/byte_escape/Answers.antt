use Rattle.std.proofs.Common.{◌≡◌, ◌∙◌, ap, length, subst, sym}
use Rattle.std.specs.Prelude.{slice_get}
use Rattle.std.specs.List.{filter_map}
use Rattle.promql_text.specs.Texts.{code}
use Rattle.promql_span.specs.ByteEscapes.{escape_in}
use Rattle.promql_span.specs.PlacedTokens.{placed_tokens}
use Rattle.promql_span.specs.QueryMarks.{has}
use Rattle.promql_span.specs.TokensLeft.{placed_left}
use Rattle.promql_span.proofs.OrderedTokens.{AreOrdered, ordered}
use Rattle.promql_span.proofs.WithoutEscapes.{no_byte_escape}
use Rattle.promql_span.proofs.byte_escapes.byte_escape.Goals as goal

pub returns-then-not-contains : goal.returns-then-not-contains
returns-then-not-contains c =
    sym (no_byte_escape c.args.text.now (sym (c.contains.ensures.value ∙ ap (has (code "\\")) c.as_bytes.ensures.value) ∙ c.if-not-contains.true))

pub loop-token-init : goal.loop-token-init
loop-token-init c =
    let s = c.args.text.now in
    let all : placed_left c.into_iter-token-iterator.result ≡ placed_tokens s = ap placed_left c.into_iter-token-iterator.ensures.into_iter_gives ∙ c.new-token-items.ensures in
    (tt, tt, (0, subst (AreOrdered (length s) 0) (sym all) (ordered s)), ap (λ xs. slice_get (filter_map (escape_in s) xs) 0) all)
