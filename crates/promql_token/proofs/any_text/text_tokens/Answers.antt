use Rattle.std.proofs.Common.{[], append-nil, subst}
use Rattle.promql_token.specs.TextTokens as spec
use Rattle.promql_token.proofs.any_text.text_tokens.Goals as goal

pub returns : goal.returns
returns c =
    let bytes = c.as_bytes-bytes.result.now in
    subst (λ s. spec.AreTextTokens s c.loop-token.found.items) c.as_bytes-bytes.ensures.value
    (subst (spec.AreTextTokens bytes) (append-nil c.loop-token.found.items) (c.loop-token.invariant.0 [] c.in_default.ensures.value))
