use Rattle.std.proofs.Common.{◌≡◌, ◌-◌, ◌≤◌, ◌++◌, List, length}
use Rattle.promql_token.specs.declared.lexeme.Lexeme.{Lexeme}
use Rattle.promql_token.specs.TextTokens as spec
use Rattle.promql_token.proofs.any_text.text_tokens.Given as goal

-- the tokens so far go on with those that are left
abbrev pub invariant-loop-token : goal.invariant-loop-token
invariant-loop-token l =
    ((rest : List Lexeme) → spec.AreTokens l.bytes l.state l.at rest → spec.AreTextTokens l.bytes (l.found.items ++ rest))
    × (l.state.depth ≤ l.at) × (l.at ≤ length l.bytes) × (l.bytes ≡ l.text)

abbrev pub decreases-loop-token : goal.decreases-loop-token
decreases-loop-token l = length l.bytes - l.at
