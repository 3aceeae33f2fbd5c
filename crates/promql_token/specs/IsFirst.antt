-- What comes first at a place. Private: nothing rests on believing it.
use Rattle.std.specs.Prelude.{◌≡◌, ℕ, drop, Result, Ok, Err, MatchResult}
use Rattle.promql_token.specs.declared.fault.LexFaultKind.{LexFaultKind}
use Rattle.promql_token.specs.declared.lexeme.Lexeme.{Lexeme}
use Rattle.promql_token.specs.declared.state.State.{State}
use Rattle.promql_text.specs.Texts.{Text}
use Rattle.promql_token.specs.Lexing.{fault_at, first, found}

-- a token, or a fault with its place
abbrev pub IsFirst : Text → ℕ → State → Result Lexeme (LexFaultKind × ℕ) → Type 0
IsFirst s at state r = MatchResult r
    (λ x. Ok x ≡ first at (found state (drop at s)))
    (λ f. Err (fault_at s f.0 f.1) ≡ first at (found state (drop at s)))
