use Rattle.std.proofs.Common.{◌<◌, ℕ, List}
use Rattle.std.specs.Prelude.{IfSome}
use Rattle.promql_grammar.specs.Symbols.{Symbol, token_kind}
use Rattle.promql_grammar.specs.declared.token_kinds.TokenKind.TheVariants.{Other}
use Rattle.promql_span.specs.TokensBefore.{AreAlike, IsListed, symbols_of_text}
use Rattle.promql_span.proofs.expected.kinds_after.Given as goal

-- the kinds of the ids so far are listed, and the one that the lexer never gives
abbrev pub invariant-loop-id : goal.invariant-loop-id
invariant-loop-id l = record {
  other : (front : List Symbol) → IfSome l.before (λ b. AreAlike front (symbols_of_text b.now)) → IsListed front l.kinds.items Other;
  kinds : (front : List Symbol) → IfSome l.before (λ b. AreAlike front (symbols_of_text b.now)) → (id : ℕ) → id < l.id → IsListed front l.kinds.items (token_kind id);
}
