use Rattle.std.proofs.Common.{◌≡◌, ℕ, ◌<◌, ◌≤◌, ◌^◌, length}
use Rattle.promql_grammar.specs.Grammar.{Derivation}
use Rattle.promql_grammar.specs.SymbolsLeft.{CountsTaken, symbols_left, token_count, tokens_taken}
use Rattle.promql_syntax.specs.ParsesExpr.{IsExprOf}
use Rattle.promql_syntax.proofs.parsing.Postfixing.{Postfixing}
use Rattle.promql_syntax.proofs.grammar.expression.parse_some_postfixes.Given as goal

abbrev pub invariant-loop-parsed : goal.invariant-loop-parsed
invariant-loop-parsed l = record {
  low : l.parsed.height ≤ l.max_height;
  short : length (symbols_left l.tokens) ≤ length (symbols_left l.fn.tokens);
  counts : CountsTaken l.fn.tokens l.tokens;
  start : l.postfix_start ≡ tokens_taken l.tokens;
  goes : (n : ℕ) (d : Derivation) (k : ℕ) → (n < 2 ^ 64 → token_count l.fn.tokens ≡ n) → IsExprOf l.builds n (length (symbols_left l.fn.tokens)) l.fn.base d → length (symbols_left l.fn.tokens) ≤ k
      → Postfixing l.builds n k l.max_height d (symbols_left l.fn.tokens) l.parsed (symbols_left l.tokens);
}

abbrev pub decreases-loop-parsed : goal.decreases-loop-parsed
decreases-loop-parsed l = length (symbols_left l.tokens)
