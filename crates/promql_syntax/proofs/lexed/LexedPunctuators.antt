-- The lexer reads parentheses, commas and minus signs outside braces as tokens.
use Rattle.std.proofs.Common.{◌≡◌, ℕ, suc, ◌+◌, ◌-◌, false, ◌∷◌, [], Ok, refl, ◌∙◌, ap, arith}
use Rattle.std.specs.Prelude.{◌==◌}
use Rattle.std.proofs.lemmas.Grind.{common_steps}
use Rattle.promql_text.specs.Texts.{Text}
use Rattle.promql_token.specs.Lexing.{pieces}
use Rattle.promql_token.specs.TokenScanning.{after, outside, scan_token, punctuator}
use Rattle.promql_token.proofs.printed.Concatenation.{joins}
use Rattle.promql_syntax.proofs.lexed.Lexes.{at_depth}
use Rattle.promql_token.specs.declared.ids.TheConstants.{T_COMMA, T_LEFT_PAREN, T_RIGHT_PAREN, T_SUB}

above_zero : (n : ℕ) → (suc n == 0) ≡ false
above_zero n = grind (arith, common_steps)

pub open_lex : (depth : ℕ) (r : Text) → pieces (at_depth depth) (40 ∷ r) ≡ Ok (T_LEFT_PAREN, 40 ∷ []) ∷ pieces (at_depth (suc depth)) r
unfolding scan_token outside punctuator after
open_lex depth r =
    let deeper : depth + 1 ≡ suc depth = omega arith in
    joins (at_depth depth) (40 ∷ []) r T_LEFT_PAREN (omega arith) refl refl ∙ ap (λ n. Ok (T_LEFT_PAREN, 40 ∷ []) ∷ pieces (at_depth n) r) deeper

pub comma_lex : (depth : ℕ) (r : Text) → pieces (at_depth depth) (44 ∷ r) ≡ Ok (T_COMMA, 44 ∷ []) ∷ pieces (at_depth depth) r
unfolding scan_token outside punctuator after
comma_lex depth r = joins (at_depth depth) (44 ∷ []) r T_COMMA (omega arith) refl refl

pub minus_lex : (depth : ℕ) (r : Text) → pieces (at_depth depth) (45 ∷ r) ≡ Ok (T_SUB, 45 ∷ []) ∷ pieces (at_depth depth) r
unfolding scan_token outside punctuator after
minus_lex depth r = joins (at_depth depth) (45 ∷ []) r T_SUB (omega arith) refl refl

pub close_lex : (depth : ℕ) (r : Text) → pieces (at_depth (suc depth)) (41 ∷ r) ≡ Ok (T_RIGHT_PAREN, 41 ∷ []) ∷ pieces (at_depth depth) r
unfolding scan_token outside punctuator after
close_lex depth r =
    let back : suc depth - 1 ≡ depth = omega arith in
    joins (at_depth (suc depth)) (41 ∷ []) r T_RIGHT_PAREN (omega arith) (rw (above_zero depth) refl) refl ∙ ap (λ n. Ok (T_RIGHT_PAREN, 41 ∷ []) ∷ pieces (at_depth n) r) back
