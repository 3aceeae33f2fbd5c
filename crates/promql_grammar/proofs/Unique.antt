-- No two derivations have the same tokens.
use Rattle.std.proofs.Common.{◌≡◌, ℕ, max, sym, ◌∙◌, ap, arith, [], append-nil}
use Rattle.std.specs.Prelude.{Ok, Err}
use Rattle.promql_grammar.specs.Grammar.{Derivation, yield, height, IsWellFormed}
use Rattle.promql_grammar.specs.Parsing.{Read, parse_expression}
use Rattle.promql_grammar.proofs.Precedences.{root_zero}
use Rattle.promql_grammar.proofs.Within.{within, within_low}
use Rattle.promql_grammar.proofs.Complete.{expression_reads}

-- a whole list is read as its derivation
pub whole : (n : ℕ) (d : Derivation) → IsWellFormed d → parse_expression n 0 (yield d) ≡ within n (height d) (Ok (d, []))
whole n d h = ap (parse_expression n 0) (sym (append-nil (yield d))) ∙ (expression_reads n).by d 0 [] h (root_zero d) tt tt

derivation_or : Derivation → Read Derivation → Derivation
derivation_or d (Ok x) = x.0
derivation_or d (Err e) = d

pub one_derivation : (a b : Derivation) → IsWellFormed a → IsWellFormed b → yield a ≡ yield b → a ≡ b
unfolding derivation_or
one_derivation a b g h e =
    let n = max (height a) (height b) in
    let p : parse_expression n 0 (yield a) ≡ Ok (a, []) = whole n a g ∙ within_low n (height a) _ (omega arith) in
    let q : parse_expression n 0 (yield b) ≡ Ok (b, []) = whole n b h ∙ within_low n (height b) _ (omega arith) in
    let s : Ok (a, []) ≡ Ok (b, []) = sym p ∙ ap (parse_expression n 0) e ∙ q in
    ap (derivation_or a) s
