-- What may come after a minus is what may come after `*`, and no number.
use Rattle.std.proofs.Common.{◌≡◌, ◌<◌, ◌≤◌, ℕ, arith, inl, inr, subst, sym}
use Rattle.promql_token.specs.declared.ids.TheConstants.{T_MUL, T_POW}
use Rattle.promql_grammar.specs.Grammar.{precedence}
use Rattle.promql_grammar.proofs.Precedences.{is_power}
use Rattle.promql_ast.specs.Tree.{Tree, unary, binary, number}
use Rattle.promql_rewrite.specs.NodeRules.{Obeys}
use Rattle.promql_rewrite.specs.PrintableConditions.{IsNegated}
use Rattle.promql_rewrite.specs.declared.printable.NotPrintable.TheVariants as reason

above : (n : ℕ) → 5 < n → 6 ≤ n
above n h = omega (arith, h)

power_above : (op : ℕ) → op ≡ T_POW → precedence T_MUL < precedence op
power_above op is = subst (λ o. precedence T_MUL < precedence o) (sym is) (omega arith)

pub operand_negated : (e : Tree) → Obeys reason.Operand (unary e) → IsNegated e
operand_negated (binary op l r m) (inl h) = is_power op (above (precedence op) h)
operand_negated (binary op l r m) (inr h) = h.1
operand_negated (number n) h = h
operand_negated e h = tt

pub negated_operand : (e : Tree) → IsNegated e → Obeys reason.Operand (unary e)
negated_operand (binary op l r m) h = inl (power_above op h)
negated_operand (number n) h = h
negated_operand e h = tt
