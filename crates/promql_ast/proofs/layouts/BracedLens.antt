-- How many bytes braces and their matchers have.
use Rattle.std.proofs.Common.{◌≡◌, ℕ, ◌+◌, ◌^◌, ◌-◌, min, true, false, codes, length, ap, sym, arith, length-append}
use Rattle.promql_text.specs.PrintedLen.{printed_len}
use Rattle.promql_label.specs.PlainMatchers.{PlainMatchers, matchers_text}
use Rattle.promql_ast.specs.BlankMatchers.{is_blank}
use Rattle.promql_ast.specs.node.Vector.{with_braces}
use Rattle.promql_ast.proofs.normal_form.Blank.{braced_text, blank_text}

pub braced_len_is : (cs : PlainMatchers) (a b : ℕ) → is_blank cs ≡ false → a ≡ printed_len (matchers_text cs) → b ≡ min (a + 2) (2 ^ 64 - 1) → b ≡ printed_len (with_braces (matchers_text cs))
braced_len_is cs a b filled p q = omega (arith, p, q, ap length (braced_text cs filled), length-append (matchers_text cs) (codes "}"))

pub blank_len : (cs : PlainMatchers) → is_blank cs ≡ true → 0 ≡ printed_len (with_braces (matchers_text cs))
blank_len cs blank = ap (λ t. printed_len (with_braces t)) (sym (blank_text cs blank))
