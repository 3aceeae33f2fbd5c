-- A tree is closed exactly if it has no operator and no sign outside.
use Rattle.std.proofs.Common.{◌≡◌, ◌≤◌, ℕ, min, refl, ap, arith, Bool, true, false}
use Rattle.std.specs.Prelude.{if◌then◌else◌}
use Rattle.promql_text.specs.Values.{is_below_zero}
use Rattle.promql_grammar.specs.Grammar.{precedence}
use Rattle.promql_ast.specs.Tree.{Tree, aggregate, unary, binary, paren, subquery, number, string, vector, matrix, call, extension}
use Rattle.promql_rewrite.specs.PrintableConditions.{openness}
use Rattle.promql_rewrite.specs.PrintableNodes.{IsSubqueried}
use Rattle.promql_rewrite.proofs.parentheses.ParenPlaces.{precedence_most}

abbrev number_openness : Bool → ℕ
number_openness b = if b then 5 else 7

not_below_zero : (b : Bool) → number_openness b ≡ 7 → b ≡ false
not_below_zero true h = absurd (omega arith)
not_below_zero false h = refl

open_sign : (o : ℕ) → min 5 o ≡ 7 → ⊥
open_sign o h = omega arith

open_operator : (p o : ℕ) → p ≤ 6 → min p o ≡ 7 → ⊥
open_operator p o most h = omega arith

pub closed : (t : Tree) → IsSubqueried t → openness t ≡ 7
closed (aggregate op e p m) h = refl
closed (unary e) h = absurd h
closed (binary op l r m) h = absurd h
closed (paren e) h = refl
closed (subquery e offset at range step) h = refl
closed (number n) h = ap number_openness h
closed (string s) h = refl
closed (vector s) h = refl
closed (matrix s range mode) h = refl
closed (call f args) h = refl
closed (extension name gives es) h = refl

pub subqueried : (t : Tree) → openness t ≡ 7 → IsSubqueried t
subqueried (aggregate op e p m) h = tt
subqueried (unary e) h = open_sign (openness e) h
subqueried (binary op l r m) h = open_operator (precedence op) (openness r) (precedence_most op) h
subqueried (paren e) h = tt
subqueried (subquery e offset at range step) h = tt
subqueried (number n) h = not_below_zero (is_below_zero n) h
subqueried (string s) h = tt
subqueried (vector s) h = tt
subqueried (matrix s range mode) h = tt
subqueried (call f args) h = tt
subqueried (extension name gives es) h = tt
