-- What holds of all rows of the table of kinds holds of each id.
use Rattle.std.proofs.Common.{◌≡◌, ℕ, zero, suc, refl, sym, ◌∙◌, ap, Bool, true, ◌&&◌, List, [], ◌∷◌, eqb-true}
use Rattle.std.specs.Prelude.{◌==◌}
use Rattle.promql_grammar.specs.declared.token_kinds.TokenKind.{TokenKind}
use Rattle.promql_grammar.specs.declared.token_kinds.TokenKind.TheVariants as kind
use Rattle.promql_grammar.specs.declared.token_kinds.TheConstants.{TOKEN_KINDS}
use Rattle.promql_grammar.specs.Symbols.{kind_in, token_kind}
use Rattle.promql_syntax.proofs.parsing.Booleans.{and_cases}

abbrev pub every : (ℕ → TokenKind → Bool) → List (ℕ × TokenKind) → Bool
every p [] = true
every p (row ∷ rows) = p 0 row.1 && every (λ id k. p (suc id) k) rows

pub by_table : (p : ℕ → TokenKind → Bool) (rows : List (ℕ × TokenKind)) → ((id : ℕ) → p id kind.Other ≡ true) → every p rows ≡ true → (id : ℕ) → p id (kind_in rows id) ≡ true
by_table p [] other all id = other id
by_table p (row ∷ rows) other all zero = (and_cases (p 0 row.1) _ all).0
by_table p (row ∷ rows) other all (suc id) = by_table (λ id k. p (suc id) k) rows (λ id. other (suc id)) (and_cases (p 0 row.1) _ all).1 id

-- ---- operators

abbrev pub of_operator : (ℕ → Bool) → TokenKind → Bool
of_operator p (kind.Operator op) = p op
of_operator p k = true

-- what all operators of the table pass
pub operators_pass : (p : ℕ → Bool) → every (λ id k. of_operator p k) TOKEN_KINDS ≡ true → (op : ℕ) → token_kind op ≡ kind.Operator op → p op ≡ true
operators_pass p all op is = ap (of_operator p) (sym is) ∙ by_table (λ id k. of_operator p k) TOKEN_KINDS (λ id. refl) all op

-- the id of an operator is the operator
pub same_operator : (id op : ℕ) → token_kind id ≡ kind.Operator op → token_kind op ≡ kind.Operator op
same_operator id op is =
    let test = by_table (λ id k. of_operator (λ op. op == id) k) TOKEN_KINDS (λ id. refl) refl id in
    let one : op ≡ id = eqb-true op id (ap (of_operator (λ op. op == id)) (sym is) ∙ test) in
    ap token_kind one ∙ is
